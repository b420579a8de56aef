use Rattle.std.proofs.Common.{length}
use Rattle.patch_file.proofs.LineLemmas.{IsLeft}
use Rattle.patch_file.proofs.lines.next_line.Given as goal

abbrev pub invariant-loop-rest : goal.invariant-loop-rest
invariant-loop-rest l = IsLeft l.first l.bytes l.number l.rest

abbrev pub decreases-loop-rest : goal.decreases-loop-rest
decreases-loop-rest l = length l.rest
