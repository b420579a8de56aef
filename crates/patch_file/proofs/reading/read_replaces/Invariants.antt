use Rattle.std.proofs.Common.{length}
use Rattle.patch_file.proofs.ReplaceLemmas.{IsReadSoFar}
use Rattle.patch_file.proofs.reading.read_replaces.Given as goal

abbrev pub invariant-loop-line : goal.invariant-loop-line
invariant-loop-line l = IsReadSoFar l.first l.bytes l.replaces.items l.number l.rest

abbrev pub decreases-loop-line : goal.decreases-loop-line
decreases-loop-line l = length l.rest
