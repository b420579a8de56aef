use Rattle.std.proofs.Common.{length}
use Rattle.wf_script.proofs.LineLemmas.{IsReadSoFar}
use Rattle.wf_script.proofs.reading.read_lines.Given as goal

abbrev pub invariant-loop-rest : goal.invariant-loop-rest
invariant-loop-rest l = IsReadSoFar l.harts l.bytes l.script l.number l.rest

abbrev pub decreases-loop-rest : goal.decreases-loop-rest
decreases-loop-rest l = length l.rest
