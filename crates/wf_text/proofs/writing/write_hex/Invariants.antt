use Rattle.wf_text.proofs.WriteLemmas.{IsHexSoFar}
use Rattle.wf_text.proofs.writing.write_hex.Given as goal

abbrev pub invariant-loop-left : goal.invariant-loop-left
invariant-loop-left l = IsHexSoFar l.n l.left l.at l.buffer

abbrev pub decreases-loop-left : goal.decreases-loop-left
decreases-loop-left l = l.left
