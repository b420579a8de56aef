use Rattle.wf_text.proofs.WriteLemmas.{IsLastSoFar}
use Rattle.wf_text.proofs.writing.push_last_hex.Given as goal

abbrev pub invariant-loop-place : goal.invariant-loop-place
invariant-loop-place l = IsLastSoFar l.width l.n l.left l.place l.buffer
