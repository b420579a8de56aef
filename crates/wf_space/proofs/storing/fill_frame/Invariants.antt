use Rattle.wf_space.proofs.FillLemmas.{IsFilledTo}
use Rattle.wf_space.proofs.storing.fill_frame.Given as goal

abbrev pub invariant-loop-i : goal.invariant-loop-i
invariant-loop-i l = IsFilledTo l.fn.words l.words l.frame l.page l.i
