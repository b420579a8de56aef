use Rattle.wf_start.specs.Marking.{AreUsed}
use Rattle.wf_boot.proofs.marking.use_frames.Given as goal

abbrev pub invariant-loop-i : goal.invariant-loop-i
invariant-loop-i l = AreUsed l.fn.frames l.frames l.first l.i l.is_data
