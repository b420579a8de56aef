use Rattle.wf_start.specs.Laying.{AreLive}
use Rattle.wf_laying.proofs.laying.make_all_live.Given as goal

abbrev pub invariant-loop-i : goal.invariant-loop-i
invariant-loop-i l = AreLive l.fn.words l.words l.first l.i
