use Rattle.std.proofs.Common.{drop}
use Rattle.wf_space.specs.Unmapping.{leaf_cleared}
use Rattle.wf_space.proofs.PushLemmas.{ArePushed}
use Rattle.wf_space.proofs.unmapping.clear_leaves.Given as goal

abbrev pub invariant-loop-i : goal.invariant-loop-i
invariant-loop-i l = ArePushed (leaf_cleared l.records.limits.frames l.page) (drop l.i l.records.views.views) l.records.views.views l.fn.pieces l.pieces
