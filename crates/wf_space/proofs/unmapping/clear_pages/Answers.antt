use Rattle.wf_space.specs.Unmapping.{leaves_cleared}
use Rattle.wf_space.proofs.PushLemmas.{range_next}
use Rattle.wf_space.proofs.unmapping.clear_pages.Goals as goal

pub loop-i-preserved : goal.loop-i-preserved
loop-i-preserved c =
    range_next (leaves_cleared c.args.records.now.limits.frames c.args.records.now.views.views) c.args.first c.args.pages c.loop-i.i c.args.pieces.now c.loop-i.pieces c.clear_leaves.new.pieces c.loop-i-test.true c.loop-i.invariant c.clear_leaves.ensures
