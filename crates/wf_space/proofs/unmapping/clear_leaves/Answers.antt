use Rattle.std.proofs.Common.{◌∙◌, ℕ, suc, add-one, ap, drop}
use Rattle.wf_space.specs.Jobs.{all_pushed}
use Rattle.wf_space.specs.Unmapping.{leaf_cleared}
use Rattle.wf_space.proofs.PushLemmas.{drop_get, push_next, push_room}
use Rattle.wf_space.proofs.unmapping.clear_leaves.Goals as goal

pub clear_leaf-requires : goal.clear_leaf-requires
clear_leaf-requires c =
    let views = c.args.records.now.views.views in
    rw c.frame_count-frames.ensures
    (push_room (leaf_cleared c.args.records.now.limits.frames c.args.page) (drop c.loop-i.i views) views (drop (suc c.loop-i.i) views) c.at.result.now c.args.pieces.now c.loop-i.pieces c.loop-i.invariant (drop_get views c.loop-i.i c.at.result.now c.at.ensures))

pub loop-i-preserved : goal.loop-i-preserved
loop-i-preserved c =
    let views = c.args.records.now.views.views in
    rw add-one (push_next (leaf_cleared c.args.records.now.limits.frames c.args.page) (drop c.loop-i.i views) views (drop (suc c.loop-i.i) views) c.at.result.now c.args.pieces.now c.loop-i.pieces c.clear_leaf.new.pieces c.loop-i.invariant (drop_get views c.loop-i.i c.at.result.now c.at.ensures)
    (c.clear_leaf.ensures ∙ ap (λ (n : ℕ). all_pushed (leaf_cleared n c.args.page c.at.result.now) c.loop-i.pieces) c.frame_count-frames.ensures))
