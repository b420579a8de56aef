use Rattle.std.proofs.Common.{◌≡◌, ◌∙◌, length, sym, subst, arith}
use Rattle.std.proofs.lemmas.List.{with_items_is}
use Rattle.wf_frames.specs.declared.state.FrameState.TheVariants.{Free, InUse}
use Rattle.wf_frames.specs.Frames.{HasState, free_ones}
use Rattle.wf_frames.proofs.FrameLemmas.{AreFrames-set, has_one}
use Rattle.wf_frames.proofs.frames.Frames.mark.Goals as goal

pub invariant_of-self : goal.invariant_of-self
invariant_of-self c =
    let fs = c.self.inside.frames.items in
    let h : HasState fs c.args.frame Free = subst (λ v. HasState v.frames c.args.frame Free) (sym c.self.view_is) c.requires in
    let len : length c.set_state.new.frames ≡ c.self.inside.frames.len = omega arith in
    let e = with_items_is c.self.inside.frames c.set_state.new.frames len ∙ (rw c.deref_mut.ensures.value at c.set_state.ensures) in
    AreFrames-set fs _ _ _ _ _ _ c.args.frame InUse c.self.invariant e (c.take_out.ensures.places (free_ones fs) c.self.invariant.free_are (has_one fs c.args.frame Free h)) (omega (arith, c.take_out.ensures.room))
