use Rattle.std.proofs.Common.{◌≡◌, ◌<◌, ◌≤◌, ◌∙◌, ℕ, List, length, get_or, sym, subst, ap, arith}
use Rattle.std.proofs.lemmas.List.{with_items_is}
use Rattle.wf_frames.specs.declared.state.Frame.{Frame}
use Rattle.wf_frames.specs.declared.state.FrameState.TheVariants.{Free, InUse, Worn}
use Rattle.wf_frames.specs.Frames.{HasState, FramesValue, free_ones, places_from, changed_at, given}
use Rattle.wf_frames.proofs.PlaceLemmas.{places_fewer}
use Rattle.wf_frames.proofs.FrameLemmas.{AreFrames-set, has_one, has_lt, length_ones, set_same, changed_same, given_free, given_worn}
use Rattle.wf_frames.proofs.frames.Frames.give.Goals as goal

used : (v w : FramesValue) (n : ℕ) → v ≡ w → HasState w.frames n InUse → HasState v.frames n InUse
used v w n e h = subst (λ v. HasState v.frames n InUse) (sym e) h

pub put_in-requires : goal.put_in-requires
put_in-requires c =
    let fs = c.self.inside.frames.items in
    let h = used _ _ c.args.frame c.self.view_is c.requires in
    let lt = has_lt fs c.args.frame InUse h in
    let few = places_fewer (free_ones fs) 0 c.args.frame (omega (arith, length_ones fs)) (has_one fs c.args.frame InUse h) in
    omega (arith, few, length_ones fs, ap length c.self.invariant.free_are, c.self.invariant.room_is)

pub set_state-requires : goal.set_state-requires
set_state-requires c =
    let fs = c.self.inside.frames.items in
    let lt = has_lt fs c.args.frame InUse (used _ _ c.args.frame c.self.view_is c.requires) in
    omega (arith, c.deref_mut.ensures.len)

pub invariant_of-self : goal.invariant_of-self
invariant_of-self c =
    let fs = c.self.inside.frames.items in
    let h = used _ _ c.args.frame c.self.view_is c.requires in
    let lt = has_lt fs c.args.frame InUse h in
    let len : length c.set_state.new.frames ≡ c.self.inside.frames.len = omega arith in
    let e = with_items_is c.self.inside.frames c.set_state.new.frames len ∙ (rw c.deref_mut.ensures.value at c.set_state.ensures) in
    AreFrames-set fs _ _ _ _ _ _ c.args.frame Free c.self.invariant e (c.put_in.ensures.places (free_ones fs) c.self.invariant.free_are (omega (arith, length_ones fs)) (has_one fs c.args.frame InUse h)) c.put_in.ensures.room

pub set_state-requires-else-index-self : goal.set_state-requires-else-index-self
set_state-requires-else-index-self c =
    let fs = c.self.inside.frames.items in
    let lt = has_lt fs c.args.frame InUse (used _ _ c.args.frame c.self.view_is c.requires) in
    omega (arith, c.deref_mut-else-index-self.ensures.len)

pub invariant_of-self-else-index-self : goal.invariant_of-self-else-index-self
invariant_of-self-else-index-self c =
    let fs = c.self.inside.frames.items in
    let h = used _ _ c.args.frame c.self.view_is c.requires in
    let lt = has_lt fs c.args.frame InUse h in
    let len : length c.set_state-else-index-self.new.frames ≡ c.self.inside.frames.len = omega arith in
    let e = with_items_is c.self.inside.frames c.set_state-else-index-self.new.frames len ∙ (rw c.deref_mut-else-index-self.ensures.value at c.set_state-else-index-self.ensures) in
    AreFrames-set fs _ _ _ _ _ _ c.args.frame Worn c.self.invariant e (c.self.invariant.free_are ∙ ap (places_from 0) (sym (set_same (free_ones fs) c.args.frame (has_one fs c.args.frame InUse h) (omega (arith, length_ones fs))))) (omega arith)

-- the frames are replaced, and the rest stays
given_value : (v w : FramesValue) (fs : List Frame) (n : ℕ) (d : Frame) (g : Frame → Frame) → fs ≡ changed_at v.frames n g → v ≡ w → n < length v.frames → g (get_or v.frames n d) ≡ given v.last_birth (get_or v.frames n d)
    → record v { frames = fs } ≡ record w { frames = changed_at w.frames n (given w.last_birth) }
given_value v w fs n d g e same lt here =
    ap {B = FramesValue} (λ xs. record v { frames = xs }) (e ∙ changed_same v.frames n g (given v.last_birth) d lt here) ∙ ap (λ (x : FramesValue). record x { frames = changed_at x.frames n (given x.last_birth) }) same

pub returns-then-index-self : goal.returns-then-index-self
returns-then-index-self c =
    let fs = c.self.inside.frames.items in
    let lt = has_lt fs c.args.frame InUse (used _ _ c.args.frame c.self.view_is c.requires) in
    let len : length c.set_state.new.frames ≡ c.self.inside.frames.len = omega arith in
    let e = with_items_is c.self.inside.frames c.set_state.new.frames len ∙ (rw c.deref_mut.ensures.value at c.set_state.ensures) in
    given_value _ _ _ c.args.frame c.index.result.now (λ f. record f { state = Free }) e c.self.view_is lt (given_free _ (get_or fs c.args.frame c.index.result.now) (subst (λ (f : Frame). f.incarnation < c.self.inside.last_birth) c.index.ensures c.if-index-self.true))

pub returns-else-index-self : goal.returns-else-index-self
returns-else-index-self c =
    let fs = c.self.inside.frames.items in
    let lt = has_lt fs c.args.frame InUse (used _ _ c.args.frame c.self.view_is c.requires) in
    let len : length c.set_state-else-index-self.new.frames ≡ c.self.inside.frames.len = omega arith in
    let e = with_items_is c.self.inside.frames c.set_state-else-index-self.new.frames len ∙ (rw c.deref_mut-else-index-self.ensures.value at c.set_state-else-index-self.ensures) in
    given_value _ _ _ c.args.frame c.index.result.now (λ f. record f { state = Worn }) e c.self.view_is lt (given_worn _ (get_or fs c.args.frame c.index.result.now) (subst (λ (f : Frame). c.self.inside.last_birth ≤ f.incarnation) c.index.ensures c.if-index-self.false))
