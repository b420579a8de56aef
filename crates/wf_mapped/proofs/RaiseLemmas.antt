-- Frames that are free can be in one more incarnation.
use Rattle.std.proofs.Common.{◌≡◌, ◌<◌, ℕ, zero, suc, List, [], ◌∷◌, Bool, true, false, Option, Some, None, sym, subst, inl, inr, arith}
use Rattle.std.specs.Prelude.{nat_lt, replicate}
use Rattle.std.specs.List.{AllByRecursion}
use Rattle.std.proofs.lemmas.Bool.Decides.{nat_tests}
use Rattle.wf_frames.specs.declared.state.Frame.{Frame}
use Rattle.wf_frames.specs.declared.state.FrameState.TheVariants.{Free, InUse, Worn}
use Rattle.wf_frames.specs.Frames.{FramesValue, given, new_frames, with_frame}
use Rattle.wf_frames.specs.Layout.{WordsValue}
use Rattle.wf_frames.proofs.FrameLemmas.{all_changed}
use Rattle.wf_views.specs.declared.pages.PageAt.{PageAt}
use Rattle.wf_views.specs.declared.plan.Change.{Change}
use Rattle.wf_views.specs.declared.plan.Change.TheVariants as change
use Rattle.wf_views.specs.declared.plan.Piece.{Piece}
use Rattle.wf_views.specs.declared.plan.Piece.TheVariants.{Copy, Fill, Leave, Live, Pte}
use Rattle.wf_views.specs.declared.records.Records.{Records}
use Rattle.wf_views.specs.Pages.{page_at}
use Rattle.wf_views.specs.Records.{left}
use Rattle.wf_views.specs.Views.{ViewValue, view_of}
use Rattle.wf_homes.specs.Kept.{fields_at}
use Rattle.wf_homes.proofs.ListLemmas.{true_or_false}
use Rattle.wf_space.proofs.MeetLemmas.{some_of}
use Rattle.wf_space.specs.Changes.{all_given, frame_given, marked, view_frames, view_given, with_change}
use Rattle.wf_space.specs.Pieces.{Leaves, Performs}
use Rattle.wf_mapped.specs.Raising.{CanBeRaised, ChangedCanBeRaised, NewCanBeRaised, PerformedCanBeRaised}

pub new_raised : NewCanBeRaised
unfolding new_frames
new_raised count last_birth lt = copies count
  where
    copies : (n : ℕ) → AllByRecursion (λ (f : Frame). f.state ≡ Free → f.incarnation < last_birth) (replicate n (record { state = Free; incarnation = 0 }))
    copies zero = tt
    copies (suc n) = (λ e. lt, copies n)

-- a frame that is taken is not free
mark_raised : (v : FramesValue) (n : ℕ) (raise : Bool) → CanBeRaised v → CanBeRaised (with_frame v n (marked v.last_birth raise))
mark_raised v n raise all = all_changed (λ (f : Frame). f.state ≡ Free → f.incarnation < v.last_birth) v.frames n (marked v.last_birth raise) (λ f h. one raise f) all
  where
    one : (b : Bool) (f : Frame) → (marked v.last_birth b f).state ≡ Free → (marked v.last_birth b f).incarnation < v.last_birth
    one true f e = absurd (let k : InUse ≡ Free = e in cc)
    one false f e = absurd (let k : InUse ≡ Free = e in cc)

-- one that is given back is free where it is not in its last incarnation
give_raised : (v : FramesValue) (n : ℕ) → CanBeRaised v → CanBeRaised (frame_given v n)
give_raised v n all = all_changed (λ (f : Frame). f.state ≡ Free → f.incarnation < v.last_birth) v.frames n (given v.last_birth) (λ f h. one f) all
  where
    one : (f : Frame) → (given v.last_birth f).state ≡ Free → f.incarnation < v.last_birth
    one f e = elim (true_or_false (nat_lt f.incarnation v.last_birth)) [
      | inl t ↦ (grind (arith, nat_tests))
      | inr t ↦ absurd (let k : Worn ≡ Free = rw t at e in cc)
    ]

all_given_raised : (ns : List ℕ) (v : FramesValue) → CanBeRaised v → CanBeRaised (all_given v ns)
all_given_raised [] v all = all
all_given_raised (n ∷ ns) v all = all_given_raised ns (frame_given v n) (give_raised v n all)

view_raised : (v : FramesValue) (o : Option ViewValue) → CanBeRaised v → CanBeRaised (view_given v o)
view_raised v None all = all
view_raised v (Some view) all = all_given_raised (view_frames view) v all

change_raised : (r : Records) (one : Change) → CanBeRaised r.frames → CanBeRaised (with_change r one).frames
change_raised r (change.Mark frame raise) all = mark_raised r.frames frame raise all
change_raised r (change.Page page) all = all
change_raised r (change.Going page) all = all
change_raised r (change.Node generation node) all = all
change_raised r (change.Reach generation place) all = all
change_raised r (change.Met generation page) all = all
change_raised r (change.Birth n) all = all
change_raised r (change.Born view) all = all
change_raised r (change.Move hart old new) all = all
change_raised r (change.Dead generation) all = view_raised r.frames (view_of r.views generation) all

pub changed_raised : ChangedCanBeRaised
changed_raised r [] all = all
changed_raised r (one ∷ changes) all = changed_raised (with_change r one) changes (change_raised r one all)

-- a page that leaves
left_raised : (held : Bool) (r : Records) (p : PageAt) → CanBeRaised r.frames → CanBeRaised (left held r p).frames
left_raised true r p all = all
left_raised false r p all = give_raised r.frames p.frame all

piece_raised : (old new : WordsValue) (r q : Records) (piece : Piece) → CanBeRaised r.frames → Performs old r piece new q → CanBeRaised q.frames
piece_raised old new r q (Fill frame page) all done = subst (λ (x : Records). CanBeRaised x.frames) (sym done.1) all
piece_raised old new r q (Copy source frame page jumps) all done = subst (λ (x : Records). CanBeRaised x.frames) (sym done.1) all
piece_raised old new r q (Live frame) all done = subst (λ (x : Records). CanBeRaised x.frames) (sym done.1) all
piece_raised old new r q (Pte at value) all done = subst (λ (x : Records). CanBeRaised x.frames) (sym done.1) all
piece_raised old new r q (Leave page) all done =
    let x = some_of (page_at r.pages page) (Leaves old new r q) done in
    subst (λ (x : Records). CanBeRaised x.frames) (sym x.2.records) (left_raised (fields_at old x.0.frame).taken r x.0 all)

pub performed_raised : PerformedCanBeRaised
performed_raised old new r q [] all done = subst (λ (x : Records). CanBeRaised x.frames) (sym done.1) all
performed_raised old new r q (piece ∷ pieces) all done = performed_raised done.words new done.records q pieces (piece_raised old done.words r done.records piece all done.done) done.rest
