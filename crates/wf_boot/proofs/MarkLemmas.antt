-- Frames that are taken one behind another.
use Rattle.std.proofs.Common.{◌≡◌, ◌≢◌, ◌<◌, ◌+◌, ℕ, zero, suc, List, [], ◌∷◌, Bool, Some, refl, ap, ◌∙◌, inl, inr, arith}
use Rattle.std.specs.Prelude.{slice_get}
use Rattle.wf_frames.specs.declared.state.Frame.{Frame}
use Rattle.wf_frames.specs.declared.state.FrameState.TheVariants.{Free}
use Rattle.wf_frames.specs.Frames.{FramesValue, HasState, changed_at, with_frame}
use Rattle.wf_frames.proofs.FrameLemmas.{length_changed}
use Rattle.wf_homes.proofs.ListLemmas.{one_or_two}
use Rattle.wf_homes.proofs.FoundLemmas.{some_at}
use Rattle.wf_space.specs.Changes.{marked}
use Rattle.wf_start.specs.Marking.{AreFresh, AreUsed, fresh_frame}

frame_here : (fs : List Frame) (i : ℕ) (g : Frame → Frame) (x : Frame) → slice_get fs i ≡ Some x → slice_get (changed_at fs i g) i ≡ Some (g x)
frame_here [] i g x e = absurd cc
frame_here (f ∷ fs) zero g x e = (let k : Some f ≡ Some x = e in let same : f ≡ x = cc in ap (λ (y : Frame). Some (g y)) same)
frame_here (f ∷ fs) (suc i) g x e = frame_here fs i g x e

frame_there : (fs : List Frame) (i k : ℕ) (g : Frame → Frame) → k ≢ i → slice_get (changed_at fs i g) k ≡ slice_get fs k
frame_there [] i k g apart = refl
frame_there (f ∷ fs) zero zero g apart = absurd (apart refl)
frame_there (f ∷ fs) zero (suc k) g apart = refl
frame_there (f ∷ fs) (suc i) zero g apart = refl
frame_there (f ∷ fs) (suc i) (suc k) g apart = frame_there fs i k g (λ e. apart (ap suc e))

pub none_used : (frames : FramesValue) (first : ℕ) (is_data : Bool) → AreUsed frames frames first 0 is_data
none_used frames first is_data = record { last_birth = refl; count = refl; used = λ j lt. absurd (omega arith); others = λ f apart. refl }

-- the next one is free still
pub still_free : (old now : FramesValue) (first frame n count : ℕ) (is_data : Bool) → AreFresh old first count → AreUsed old now first n is_data → frame ≡ first + n → n < count → HasState now.frames frame Free
still_free old now first frame n count is_data fresh are f lt =
    let e : slice_get now.frames (first + n) ≡ Some fresh_frame = are.others (first + n) (λ j lj same. absurd (omega arith)) ∙ fresh n lt in
    rw f (some_at (slice_get now.frames (first + n)) (λ (x : Frame). x.state ≡ Free) fresh_frame e refl)

-- and one more is taken
pub used_next : (old now next : FramesValue) (first frame n m count : ℕ) (is_data : Bool) → AreFresh old first count → AreUsed old now first n is_data → frame ≡ first + n → m ≡ n + 1 → n < count
    → next ≡ with_frame now frame (marked now.last_birth is_data) → AreUsed old next first m is_data
used_next old now next first frame n m count is_data fresh are f e lt is = rw (is, f, e) (record {
  last_birth = are.last_birth;
  count = length_changed now.frames (first + n) (marked now.last_birth is_data) ∙ are.count;
  used = λ j lj. (elim (one_or_two j n) [
    | inl here ↦ (
        let was : slice_get now.frames (first + n) ≡ Some fresh_frame = are.others (first + n) (λ k lk same. absurd (omega arith)) ∙ fresh n lt in
        rw here (frame_here now.frames (first + n) (marked now.last_birth is_data) fresh_frame was ∙ ap (λ (last : ℕ). Some (marked last is_data fresh_frame)) are.last_birth)
        )
    | inr apart ↦ (frame_there now.frames (first + n) (first + j) (marked now.last_birth is_data) (λ same. apart (omega arith)) ∙ are.used j (omega arith))
  ]);
  others = λ g apart. (frame_there now.frames (first + n) g (marked now.last_birth is_data) (apart n (omega arith)) ∙ are.others g (λ j lj. apart j (omega arith)));
})
