-- Frames that are marked, and frames that are given back one after another.
use Rattle.std.proofs.Common.{◌≡◌, ◌≢◌, ◌<◌, ◌++◌, ℕ, zero, suc, List, [], ◌∷◌, Bool, true, false, Option, Some, None, length, map, drop, get_or, refl, sym, ap, subst, ◌∙◌, arith, nat_eq, add-one, ◌+◌, drop-cons, is_some, if◌then◌else◌, ◌==◌}
use Rattle.std.specs.Prelude.{IsSome}
use Rattle.std.specs.Option.{option_map}
use Rattle.std.specs.List.{AllByRecursion, IsDistinct}
use Rattle.std.proofs.lemmas.Bool.Decides.{nat_tests}
use Rattle.wf_frames.specs.declared.state.Frame.{Frame}
use Rattle.wf_frames.specs.declared.state.FrameState.{FrameState}
use Rattle.wf_frames.specs.declared.state.FrameState.TheVariants.{Free, InUse}
use Rattle.wf_frames.specs.Frames.{FramesValue, HasState, changed_at, raised, taken, with_frame}
use Rattle.wf_frames.proofs.FrameLemmas.{has_lt, length_changed}
use Rattle.wf_views.specs.Views.{ViewValue, ViewsValue, generation_number, view_of, with_view}
use Rattle.wf_homes.proofs.FoundLemmas.{found_changed}
use Rattle.wf_homes.proofs.ListLemmas.{all_front, distinct_front}
use Rattle.wf_space.specs.Changes.{CanBeGiven, all_given, frame_given, marked}

-- a frame that changes twice
changed_twice : (fs : List Frame) (i : ℕ) (g h : Frame → Frame) → changed_at (changed_at fs i g) i h ≡ changed_at fs i (λ f. h (g f))
changed_twice [] i g h = refl
changed_twice (f ∷ fs) zero g h = refl
changed_twice (f ∷ fs) (suc i) g h = ap (λ (gs : List Frame). f ∷ gs) (changed_twice fs i g h)

-- a frame that was marked is there
pub marked_low : (v w : FramesValue) (i : ℕ) → HasState v.frames i Free → w ≡ with_frame v i taken → i < length w.frames
marked_low v w i free e =
    let a : length w.frames ≡ length v.frames = ap (λ (u : FramesValue). length u.frames) e ∙ length_changed v.frames i taken in
    let b : i < length v.frames = has_lt v.frames i Free free in
    omega arith

-- and raised
pub marked_raised : (v w x : FramesValue) (i : ℕ) (raise : Bool) → raise ≡ true → w ≡ with_frame v i taken → x ≡ with_frame w i (raised w.last_birth) → x ≡ with_frame v i (marked v.last_birth raise)
marked_raised v w x i raise t e f =
    f ∙ ap (λ (u : FramesValue). with_frame u i (raised u.last_birth)) e
    ∙ ap (λ (gs : List Frame). let made : FramesValue = record { frames = gs; last_birth = v.last_birth } in made) (changed_twice v.frames i taken (raised v.last_birth))
    ∙ ap (λ (b : Bool). with_frame v i (marked v.last_birth b)) (sym t)

-- the state of another frame stays
pub other_state : (fs : List Frame) (i n : ℕ) (g : Frame → Frame) (st : FrameState) → i ≢ n → HasState fs n st → HasState (changed_at fs i g) n st
other_state [] i n g st apart has = has
other_state (f ∷ fs) zero zero g st apart has = absurd (apart refl)
other_state (f ∷ fs) zero (suc n) g st apart has = has
other_state (f ∷ fs) (suc i) zero g st apart has = has
other_state (f ∷ fs) (suc i) (suc n) g st apart has = other_state fs i n g st (λ e. apart (ap suc e)) has

-- frames that can be given back: one, the rest, and those in front
pub give_rest : (v : FramesValue) (n : ℕ) (ns : List ℕ) → CanBeGiven v (n ∷ ns) → CanBeGiven (frame_given v n) ns
unfolding IsDistinct
give_rest v n ns can = record { used = rest ns can.used.1 can.apart.0; apart = can.apart.1 }
  where
    rest : (ms : List ℕ) → AllByRecursion (λ m. HasState v.frames m InUse) ms → AllByRecursion (λ m. nat_eq n m ≡ false) ms → AllByRecursion (λ m. HasState (frame_given v n).frames m InUse) ms
    rest [] used apart = tt
    rest (m ∷ ms) used apart = (other_state v.frames n m _ InUse (λ e. (let t : nat_eq n m ≡ true = grind (arith, nat_tests) in let f : nat_eq n m ≡ false = apart.0 in absurd cc)) used.0, rest ms used.1 apart.1)

pub give_back : (v : FramesValue) (ns ms : List ℕ) → CanBeGiven v (ns ++ ms) → CanBeGiven (all_given v ns) ms
give_back v [] ms can = can
give_back v (n ∷ ns) ms can = give_back (frame_given v n) ns ms (give_rest v n (ns ++ ms) can)

pub give_front : (v : FramesValue) (ns ms : List ℕ) → CanBeGiven v (ns ++ ms) → CanBeGiven v ns
give_front v ns ms can = record { used = all_front (λ m. HasState v.frames m InUse) ns ms can.used; apart = distinct_front nat_eq ns ms can.apart }

pub give_used : (v : FramesValue) (n : ℕ) (ns : List ℕ) → CanBeGiven v (n ∷ ns) → HasState v.frames n InUse
give_used v n ns can = can.used.0

-- what is left of a list, in a loop over it
module _ {A : Type 0} (frame : A → ℕ) where
  left_is : (xs : List A) (i : ℕ) (d : A) → i < length xs → map frame (drop i xs) ≡ frame (get_or xs i d) ∷ map frame (drop (suc i) xs)
  left_is xs i d lt = ap (map frame) (drop-cons xs i d lt)

  -- frames are still to be given back
  pub record AreLeft (old now : FramesValue) (xs : List A) (i : ℕ) : Type 0 where
    pub can : CanBeGiven now (map frame (drop i xs))
    pub whole : all_given now (map frame (drop i xs)) ≡ all_given old (map frame xs)

  pub left_used : (old now : FramesValue) (xs : List A) (i : ℕ) (d : A) → AreLeft old now xs i → i < length xs → HasState now.frames (frame (get_or xs i d)) InUse
  left_used old now xs i d left lt = give_used now (frame (get_or xs i d)) (map frame (drop (suc i) xs)) (subst (CanBeGiven now) (left_is xs i d lt) left.can)

  pub left_next : (old now next : FramesValue) (xs : List A) (i : ℕ) (d : A) → AreLeft old now xs i → i < length xs → next ≡ frame_given now (frame (get_or xs i d)) → AreLeft old next xs (i + 1)
  left_next old now next xs i d left lt made =
      let x : A = get_or xs i d in
      let is = left_is xs i d lt in
      let can : CanBeGiven next (map frame (drop (suc i) xs)) = subst (λ (v : FramesValue). CanBeGiven v (map frame (drop (suc i) xs))) (sym made) (give_rest now (frame x) (map frame (drop (suc i) xs)) (subst (CanBeGiven now) is left.can)) in
      let whole : all_given next (map frame (drop (suc i) xs)) ≡ all_given old (map frame xs) =
      ap (λ (v : FramesValue). all_given v (map frame (drop (suc i) xs))) made ∙ sym (ap (all_given now) is) ∙ left.whole in
      rw add-one (record { can = can; whole = whole })

-- a view is there where one changes
pub view_there : (v w : ViewsValue) (g k : ℕ) (f : ViewValue → ViewValue) → ((x : ViewValue) → (f x).generation ≡ x.generation) → w ≡ with_view v g f → IsSome (view_of v k) → IsSome (view_of w k)
view_there v w g k f same e there =
    ap (λ (u : ViewsValue). is_some (view_of u k)) e ∙ ap is_some (found_changed generation_number f same v.views g k) ∙ mapped (view_of v k) there
  where
    mapped : (o : Option ViewValue) → IsSome o → is_some (option_map (λ x. if generation_number x == g then f x else x) o) ≡ true
    mapped None s = s
    mapped (Some x) s = refl
