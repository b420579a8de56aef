-- Frames after some were given back.
use Rattle.std.proofs.Common.{◌≡◌, ◌+◌, ◌||◌, ℕ, zero, suc, List, [], ◌∷◌, Bool, true, false, Option, Some, None, length, refl, sym, ap, ◌∙◌, inl, inr, arith, if◌then◌else◌, nat_eq}
use Rattle.std.specs.Prelude.{slice_get, sum_by}
use Rattle.std.specs.Option.{option_map}
use Rattle.std.specs.Set.{is_member}
use Rattle.std.proofs.lemmas.Bool.Decides.{nat_tests}
use Rattle.std.proofs.lemmas.List.Sums.{sum_by-cons}
use Rattle.wf_frames.specs.declared.state.Frame.{Frame}
use Rattle.wf_frames.specs.Frames.{FramesValue, changed_at, given}
use Rattle.wf_frames.proofs.FrameLemmas.{length_changed}
use Rattle.wf_homes.proofs.ListLemmas.{true_or_false}
use Rattle.wf_space.specs.Changes.{all_given, frame_given}

-- numbers that are tested
next_test : (i n : ℕ) → nat_eq i n ≡ nat_eq (suc i) (suc n)
next_test i n = elim (true_or_false (nat_eq i n)) [
  | inl t ↦ (let u : nat_eq (suc i) (suc n) ≡ true = grind (arith, nat_tests) in t ∙ sym u)
  | inr t ↦ (let u : nat_eq (suc i) (suc n) ≡ false = grind (arith, nat_tests) in t ∙ sym u)
]

-- one frame changes
pub changed_one : (fs : List Frame) (n i : ℕ) (f : Frame → Frame) → slice_get (changed_at fs n f) i ≡ option_map (λ x. if nat_eq i n then f x else x) (slice_get fs i)
changed_one [] n i f = refl
changed_one (x ∷ xs) zero zero f = refl
changed_one (x ∷ xs) zero (suc i) f = (let t : nat_eq (suc i) 0 ≡ false = grind (arith, nat_tests) in rw t (others (slice_get xs i)))
  where
    others : (o : Option Frame) → o ≡ option_map (λ x. if false then f x else x) o
    others None = refl
    others (Some y) = refl
changed_one (x ∷ xs) (suc n) zero f = (let t : nat_eq 0 (suc n) ≡ false = grind (arith, nat_tests) in rw t refl)
changed_one (x ∷ xs) (suc n) (suc i) f = changed_one xs n i f ∙ ap (λ (b : Bool). option_map (λ y. if b then f y else y) (slice_get xs i)) (next_test i n)

-- frames are given back: each of these numbers, once or more
pub given_at : (ns : List ℕ) (v : FramesValue) (i : ℕ) → slice_get (all_given v ns).frames i ≡ option_map (λ x. if is_member nat_eq ns i then given v.last_birth x else x) (slice_get v.frames i)
given_at [] v i = as_is (slice_get v.frames i)
  where
    as_is : (o : Option Frame) → o ≡ option_map (λ x. if false then given v.last_birth x else x) o
    as_is None = refl
    as_is (Some x) = refl
given_at (n ∷ ns) v i =
    given_at ns (frame_given v n) i
    ∙ ap (option_map (λ x. if is_member nat_eq ns i then given v.last_birth x else x)) (changed_one v.frames n i (given v.last_birth))
    ∙ both (nat_eq i n) (is_member nat_eq ns i) (slice_get v.frames i)
  where
    both : (a b : Bool) (o : Option Frame) → option_map (λ x. if b then given v.last_birth x else x) (option_map (λ x. if a then given v.last_birth x else x) o) ≡ option_map (λ x. if (a || b) then given v.last_birth x else x) o
    both a b None = refl
    both true true (Some x) = refl
    both true false (Some x) = refl
    both false true (Some x) = refl
    both false false (Some x) = refl

pub last_given : (ns : List ℕ) (v : FramesValue) → (all_given v ns).last_birth ≡ v.last_birth
last_given [] v = refl
last_given (n ∷ ns) v = last_given ns (frame_given v n)

pub length_given : (ns : List ℕ) (v : FramesValue) → length (all_given v ns).frames ≡ length v.frames
length_given [] v = refl
length_given (n ∷ ns) v = length_given ns (frame_given v n) ∙ length_changed v.frames n (given v.last_birth)

sum_one : (fs : List Frame) (i last : ℕ) → sum_by (λ f. f.incarnation) (changed_at fs i (given last)) ≡ sum_by (λ f. f.incarnation) fs
sum_one [] i last = refl
sum_one (y ∷ fs) zero last = sum_by-cons (λ (f : Frame). f.incarnation) (given last y) fs ∙ sym (sum_by-cons (λ (f : Frame). f.incarnation) y fs)
sum_one (y ∷ fs) (suc i) last =
    sum_by-cons (λ (f : Frame). f.incarnation) y (changed_at fs i (given last)) ∙ ap (λ (n : ℕ). y.incarnation + n) (sum_one fs i last) ∙ sym (sum_by-cons (λ (f : Frame). f.incarnation) y fs)

pub sum_given : (ns : List ℕ) (v : FramesValue) → sum_by (λ f. f.incarnation) (all_given v ns).frames ≡ sum_by (λ f. f.incarnation) v.frames
sum_given [] v = refl
sum_given (n ∷ ns) v = sum_given ns (frame_given v n) ∙ sum_one v.frames n v.last_birth

-- a frame that is given back has its incarnation still
pub same_incarnation : (b : Bool) (last : ℕ) (x : Frame) → (if b then given last x else x).incarnation ≡ x.incarnation
same_incarnation true last x = refl
same_incarnation false last x = refl
