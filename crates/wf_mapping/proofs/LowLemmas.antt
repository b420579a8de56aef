-- The lowest free frames, one after another.
use Rattle.std.proofs.Common.{◌≡◌, ◌<◌, ◌≤◌, ◌+◌, ◌++◌, ℕ, suc, List, [], ◌∷◌, Bool, true, false, Some, None, length, refl, sym, ap, subst, ◌∙◌, inl, inr, arith, take, length-append}
use Rattle.std.specs.Prelude.{nat_le}
use Rattle.std.specs.List.{AllByRecursion}
use Rattle.std.proofs.lemmas.Bool.Decides.{nat_tests}
use Rattle.std.proofs.lemmas.List.{append-nil, take_all}
use Rattle.wf_outside.specs.Lists.{IsRising}
use Rattle.wf_frames.specs.declared.state.Frame.{Frame}
use Rattle.wf_frames.specs.Frames.{first_from, free_numbers, free_ones, places_from}
use Rattle.wf_frames.proofs.FrameLemmas.{free_more, front_is, length_ones}
use Rattle.wf_homes.proofs.ListLemmas.{true_or_false}

more_of : (P Q : ℕ → Type 0) → ((k : ℕ) → P k → Q k) → (ks : List ℕ) → AllByRecursion P ks → AllByRecursion Q ks
more_of P Q more [] all = tt
more_of P Q more (k ∷ ks) all = (more k all.0, more_of P Q more ks all.1)

-- the places of what is true are at or above the first, and below the end
above : (bs : List Bool) (n : ℕ) → AllByRecursion (λ k. n ≤ k) (places_from n bs)
above [] n = tt
above (true ∷ bs) n = ((omega arith), more_of (λ k. suc n ≤ k) (λ k. n ≤ k) (λ k le. omega arith) (places_from (suc n) bs) (above bs (suc n)))
above (false ∷ bs) n = more_of (λ k. suc n ≤ k) (λ k. n ≤ k) (λ k le. omega arith) (places_from (suc n) bs) (above bs (suc n))

below : (bs : List Bool) (n : ℕ) → AllByRecursion (λ k. k < n + length bs) (places_from n bs)
below [] n = tt
below (true ∷ bs) n = ((omega arith), more_of (λ k. k < suc n + length bs) (λ k. k < n + length (true ∷ bs)) (λ k lt. omega arith) (places_from (suc n) bs) (below bs (suc n)))
below (false ∷ bs) n = more_of (λ k. k < suc n + length bs) (λ k. k < n + length (false ∷ bs)) (λ k lt. omega arith) (places_from (suc n) bs) (below bs (suc n))

rising : (bs : List Bool) (n : ℕ) → IsRising (places_from n bs)
rising [] n = tt
rising (true ∷ bs) n = (more_of (λ k. suc n ≤ k) (λ k. n < k) (λ k le. omega arith) (places_from (suc n) bs) (above bs (suc n)), rising bs (suc n))
rising (false ∷ bs) n = rising bs (suc n)

pub free_rising : (fs : List Frame) → IsRising (free_numbers fs)
free_rising fs = rising (free_ones fs) 0

pub free_low : (fs : List Frame) → AllByRecursion (λ k. k < length fs) (free_numbers fs)
free_low fs = (let e : length (free_ones fs) ≡ length fs = length_ones fs in more_of (λ k. k < 0 + length (free_ones fs)) (λ k. k < length fs) (λ k lt. omega arith) (free_numbers fs) (below (free_ones fs) 0))

-- what is found is one of them
found_one : (P : ℕ → Type 0) (ks : List ℕ) (from k : ℕ) → AllByRecursion P ks → first_from from ks ≡ Some k → P k
found_one P [] from k all e = absurd cc
found_one P (n ∷ ns) from k all e = elim (true_or_false (nat_le from n)) [
  | inl t ↦ (let f : Some n ≡ Some k = (rw t at e) in let same : n ≡ k = cc in subst P same all.0)
  | inr t ↦ found_one P ns from k all.1 (rw t at e)
]

pub found_low : (fs : List Frame) (from k most : ℕ) → length fs ≤ most → first_from from (free_numbers fs) ≡ Some k → k < most
found_low fs from k most le e = (let lt : k < length fs = found_one (λ k. k < length fs) (free_numbers fs) from k (free_low fs) e in omega arith)

-- the first so many are the lowest, and the rest is at or above a number
pub record AreLowest (all frames : List ℕ) (from n : ℕ) : Type 0 where
  pub rest : List ℕ
  pub whole : all ≡ frames ++ rest
  pub passed : AllByRecursion (λ k. k < from) frames
  pub ahead : AllByRecursion (λ k. from ≤ k) rest
  pub up : IsRising rest
  pub count : length frames ≡ n

pub none_lowest : (fs : List Frame) → AreLowest (free_numbers fs) [] 0 0
none_lowest fs = record {
  rest = free_numbers fs;
  whole = refl;
  passed = tt;
  ahead = more_of (λ k. k < length fs) (λ k. 0 ≤ k) (λ k lt. omega arith) (free_numbers fs) (free_low fs);
  up = free_rising fs;
  count = refl;
}

passed_over : (ks rest : List ℕ) (from : ℕ) → AllByRecursion (λ k. k < from) ks → first_from from (ks ++ rest) ≡ first_from from rest
passed_over [] rest from all = refl
passed_over (k ∷ ks) rest from all = (let lt : k < from = all.0 in let t : nat_le from k ≡ false = grind (arith, nat_tests) in rw t (passed_over ks rest from all.1))

-- a list starts with this
record Starts (ks : List ℕ) (k : ℕ) : Type 0 where
  pub more : List ℕ
  pub is : ks ≡ k ∷ more

first_found : (rest : List ℕ) (from k : ℕ) → AllByRecursion (λ k. from ≤ k) rest → first_from from rest ≡ Some k → Starts rest k
first_found [] from k all e = absurd cc
first_found (n ∷ ns) from k all e =
    let le : from ≤ n = all.0 in
    let t : nat_le from n ≡ true = grind (arith, nat_tests) in
    let f : Some n ≡ Some k = (rw t at e) in
    let same : n ≡ k = cc in
    record { more = ns; is = ap (λ (m : ℕ). m ∷ ns) same }

none_found : (rest : List ℕ) (from : ℕ) → AllByRecursion (λ k. from ≤ k) rest → first_from from rest ≡ None → rest ≡ []
none_found [] from all e = refl
none_found (n ∷ ns) from all e =
    let le : from ≤ n = all.0 in
    let t : nat_le from n ≡ true = grind (arith, nat_tests) in
    let f : Some n ≡ None = (rw t at e) in
    absurd cc

pushed_passed : (ks : List ℕ) (from k : ℕ) → AllByRecursion (λ j. j < from) ks → from ≤ k → AllByRecursion (λ j. j < k + 1) (ks ++ k ∷ [])
pushed_passed [] from k all le = ((omega arith), tt)
pushed_passed (j ∷ js) from k all le = ((let lt : j < from = all.0 in omega arith), pushed_passed js from k all.1 le)

module _ (all frames : List ℕ) (from n : ℕ) (are : AreLowest all frames from n) where
  searched : first_from from all ≡ first_from from are.rest
  searched = ap (first_from from) are.whole ∙ passed_over frames are.rest from are.passed

  pub lowest_next : (next : List ℕ) (k : ℕ) → first_from from all ≡ Some k → next ≡ frames ++ k ∷ [] → AreLowest all next (k + 1) (n + 1)
  lowest_next next k e is =
      let s : Starts are.rest k = first_found are.rest from k are.ahead (sym searched ∙ e) in
      let up : IsRising (k ∷ s.more) = subst IsRising s.is are.up in
      let ge : AllByRecursion (λ j. from ≤ j) (k ∷ s.more) = subst (λ (js : List ℕ). AllByRecursion (λ j. from ≤ j) js) s.is are.ahead in
      let len : length (frames ++ k ∷ []) ≡ length frames + 1 = length-append frames (k ∷ []) in
      record {
        rest = s.more;
        whole = free_more all frames next are.rest k s.more are.whole s.is is;
        passed = subst (λ (js : List ℕ). AllByRecursion (λ j. j < k + 1) js) (sym is) (pushed_passed frames from k are.passed ge.0);
        ahead = more_of (λ j. k < j) (λ j. k + 1 ≤ j) (λ j lt. omega arith) s.more up.0;
        up = up.1;
        count = ap length is ∙ len ∙ ap (λ (m : ℕ). m + 1) are.count;
      }

  pub lowest_all : first_from from all ≡ None → (m : ℕ) → n ≤ m → frames ≡ take m all
  lowest_all e m le =
      let none : are.rest ≡ [] = none_found are.rest from are.ahead (sym searched ∙ e) in
      let whole : all ≡ frames = are.whole ∙ ap (λ (ks : List ℕ). frames ++ ks) none ∙ append-nil frames in
      let k : length all ≤ m = (let c : length all ≡ n = ap length whole ∙ are.count in omega arith) in
      sym whole ∙ sym (take_all m all k)

  pub lowest_done : (m : ℕ) → n ≡ m → frames ≡ take m all
  lowest_done m e = front_is all frames are.rest m are.whole (are.count ∙ e)
