-- Lists in the order of numbers: a search in one, and one more element.
use Rattle.std.proofs.Common.{◌≡◌, ◌<◌, ◌≤◌, ◌+◌, ◌-◌, ◌/◌, ℕ, zero, suc, List, [], ◌∷◌, length, get_or, refl, ap, ◌∙◌, arith}
use Rattle.std.specs.List.{AllByRecursion, insert}
use Rattle.std.proofs.lemmas.Bool.Decides.{nat_tests}
use Rattle.std.proofs.lemmas.Bool.{cases_order}
use Rattle.std.proofs.Common.{inl, inr}
use Rattle.std.specs.Prelude.{Result, Ok, Err, MatchResult}
use Rattle.std.specs.Ordering.{nat_cmp}
use Rattle.std.specs.List.Sorted.{IsBinarySearchResult}
use Rattle.std.proofs.lemmas.List.Sorted.{searched}
use Rattle.wf_outside.specs.Lists.{IsRising}
use Rattle.wf_flat.specs.Lists.{with_number}
use Rattle.wf_flat.specs.Boot.{places_with}
use Rattle.wf_outside.proofs.RisingLemmas.{all_at, rising_le}

pub with_past : (n m : ℕ) (ms : List ℕ) → m < n → with_number n (m ∷ ms) ≡ m ∷ with_number n ms
with_past n m ms h = grind (arith, nat_tests)

pub with_same : (n m : ℕ) (ms : List ℕ) → m ≡ n → with_number n (m ∷ ms) ≡ m ∷ ms
with_same n m ms h = grind (arith, nat_tests)

pub with_here : (n m : ℕ) (ms : List ℕ) → n < m → with_number n (m ∷ ms) ≡ n ∷ m ∷ ms
with_here n m ms h = grind (arith, nat_tests)

-- the number is there
pub with_there : (n : ℕ) (xs : List ℕ) (i : ℕ) → IsRising xs → i < length xs → get_or xs i 0 ≡ n → with_number n xs ≡ xs
with_there n [] i up h e = absurd (omega arith)
with_there n (m ∷ ms) zero up h e = with_same n m ms e
with_there n (m ∷ ms) (suc i) up h e =
    let lt : m < n = (let k : m < get_or ms i 0 = all_at (λ x. m < x) ms i 0 up.0 (omega arith) in omega arith) in
    with_past n m ms lt ∙ ap (λ (xs : List ℕ). m ∷ xs) (with_there n ms i up.1 (omega arith) e)

-- it is to stand at i
pub with_absent : (n : ℕ) (xs : List ℕ) (i : ℕ) → i ≤ length xs → ((k : ℕ) → k < i → get_or xs k 0 < n) → ((k : ℕ) → i ≤ k → k < length xs → n < get_or xs k 0) → with_number n xs ≡ insert xs i n
with_absent n [] zero h below above = refl
with_absent n [] (suc i) h below above = absurd (omega arith)
with_absent n (m ∷ ms) zero h below above = with_here n m ms (above 0 (omega arith) (omega arith))
with_absent n (m ∷ ms) (suc i) h below above =
    with_past n m ms (below 0 (omega arith))
    ∙ ap (λ (xs : List ℕ). m ∷ xs) (with_absent n ms i (omega arith) (λ k lt. below (suc k) (omega arith)) (λ k le lt. above (suc k) (omega arith) (omega arith)))

-- what is below all and the number is below all with it
all_with : (a n : ℕ) (xs : List ℕ) → AllByRecursion (λ m. a < m) xs → a < n → AllByRecursion (λ m. a < m) (with_number n xs)
all_with a n [] all h = (h, tt)
all_with a n (m ∷ ms) all h = elim (cases_order m n) [
  | inl e ↦ (rw (with_same n m ms e) all)
  | inr o ↦ (elim o [
    | inl lt ↦ (rw (with_past n m ms lt) (all.0, all_with a n ms all.1 h))
    | inr gt ↦ (rw (with_here n m ms gt) (h, all))
  ])
]

all_above : (a b : ℕ) (xs : List ℕ) → a < b → AllByRecursion (λ m. b < m) xs → AllByRecursion (λ m. a < m) xs
all_above a b [] h all = tt
all_above a b (x ∷ xs) h all = (let k : b < x = all.0 in omega arith, all_above a b xs h all.1)

-- a rising list stays one
pub IsRising-with_number : (n : ℕ) (xs : List ℕ) → IsRising xs → IsRising (with_number n xs)
IsRising-with_number n [] up = (tt, tt)
IsRising-with_number n (m ∷ ms) up = elim (cases_order m n) [
  | inl e ↦ (rw (with_same n m ms e) up)
  | inr o ↦ (elim o [
    | inl lt ↦ (rw (with_past n m ms lt) (all_with m n ms up.0 lt, IsRising-with_number n ms up.1))
    | inr gt ↦ (rw (with_here n m ms gt) ((gt, all_above n m ms gt up.0), up))
  ])
]

-- what a search in a rising list says of it with the number
pub with_searched : (n : ℕ) (xs : List ℕ) (r : Result ℕ ℕ) → IsBinarySearchResult (λ y. nat_cmp y n) xs r → IsRising xs
    → MatchResult r (λ i. with_number n xs ≡ xs) (λ i. with_number n xs ≡ insert xs i n)
with_searched n xs (Ok i) h up = let w = searched xs n (Ok i) h (rising_le xs up) in with_there n xs i up w.0 w.1
with_searched n xs (Err i) h up = let w = searched xs n (Err i) h (rising_le xs up) in with_absent n xs i w.0 w.1 w.2

all_next : (a : ℕ) (ns : List ℕ) → AllByRecursion (λ m. a < m) ns → AllByRecursion (λ m. a + 1 ≤ m) ns
all_next a [] all = tt
all_next a (n ∷ ns) all = (let k : a < n = all.0 in omega arith, all_next a ns all.1)

all_zero : (ns : List ℕ) → AllByRecursion (λ m. 0 ≤ m) ns
all_zero [] = tt
all_zero (n ∷ ns) = (omega arith, all_zero ns)

room : (a n : ℕ) (ns : List ℕ) → IsRising ns → AllByRecursion (λ m. a ≤ m) ns → AllByRecursion (λ m. m < n) ns → length ns ≤ n - a
room a n [] up low high = omega arith
room a n (m ∷ ms) up low high =
    let rest : length ms ≤ n - (m + 1) = room (m + 1) n ms up.1 (all_next m ms up.0) high.1 in
    let at : a ≤ m = low.0 in
    let below : m < n = high.0 in
    omega arith

-- a rising list of numbers below n has at most n
pub length-rising : (n : ℕ) (ns : List ℕ) → IsRising ns → AllByRecursion (λ m. m < n) ns → length ns ≤ n
length-rising n ns up high = let k : length ns ≤ n - 0 = room 0 n ns up (all_zero ns) high in omega arith

length-with_number : (n : ℕ) (ns : List ℕ) → length (with_number n ns) ≤ length ns + 1
length-with_number n [] = omega arith
length-with_number n (m ∷ ms) = elim (cases_order m n) [
  | inl e ↦ (rw (with_same n m ms e) (omega arith))
  | inr o ↦ (elim o [
    | inl lt ↦ (rw (with_past n m ms lt) (let k : length (with_number n ms) ≤ length ms + 1 = length-with_number n ms in omega arith))
    | inr gt ↦ (rw (with_here n m ms gt) (omega arith))
  ])
]

-- there are no more places than numbers
pub length-places_with : (places ns : List ℕ) → length (places_with places ns) ≤ length places + length ns
unfolding places_with
length-places_with places [] = omega arith
length-places_with places (n ∷ ns) =
    let rest : length (places_with (with_number (n / 512) places) ns) ≤ length (with_number (n / 512) places) + length ns = length-places_with (with_number (n / 512) places) ns in
    let one : length (with_number (n / 512) places) ≤ length places + 1 = length-with_number (n / 512) places in
    omega arith
