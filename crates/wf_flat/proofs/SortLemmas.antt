-- A list of elements with distinct numbers has one order by rising number.
use Rattle.std.proofs.Common.{◌≡◌, ◌≢◌, ◌<◌, ◌≤◌, ◌⊎◌, ℕ, zero, suc, List, [], ◌∷◌, false, length, get_or, map, refl, sym, ap, subst, ◌∙◌, inl, inr, arith, nat_eq}
use Rattle.std.specs.Prelude.{Contains}
use Rattle.std.specs.List.{AllByRecursion, IsDistinct}
use Rattle.std.specs.List.Sorted.{IsPermutation, IsNonDecreasingBy}
use Rattle.std.proofs.lemmas.Bool.{cases_lt}
use Rattle.std.proofs.lemmas.Bool.Decides.{nat_tests}
use Rattle.std.proofs.lemmas.List.Sorted.{Contains-permutation, IsPermutation-map, IsPermutation-sym}
use Rattle.std.proofs.lemmas.Map.Keys.{IsDistinct-IsPermutation, IsDistinct-head, IsDistinct-tail}
use Rattle.std.specs.Prelude.{All}
use Rattle.std.proofs.lemmas.List.Elements.{recursion_from_All}
use Rattle.wf_flat.proofs.RisingLemmas.{length-rising}
use Rattle.wf_outside.specs.Lists.{IsRising}
use Rattle.wf_flat.specs.Lists.{inserted_by, sorted_by}

-- the element is in the list
abbrev IsIn : {A : Type 0} → A → List A → Type 0
IsIn x [] = ⊥
IsIn x (y ∷ ys) = (x ≡ y) ⊎ IsIn x ys

in_from_contains : {A : Type 0} (xs : List A) (x : A) (k : ℕ) → k < length xs → get_or xs k x ≡ x → IsIn x xs
in_from_contains [] x k h e = absurd (omega arith)
in_from_contains (y ∷ ys) x zero h e = inl (sym e)
in_from_contains (y ∷ ys) x (suc k) h e = inr (in_from_contains ys x k (omega arith) e)

contains_from_in : {A : Type 0} (xs : List A) (x : A) → IsIn x xs → Contains xs x
contains_from_in [] x h = absurd h
contains_from_in (y ∷ ys) x h = elim h [
  | inl e ↦ (0, omega arith, sym e)
  | inr i ↦ (let w = contains_from_in ys x i in (suc w.0, (let lt : w.0 < length ys = w.1 in omega arith), w.2))
]

in_permutation : {A : Type 0} (xs ys : List A) → IsPermutation xs ys → (x : A) → IsIn x xs → IsIn x ys
in_permutation xs ys p x h = let w = Contains-permutation xs ys x p (contains_from_in xs x h) in in_from_contains ys x w.0 w.1 w.2

all_in : {A : Type 0} (P : A → Type 0) (xs : List A) (x : A) → AllByRecursion P xs → IsIn x xs → P x
all_in P [] x all h = absurd h
all_in P (y ∷ ys) x all h = elim h [ inl e ↦ subst P (sym e) all.0 | inr i ↦ all_in P ys x all.1 i ]

-- each number is below those behind it
abbrev RisesBy : {A : Type 0} → (A → ℕ) → List A → Type 0
RisesBy number [] = Unit {0}
RisesBy number (x ∷ xs) = AllByRecursion (λ y. number x < number y) xs × RisesBy number xs

all_map : {A : Type 0} (number : A → ℕ) (n : ℕ) (xs : List A) → AllByRecursion (λ y. n < number y) xs → AllByRecursion (λ m. n < m) (map number xs)
all_map number n [] all = tt
all_map number n (x ∷ xs) all = (all.0, all_map number n xs all.1)

-- so the numbers rise
pub IsRising-map : {A : Type 0} (number : A → ℕ) (xs : List A) → RisesBy number xs → IsRising (map number xs)
IsRising-map number [] up = tt
IsRising-map number (x ∷ xs) up = (all_map number (number x) xs up.0, IsRising-map number xs up.1)

-- two rising lists of the same elements are one
same_rising : {A : Type 0} (number : A → ℕ) (xs ys : List A) → RisesBy number xs → RisesBy number ys → ((x : A) → IsIn x xs → IsIn x ys) → ((x : A) → IsIn x ys → IsIn x xs) → xs ≡ ys
same_rising number [] [] p q f g = refl
same_rising number [] (y ∷ ys) p q f g = absurd (g y (inl refl))
same_rising number (x ∷ xs) [] p q f g = absurd (f x (inl refl))
same_rising {A = A} number (x ∷ xs) (y ∷ ys) p q f g =
    let heads : x ≡ y = (elim (f x (inl refl)) [
      | inl e ↦ e
      | inr i ↦ (elim (g y (inl refl)) [
        | inl e ↦ sym e
        | inr j ↦ absurd (let a : number x < number y = all_in (λ z. number x < number z) xs y p.0 j in let b : number y < number x = all_in (λ z. number y < number z) ys x q.0 i in omega arith)
      ])
    ]) in
    let tails : xs ≡ ys = same_rising number xs ys p.1 q.1
    (λ z i. (elim (f z (inr i)) [
      | inl e ↦ absurd (let a : number x < number z = all_in (λ z. number x < number z) xs z p.0 i in let b : number z ≡ number x = ap number (e ∙ sym heads) in omega arith)
      | inr j ↦ j
    ]))
    (λ z i. (elim (g z (inr i)) [
      | inl e ↦ absurd (let a : number y < number z = all_in (λ z. number y < number z) ys z q.0 i in let b : number z ≡ number y = ap number (e ∙ heads) in omega arith)
      | inr j ↦ j
    ])) in
    ap (λ (z : A). z ∷ xs) heads ∙ ap (λ (zs : List A). y ∷ zs) tails

insert_past : {A : Type 0} (number : A → ℕ) (x y : A) (ys : List A) → number y < number x → inserted_by number x (y ∷ ys) ≡ y ∷ inserted_by number x ys
insert_past number x y ys h = grind (arith, nat_tests)

insert_here : {A : Type 0} (number : A → ℕ) (x y : A) (ys : List A) → number x ≤ number y → inserted_by number x (y ∷ ys) ≡ x ∷ y ∷ ys
insert_here number x y ys h = grind (arith, nat_tests)

all_inserted : {A : Type 0} (P : A → Type 0) (number : A → ℕ) (x : A) (ys : List A) → P x → AllByRecursion P ys → AllByRecursion P (inserted_by number x ys)
all_inserted P number x [] h all = (h, tt)
all_inserted P number x (y ∷ ys) h all = elim (cases_lt (number y) (number x)) [
  | inl lt ↦ (rw (insert_past number x y ys lt) (all.0, all_inserted P number x ys h all.1))
  | inr le ↦ (rw (insert_here number x y ys le) (h, all))
]

-- what holds of all holds of all when they are sorted
pub all_sorted : {A : Type 0} (P : A → Type 0) (number : A → ℕ) (xs : List A) → AllByRecursion P xs → AllByRecursion P (sorted_by number xs)
all_sorted P number [] all = tt
all_sorted P number (x ∷ xs) all = all_inserted P number x (sorted_by number xs) all.0 (all_sorted P number xs all.1)

in_inserted : {A : Type 0} (number : A → ℕ) (x z : A) (ys : List A) → (z ≡ x) ⊎ IsIn z ys → IsIn z (inserted_by number x ys)
in_inserted number x z [] h = elim h [ inl e ↦ inl e | inr i ↦ absurd i ]
in_inserted number x z (y ∷ ys) h = elim (cases_lt (number y) (number x)) [
  | inl lt ↦ (rw (insert_past number x y ys lt) (elim h [
    | inl e ↦ inr (in_inserted number x z ys (inl e))
    | inr i ↦ (elim i [ inl e ↦ inl e | inr j ↦ inr (in_inserted number x z ys (inr j)) ])
  ]))
  | inr le ↦ (rw (insert_here number x y ys le) h)
]

from_inserted : {A : Type 0} (number : A → ℕ) (x z : A) (ys : List A) → IsIn z (inserted_by number x ys) → (z ≡ x) ⊎ IsIn z ys
from_inserted number x z [] h = h
from_inserted number x z (y ∷ ys) h = elim (cases_lt (number y) (number x)) [
  | inl lt ↦ (let k : IsIn z (y ∷ inserted_by number x ys) = subst (IsIn z) (insert_past number x y ys lt) h in elim k [
    | inl e ↦ inr (inl e)
    | inr i ↦ (elim (from_inserted number x z ys i) [ inl e ↦ inl e | inr j ↦ inr (inr j) ])
  ])
  | inr le ↦ subst (IsIn z) (insert_here number x y ys le) h
]

in_sorted : {A : Type 0} (number : A → ℕ) (xs : List A) (z : A) → IsIn z xs → IsIn z (sorted_by number xs)
in_sorted number [] z h = h
in_sorted number (x ∷ xs) z h = in_inserted number x z (sorted_by number xs) (elim h [ inl e ↦ inl e | inr i ↦ inr (in_sorted number xs z i) ])

from_sorted : {A : Type 0} (number : A → ℕ) (xs : List A) (z : A) → IsIn z (sorted_by number xs) → IsIn z xs
from_sorted number [] z h = h
from_sorted number (x ∷ xs) z h = elim (from_inserted number x z (sorted_by number xs) h) [ inl e ↦ inl e | inr i ↦ inr (from_sorted number xs z i) ]

all_above : {A : Type 0} (number : A → ℕ) (x y : A) (ys : List A) → number x < number y → AllByRecursion (λ z. number y < number z) ys → AllByRecursion (λ z. number x < number z) ys
all_above number x y [] h all = tt
all_above number x y (z ∷ zs) h all = (let k : number y < number z = all.0 in omega arith, all_above number x y zs h all.1)

rises_inserted : {A : Type 0} (number : A → ℕ) (x : A) (ys : List A) → AllByRecursion (λ y. number x ≢ number y) ys → RisesBy number ys → RisesBy number (inserted_by number x ys)
rises_inserted number x [] apart up = (tt, tt)
rises_inserted number x (y ∷ ys) apart up = elim (cases_lt (number y) (number x)) [
  | inl lt ↦ (rw (insert_past number x y ys lt) (all_inserted (λ z. number y < number z) number x ys lt up.0, rises_inserted number x ys apart.1 up.1))
  | inr le ↦ (let lt : number x < number y = (let ne : number x ≢ number y = apart.0 in omega arith) in rw (insert_here number x y ys le) ((lt, all_above number x y ys lt up.0), up))
]

apart_map : {A : Type 0} (number : A → ℕ) (n : ℕ) (xs : List A) → AllByRecursion (λ m. nat_eq n m ≡ false) (map number xs) → AllByRecursion (λ y. n ≢ number y) xs
apart_map number n [] all = tt
apart_map number n (x ∷ xs) all = ((λ (e : n ≡ number x). (let h : nat_eq n (number x) ≡ false = all.0 in grind (arith, nat_tests))), apart_map number n xs all.1)

rises_sorted : {A : Type 0} (number : A → ℕ) (xs : List A) → IsDistinct nat_eq (map number xs) → RisesBy number (sorted_by number xs)
rises_sorted number [] h = tt
rises_sorted number (x ∷ xs) h =
    rises_inserted number x (sorted_by number xs)
    (all_sorted (λ y. number x ≢ number y) number xs (apart_map number (number x) xs (IsDistinct-head nat_eq (number x) (map number xs) h)))
    (rises_sorted number xs (IsDistinct-tail nat_eq (number x) (map number xs) h))

above_head : {A : Type 0} (number : A → ℕ) (n : ℕ) (xs : List A) → AllByRecursion (λ y. n ≢ number y) xs → ((k : ℕ) (d : A) → k < length xs → n ≤ number (get_or xs k d)) → AllByRecursion (λ y. n < number y) xs
above_head number n [] apart le = tt
above_head number n (x ∷ xs) apart le =
    (let ne : n ≢ number x = apart.0 in let h : n ≤ number x = le 0 x (omega arith) in omega arith, above_head number n xs apart.1 (λ k d lt. le (suc k) d (omega arith)))

rises_from_order : {A : Type 0} (number : A → ℕ) (xs : List A) → IsNonDecreasingBy number xs → IsDistinct nat_eq (map number xs) → RisesBy number xs
rises_from_order number [] order h = tt
rises_from_order number (x ∷ xs) order h = (
  above_head number (number x) xs (apart_map number (number x) xs (IsDistinct-head nat_eq (number x) (map number xs) h)) (λ k d lt. order 0 (suc k) d (omega arith) (omega arith)),
  rises_from_order number xs (λ i j d le lt. order (suc i) (suc j) d (omega arith) (omega arith)) (IsDistinct-tail nat_eq (number x) (map number xs) h),
)

flips : (x y : ℕ) → nat_eq x y ≡ nat_eq y x
flips x y = grind (arith, nat_tests)

-- what a sort by number leaves
pub sorted_is : {A : Type 0} (number : A → ℕ) (xs ys : List A) → IsPermutation xs ys → IsNonDecreasingBy number ys → IsDistinct nat_eq (map number xs) → ys ≡ sorted_by number xs
sorted_is number xs ys p order h =
    let apart = IsDistinct-IsPermutation nat_eq flips (map number xs) (map number ys) (IsPermutation-map number xs ys p) h in
    same_rising number ys (sorted_by number xs) (rises_from_order number ys order apart) (rises_sorted number xs h)
    (λ z i. in_sorted number xs z (in_permutation ys xs (IsPermutation-sym xs ys p) z i))
    (λ z i. in_permutation xs ys p z (from_sorted number xs z i))

-- and its numbers rise
pub IsRising-sorted_by : {A : Type 0} (number : A → ℕ) (xs : List A) → IsDistinct nat_eq (map number xs) → IsRising (map number (sorted_by number xs))
IsRising-sorted_by number xs h = IsRising-map number (sorted_by number xs) (rises_sorted number xs h)

length-inserted_by : {A : Type 0} (number : A → ℕ) (x : A) (ys : List A) → length (inserted_by number x ys) ≡ suc (length ys)
length-inserted_by number x [] = refl
length-inserted_by number x (y ∷ ys) = elim (cases_lt (number y) (number x)) [
  | inl lt ↦ (rw (insert_past number x y ys lt) (ap suc (length-inserted_by number x ys)))
  | inr le ↦ (rw (insert_here number x y ys le) refl)
]

pub length-sorted_by : {A : Type 0} (number : A → ℕ) (xs : List A) → length (sorted_by number xs) ≡ length xs
length-sorted_by number [] = refl
length-sorted_by number (x ∷ xs) = length-inserted_by number x (sorted_by number xs) ∙ ap suc (length-sorted_by number xs)

low_from_map : {A : Type 0} (number : A → ℕ) (n : ℕ) (xs : List A) → AllByRecursion (λ m. m < n) (map number xs) → AllByRecursion (λ x. number x < n) xs
low_from_map number n [] all = tt
low_from_map number n (x ∷ xs) all = (all.0, low_from_map number n xs all.1)

low_map : {A : Type 0} (number : A → ℕ) (n : ℕ) (xs : List A) → AllByRecursion (λ x. number x < n) xs → AllByRecursion (λ m. m < n) (map number xs)
low_map number n [] all = tt
low_map number n (x ∷ xs) all = (all.0, low_map number n xs all.1)

pub length-map : {A : Type 0} (number : A → ℕ) (xs : List A) → length (map number xs) ≡ length xs
length-map number [] = refl
length-map number (x ∷ xs) = ap suc (length-map number xs)

-- what lies below n does so sorted
pub low_sorted : {A : Type 0} (number : A → ℕ) (n : ℕ) (xs : List A) → All (λ m. m < n) (map number xs) → AllByRecursion (λ m. m < n) (map number (sorted_by number xs))
low_sorted number n xs low = low_map number n (sorted_by number xs) (all_sorted (λ x. number x < n) number xs (low_from_map number n xs (recursion_from_All (λ m. m < n) (map number xs) low)))

-- there are at most n elements whose distinct numbers are below n
pub length_distinct : {A : Type 0} (number : A → ℕ) (n : ℕ) (xs : List A) → IsDistinct nat_eq (map number xs) → All (λ m. m < n) (map number xs) → length xs ≤ n
length_distinct number n xs apart low =
    let numbers = map number (sorted_by number xs) in
    let small : AllByRecursion (λ m. m < n) numbers = low_sorted number n xs low in
    omega (arith, length-rising n numbers (IsRising-sorted_by number xs apart) small, length-map number (sorted_by number xs), length-sorted_by number xs)
