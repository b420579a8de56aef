-- The places of pages, in whichever order these stand.
use Rattle.std.proofs.Common.{◌≡◌, ◌<◌, ◌≤◌, ◌/◌, ◌++◌, ℕ, List, [], ◌∷◌, Bool, true, false, map, refl, sym, ap, ◌∙◌, arith, inl, inr, if◌then◌else◌}
use Rattle.std.specs.List.{filter, fold}
use Rattle.std.proofs.lemmas.Bool.{cases_lt, cases_order}
use Rattle.std.proofs.lemmas.Bool.Decides.{nat_tests}
use Rattle.wf_flat.proofs.RisingLemmas.{with_past, with_same, with_here}
use Rattle.wf_flat.specs.Boot.{places_with}
use Rattle.wf_flat.specs.Lists.{inserted_by, sorted_by, with_number}

-- two numbers, the lower first
with_two : (a b : ℕ) (xs : List ℕ) → a < b → with_number a (with_number b xs) ≡ with_number b (with_number a xs)
with_two a b [] h = with_here a b [] h ∙ sym (with_past b a [] h)
with_two a b (m ∷ ms) h = elim (cases_order m a) [
  | inl e ↦ (
      let below : m < b = omega arith in
      rw (with_same a m ms e, with_past b m ms below) (with_same a m (with_number b ms) e))
  | inr o ↦ (elim o [
    | inl lt ↦ (
        let below : m < b = omega arith in
        rw (with_past a m ms lt, with_past b m ms below, with_past b m (with_number a ms) below, with_past a m (with_number b ms) lt) (ap (λ (ks : List ℕ). m ∷ ks) (with_two a b ms h)))
    | inr gt ↦ (
        rw (with_here a m ms gt, with_past b a (m ∷ ms) h) (above a b m ms gt h))
  ])
]
  where
    above : (a b m : ℕ) (ms : List ℕ) → a < m → a < b → with_number a (with_number b (m ∷ ms)) ≡ a ∷ with_number b (m ∷ ms)
    above a b m ms gt h = elim (cases_order m b) [
      | inl e ↦ (rw (with_same b m ms e) (with_here a m ms gt))
      | inr o ↦ (elim o [
        | inl lt ↦ (rw (with_past b m ms lt) (with_here a m (with_number b ms) gt))
        | inr up ↦ (rw (with_here b m ms up) (with_here a b (m ∷ ms) h))
      ])
    ]

-- two numbers, in either order
with_swap : (a b : ℕ) (xs : List ℕ) → with_number a (with_number b xs) ≡ with_number b (with_number a xs)
with_swap a b xs = elim (cases_order a b) [
  | inl e ↦ (rw e refl)
  | inr o ↦ (elim o [
    | inl lt ↦ (with_two a b xs lt)
    | inr gt ↦ (sym (with_two b a xs gt))
  ])
]

-- a fold whose steps may be taken in either order
fold_inserted : {A B : Type 0} (step : B → A → B) (swap : (b : B) (x y : A) → step (step b x) y ≡ step (step b y) x) (number : A → ℕ) (b : B) (x : A) (ys : List A) → fold step b (inserted_by number x ys) ≡ fold step (step b x) ys
fold_inserted step swap number b x [] = refl
fold_inserted step swap number b x (y ∷ ys) = elim (cases_lt (number y) (number x)) [
  | inl lt ↦ (rw (insert_past number x y ys lt) (fold_inserted step swap number (step b y) x ys ∙ ap (λ b. fold step b ys) (swap b y x)))
  | inr le ↦ (rw (insert_here number x y ys le) refl)
]
  where
    insert_past : {A : Type 0} (number : A → ℕ) (x y : A) (ys : List A) → number y < number x → inserted_by number x (y ∷ ys) ≡ y ∷ inserted_by number x ys
    insert_past number x y ys lt = grind (arith, nat_tests)

    insert_here : {A : Type 0} (number : A → ℕ) (x y : A) (ys : List A) → number x ≤ number y → inserted_by number x (y ∷ ys) ≡ x ∷ y ∷ ys
    insert_here number x y ys le = grind (arith, nat_tests)

pub fold_sorted : {A B : Type 0} (step : B → A → B) (swap : (b : B) (x y : A) → step (step b x) y ≡ step (step b y) x) (number : A → ℕ) (b : B) (xs : List A) → fold step b (sorted_by number xs) ≡ fold step b xs
fold_sorted step swap number b [] = refl
fold_sorted step swap number b (x ∷ xs) =
    fold_inserted step swap number b x (sorted_by number xs) ∙ fold_sorted step swap number (step b x) xs

pub fold_append : {A B : Type 0} (step : B → A → B) (b : B) (xs ys : List A) → fold step b (xs ++ ys) ≡ fold step (fold step b xs) ys
fold_append step b [] ys = refl
fold_append step b (x ∷ xs) ys = fold_append step (step b x) xs ys

-- the place of a page, where it is asked for
abbrev pub placed_if : {A : Type 0} → (A → ℕ) → (A → Bool) → List ℕ → A → List ℕ
placed_if number is places x = if is x then with_number (number x / 512) places else places

swap_if : (p q : Bool) (a b : ℕ) (xs : List ℕ) → (if q then with_number b (if p then with_number a xs else xs) else (if p then with_number a xs else xs)) ≡ (if p then with_number a (if q then with_number b xs else xs) else (if q then with_number b xs else xs))
swap_if true true a b xs = with_swap b a xs
swap_if true false a b xs = refl
swap_if false true a b xs = refl
swap_if false false a b xs = refl

pub placed_swap : {A : Type 0} (number : A → ℕ) (is : A → Bool) (places : List ℕ) (x y : A) → placed_if number is (placed_if number is places x) y ≡ placed_if number is (placed_if number is places y) x
placed_swap number is places x y = swap_if (is x) (is y) (number x / 512) (number y / 512) places

pub places_fold : {A : Type 0} (number : A → ℕ) (is : A → Bool) (places : List ℕ) (xs : List A) → places_with places (map number (filter is xs)) ≡ fold (placed_if number is) places xs
unfolding places_with
places_fold number is places [] = refl
places_fold number is places (x ∷ xs) = one (is x) ∙ places_fold number is (placed_if number is places x) xs
  where
    one : (b : Bool) → places_with places (map number (if b then x ∷ filter is xs else filter is xs)) ≡ places_with (if b then with_number (number x / 512) places else places) (map number (filter is xs))
    one true = refl
    one false = refl

pub places_map : {A : Type 0} (number : A → ℕ) (places : List ℕ) (xs : List A) → places_with places (map number xs) ≡ fold (placed_if number (λ x. true)) places xs
unfolding places_with
places_map number places [] = refl
places_map number places (x ∷ xs) = places_map number (with_number (number x / 512) places) xs

-- the places of pages that are sorted
pub places_sorted : {A : Type 0} (number : A → ℕ) (places : List ℕ) (xs : List A) → places_with places (map number (sorted_by number xs)) ≡ places_with places (map number xs)
places_sorted {A = A} number places xs =
    places_map number places (sorted_by number xs)
    ∙ fold_sorted (placed_if number (λ (x : A). true)) (placed_swap number (λ (x : A). true)) number places xs
    ∙ sym (places_map number places xs)

pub places_append : (places ns ms : List ℕ) → places_with places (ns ++ ms) ≡ places_with (places_with places ns) ms
unfolding places_with
places_append places [] ms = refl
places_append places (n ∷ ns) ms = places_append (with_number (n / 512) places) ns ms
