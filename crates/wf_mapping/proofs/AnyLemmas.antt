-- Whether one of a list passes a test.
use Rattle.std.proofs.Common.{◌≡◌, ◌/◌, ◌||◌, ◌&&◌, ℕ, List, [], ◌∷◌, Bool, true, false, map, refl, ap, ◌∙◌, inl, inr}
use Rattle.std.specs.List.{filter, flat_map, list_any}
use Rattle.std.proofs.lemmas.Bool.{cases_order}
use Rattle.wf_flat.specs.Boot.{places_with}
use Rattle.wf_flat.specs.Lists.{with_number}
use Rattle.wf_flat.proofs.RisingLemmas.{with_here, with_past, with_same}
use Rattle.wf_homes.proofs.ListLemmas.{any_both, true_or_false}

or_swap : (a b c : Bool) → (a || (b || c)) ≡ (b || (a || c))
or_swap true true c = refl
or_swap true false c = refl
or_swap false b c = refl

or_group : (a b c : Bool) → ((a || b) || c) ≡ (a || (b || c))
or_group true b c = refl
or_group false b c = refl

or_twice : (a b : Bool) → (a || b) ≡ (a || (a || b))
or_twice true b = refl
or_twice false b = refl

pub or_yes : (a b : Bool) → b ≡ true → (a || b) ≡ true
or_yes true b e = refl
or_yes false b e = e

pub any_same : {A : Type 0} (p q : A → Bool) → ((x : A) → p x ≡ q x) → (xs : List A) → list_any p xs ≡ list_any q xs
any_same p q same [] = refl
any_same p q same (x ∷ xs) = ap (λ (b : Bool). b || list_any p xs) (same x) ∙ ap (λ (b : Bool). q x || b) (any_same p q same xs)

pub any_more : {A : Type 0} (p q : A → Bool) → ((x : A) → p x ≡ true → q x ≡ true) → (xs : List A) → list_any p xs ≡ true → list_any q xs ≡ true
any_more p q more [] e = absurd cc
any_more p q more (x ∷ xs) e = elim (true_or_false (p x)) [
  | inl t ↦ (rw (more x t) refl)
  | inr t ↦ or_yes (q x) (list_any q xs) (any_more p q more xs (rw t at e))
]

pub any_map : {A B : Type 0} (p : B → Bool) (f : A → B) (xs : List A) → list_any p (map f xs) ≡ list_any (λ x. p (f x)) xs
any_map p f [] = refl
any_map p f (x ∷ xs) = ap (λ (b : Bool). p (f x) || b) (any_map p f xs)

pub any_filter : {A : Type 0} (p q : A → Bool) (xs : List A) → list_any p (filter q xs) ≡ list_any (λ x. q x && p x) xs
any_filter p q [] = refl
any_filter p q (x ∷ xs) = elim (true_or_false (q x)) [
  | inl t ↦ (rw t (ap (λ (b : Bool). p x || b) (any_filter p q xs)))
  | inr t ↦ (rw t (any_filter p q xs))
]

pub any_flat : {A B : Type 0} (p : B → Bool) (f : A → List B) (xs : List A) → list_any p (flat_map f xs) ≡ list_any (λ x. list_any p (f x)) xs
any_flat p f [] = refl
any_flat p f (x ∷ xs) = any_both p (f x) (flat_map f xs) ∙ ap (λ (b : Bool). list_any p (f x) || b) (any_flat p f xs)

pub any_with : (p : ℕ → Bool) (k : ℕ) (ms : List ℕ) → list_any p (with_number k ms) ≡ (p k || list_any p ms)
any_with p k [] = refl
any_with p k (m ∷ ms) = elim (cases_order m k) [
  | inl e ↦ (rw (with_same k m ms e) (rw e (or_twice (p k) (list_any p ms))))
  | inr o ↦ (elim o [
    | inl lt ↦ (rw (with_past k m ms lt) (ap (λ (b : Bool). p m || b) (any_with p k ms) ∙ or_swap (p m) (p k) (list_any p ms)))
    | inr gt ↦ (rw (with_here k m ms gt) refl)
  ])
]

pub any_places : (p : ℕ → Bool) (places ns : List ℕ) → list_any p (places_with places ns) ≡ (list_any p places || list_any (λ n. p (n / 512)) ns)
unfolding places_with
any_places p places [] = or_none (list_any p places)
  where
    or_none : (b : Bool) → b ≡ (b || false)
    or_none true = refl
    or_none false = refl
any_places p places (n ∷ ns) =
    any_places p (with_number (n / 512) places) ns
    ∙ ap (λ (b : Bool). b || list_any (λ k. p (k / 512)) ns) (any_with p (n / 512) places)
    ∙ or_group (p (n / 512)) (list_any p places) (list_any (λ k. p (k / 512)) ns)
    ∙ or_swap (p (n / 512)) (list_any p places) (list_any (λ k. p (k / 512)) ns)
