-- Elements by their numbers: one more, and one that changes; what is there, and what follows of it.
use Rattle.std.proofs.Common.{◌≡◌, ◌==◌, ◌||◌, ℕ, List, [], ◌∷◌, Bool, true, false, Option, Some, None, refl, sym, subst, inl, inr, arith, is_some, if◌then◌else◌}
use Rattle.std.specs.Prelude.{IsSomeAnd, nat_lt}
use Rattle.std.specs.Option.{option_map}
use Rattle.std.proofs.lemmas.Bool.Decides.{nat_tests}
use Rattle.wf_views.specs.Lists.{changed_by, found_by, inserted_by}
use Rattle.wf_homes.proofs.ListLemmas.{true_or_false}

or_swap : (a b c : Bool) → (a || (b || c)) ≡ (b || (a || c))
or_swap true true c = refl
or_swap true false c = refl
or_swap false b c = refl

-- what is there, where something is said of it
pub at_some : {A : Type 0} (o : Option A) (P : A → Type 0) (x : A) → o ≡ Some x → IsSomeAnd o P → P x
at_some {A = A} o P x e h = (let k : IsSomeAnd (Some x) P = subst (λ (p : Option A). IsSomeAnd p P) e h in k)

pub some_at : {A : Type 0} (o : Option A) (P : A → Type 0) (x : A) → o ≡ Some x → P x → IsSomeAnd o P
some_at {A = A} o P x e h = subst (λ (p : Option A). IsSomeAnd p P) (sym e) h

-- what follows of what is there
pub some_more : {A : Type 0} (o : Option A) (P Q : A → Type 0) → ((x : A) → o ≡ Some x → P x → Q x) → IsSomeAnd o P → IsSomeAnd o Q
some_more None P Q more h = h
some_more (Some x) P Q more h = more x refl h

module _ {A : Type 0} (key : A → ℕ) where
  -- an element of a number is there with one more
  pub found_inserted : (x : A) (xs : List A) (n : ℕ) → is_some (found_by key (inserted_by key x xs) n) ≡ ((key x == n) || is_some (found_by key xs n))
  found_inserted x [] n = elim (true_or_false (key x == n)) [
    | inl t ↦ (rw t refl)
    | inr t ↦ (rw t refl)
  ]
  found_inserted x (y ∷ ys) n = elim (true_or_false (nat_lt (key y) (key x))) [
    | inl t ↦ (rw t (elim (true_or_false (key y == n)) [
      | inl u ↦ (rw u (sym (or_true (key x == n))))
      | inr u ↦ (rw u (found_inserted x ys n))
    ]))
    | inr t ↦ (rw t (elim (true_or_false (key x == n)) [
      | inl u ↦ (rw u refl)
      | inr u ↦ (rw u refl)
    ]))
  ]
    where
      or_true : (b : Bool) → (b || true) ≡ true
      or_true true = refl
      or_true false = refl

  -- the element of a number where one changes and keeps its number
  pub found_changed : (f : A → A) → ((x : A) → key (f x) ≡ key x) → (xs : List A) (n m : ℕ)
      → found_by key (changed_by key xs n f) m ≡ option_map (λ x. if key x == n then f x else x) (found_by key xs m)
  found_changed f same [] n m = refl
  found_changed f same (x ∷ xs) n m = elim (true_or_false (key x == n)) [
    | inl t ↦ (elim (true_or_false (key x == m)) [
      | inl u ↦ (rw (t, same x, u, t) refl)
      | inr u ↦ (rw (t, same x, u) (found_changed f same xs n m))
    ])
    | inr t ↦ (elim (true_or_false (key x == m)) [
      | inl u ↦ (rw (t, u, t) refl)
      | inr u ↦ (rw (t, u) (found_changed f same xs n m))
    ])
  ]

  -- an element that is found has the number
  pub found_number : (xs : List A) (n : ℕ) (x : A) → found_by key xs n ≡ Some x → key x ≡ n
  found_number [] n x e = absurd cc
  found_number (y ∷ ys) n x e = elim (true_or_false (key y == n)) [
    | inl t ↦ (let k : Some y ≡ Some x = (rw t at e) in let same : y ≡ x = cc in let num : key y ≡ n = grind (arith, nat_tests) in rw (sym same) num)
    | inr t ↦ found_number ys n x (rw t at e)
  ]
