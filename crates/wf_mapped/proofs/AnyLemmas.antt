-- Elements of a list that are something, or that none is.
use Rattle.std.proofs.Common.{◌≡◌, ◌⊎◌, ◌||◌, ◌++◌, List, [], ◌∷◌, Bool, true, false, map, refl, inl, inr}
use Rattle.std.specs.List.{AllByRecursion, flat_map, list_any}
use Rattle.wf_homes.proofs.ListLemmas.{true_or_false}

module _ {A : Type 0} where
  -- some element is it
  abbrev pub AnyIs : (A → Type 0) → List A → Type 0
  AnyIs P [] = ⊥
  AnyIs P (x ∷ xs) = P x ⊎ AnyIs P xs

  pub any_or_none : (P : A → Type 0) → ((x : A) → P x ⊎ (P x → ⊥)) → (xs : List A) → AnyIs P xs ⊎ AllByRecursion (λ x. P x → ⊥) xs
  any_or_none P decide [] = inr tt
  any_or_none P decide (x ∷ xs) = elim (decide x) [
    | inl h ↦ inl (inl h)
    | inr n ↦ (elim (any_or_none P decide xs) [
      | inl h ↦ inl (inr h)
      | inr all ↦ inr (n, all)
    ])
  ]

  -- an element that is it, with what all are
  pub any_with : (P Q : A → Type 0) (xs : List A) → AnyIs P xs → AllByRecursion Q xs → (x : A) × P x × Q x
  any_with P Q [] any all = absurd any
  any_with P Q (x ∷ xs) any all = elim any [
    | inl h ↦ (x, h, all.0)
    | inr h ↦ any_with P Q xs h all.1
  ]

  pub any_wider : (P Q : A → Type 0) → ((x : A) → P x → Q x) → (xs : List A) → AnyIs P xs → AnyIs Q xs
  any_wider P Q more [] any = any
  any_wider P Q more (x ∷ xs) any = elim any [
    | inl h ↦ inl (more x h)
    | inr h ↦ inr (any_wider P Q more xs h)
  ]

  pub any_left : (P : A → Type 0) (xs ys : List A) → AnyIs P xs → AnyIs P (xs ++ ys)
  any_left P [] ys any = absurd any
  any_left P (x ∷ xs) ys any = elim any [
    | inl h ↦ inl h
    | inr h ↦ inr (any_left P xs ys h)
  ]

  pub any_right : (P : A → Type 0) (xs ys : List A) → AnyIs P ys → AnyIs P (xs ++ ys)
  any_right P [] ys any = any
  any_right P (x ∷ xs) ys any = inr (any_right P xs ys any)

  -- both hold of all
  pub all_and : (P Q : A → Type 0) (xs : List A) → AllByRecursion P xs → AllByRecursion Q xs → AllByRecursion (λ x. P x × Q x) xs
  all_and P Q [] p q = tt
  all_and P Q (x ∷ xs) p q = ((p.0, q.0), all_and P Q xs p.1 q.1)

  -- one of all is it
  pub any_test : (p : A → Bool) (xs : List A) → list_any p xs ≡ true → AnyIs (λ x. p x ≡ true) xs
  any_test p [] e = absurd cc
  any_test p (x ∷ xs) e = elim (true_or_false (p x)) [
    | inl t ↦ inl t
    | inr t ↦ inr (any_test p xs (rw t at e))
  ]

  pub test_any : (p : A → Bool) (xs : List A) → AnyIs (λ x. p x ≡ true) xs → list_any p xs ≡ true
  test_any p [] any = absurd any
  test_any p (x ∷ xs) any = elim any [
    | inl t ↦ (rw t refl)
    | inr h ↦ or_last (p x) (list_any p xs) (test_any p xs h)
  ]
    where
      or_last : (a b : Bool) → b ≡ true → (a || b) ≡ true
      or_last true b e = refl
      or_last false b e = e

pub any_mapped : {A B : Type 0} (P : B → Type 0) (f : A → B) (xs : List A) → AnyIs (λ x. P (f x)) xs → AnyIs P (map f xs)
any_mapped P f [] any = any
any_mapped P f (x ∷ xs) any = elim any [
  | inl h ↦ inl h
  | inr h ↦ inr (any_mapped P f xs h)
]

pub any_lists : {A B : Type 0} (P : B → Type 0) (f : A → List B) (xs : List A) → AnyIs (λ x. AnyIs P (f x)) xs → AnyIs P (flat_map f xs)
any_lists P f [] any = any
any_lists P f (x ∷ xs) any = elim any [
  | inl h ↦ any_left P (f x) (flat_map f xs) h
  | inr h ↦ any_right P (f x) (flat_map f xs) (any_lists P f xs h)
]
