-- What follows of a search that finds nothing, and of one element more at the end.
use Rattle.std.proofs.Common.{◌≡◌, ◌+◌, ◌++◌, ◌⊎◌, ℕ, zero, suc, List, [], ◌∷◌, Bool, true, false, Some, None, length, refl, sym, ap, ◌∙◌, inl, inr}
use Rattle.std.specs.Prelude.{slice_get, position}
use Rattle.std.specs.List.{AllByRecursion, find, list_any, position_from}
use Rattle.std.proofs.lemmas.Iterator.Adapters.{position_from-zero}
use Rattle.wf_flat.specs.Lists.{changed_at}
use Rattle.wf_flat.proofs.ListLemmas.{changed_next}
use Rattle.wf_sound.proofs.AllLemmas.{true_or_false}

module _ {A : Type 0} (test : A → Bool) where
  -- none passes
  pub none_passes : (xs : List A) → find test xs ≡ None → AllByRecursion (λ x. test x ≡ false) xs
  none_passes [] e = tt
  none_passes (x ∷ xs) e = elim (true_or_false (test x)) [
    | inl t ↦ absurd (let k : find test (x ∷ xs) ≡ Some x = rw t refl in cc)
    | inr t ↦ (t, none_passes xs (let k : find test (x ∷ xs) ≡ find test xs = rw t refl in sym k ∙ e))
  ]

  none_from : (i : ℕ) (xs : List A) → position_from test i xs ≡ None → AllByRecursion (λ x. test x ≡ false) xs
  none_from i [] e = tt
  none_from i (x ∷ xs) e = elim (true_or_false (test x)) [
    | inl t ↦ absurd (let k : position_from test i (x ∷ xs) ≡ Some i = rw t refl in cc)
    | inr t ↦ (t, none_from (i + 1) xs (let k : position_from test i (x ∷ xs) ≡ position_from test (i + 1) xs = rw t refl in sym k ∙ e))
  ]

  pub none_placed : (xs : List A) → position test xs ≡ None → AllByRecursion (λ x. test x ≡ false) xs
  none_placed xs e = none_from 0 xs (sym (position_from-zero test xs) ∙ e)

  -- none passes any test of them
  pub none_any : (xs : List A) → list_any test xs ≡ false → AllByRecursion (λ x. test x ≡ false) xs
  none_any [] e = tt
  none_any (x ∷ xs) e = elim (true_or_false (test x)) [
    | inl t ↦ absurd (let k : list_any test (x ∷ xs) ≡ true = rw t refl in cc)
    | inr t ↦ (t, none_any xs (let k : list_any test (x ∷ xs) ≡ list_any test xs = rw t refl in sym k ∙ e))
  ]

module _ {A : Type 0} where
  -- one element changes
  pub all_changed : (P : A → Type 0) (f : A → A) → ((x : A) → P x → P (f x)) → (xs : List A) (i : ℕ) → AllByRecursion P xs → AllByRecursion P (changed_at xs i f)
  all_changed P f more [] i all = tt
  all_changed P f more (x ∷ xs) zero all = (more x all.0, all.1)
  all_changed P f more (x ∷ xs) (suc i) all = rw (changed_next x xs i f) (all.0, all_changed P f more xs i all.1)

  -- an element that is there with one more behind
  pub got_front : (xs : List A) (y : A) (i : ℕ) (x : A) → slice_get xs i ≡ Some x → slice_get (xs ++ y ∷ []) i ≡ Some x
  got_front [] y i x e = absurd cc
  got_front (z ∷ zs) y zero x e = e
  got_front (z ∷ zs) y (suc i) x e = got_front zs y i x e

  -- and the one behind
  pub got_last : (xs : List A) (y : A) (i : ℕ) (x : A) → slice_get (xs ++ y ∷ []) i ≡ Some x → (slice_get xs i ≡ Some x) ⊎ ((i ≡ length xs) × (x ≡ y))
  got_last [] y zero x e = inr (refl, (let k : y ≡ x = cc in sym k))
  got_last [] y (suc i) x e = absurd cc
  got_last (z ∷ zs) y zero x e = inl e
  got_last (z ∷ zs) y (suc i) x e = elim (got_last zs y i x e) [
    | inl is ↦ inl is
    | inr is ↦ inr (ap suc is.0, is.1)
  ]
