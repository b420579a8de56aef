-- Numbers that come among others and leave them.
use Rattle.std.proofs.Common.{◌≡◌, ◌≢◌, ◌==◌, ℕ, List, [], ◌∷◌, true, false, Some, None, refl, ap, ◌∙◌, inl, inr, arith, is_some}
use Rattle.std.proofs.lemmas.Bool.Decides.{nat_tests}
use Rattle.wf_views.specs.Lists.{RoomyValue, changed_by, found_by, has_number, itself, number_added, number_removed}
use Rattle.wf_homes.proofs.FoundLemmas.{found_inserted}
use Rattle.wf_homes.proofs.ListLemmas.{true_or_false}
use Rattle.wf_space.proofs.LeaveLemmas.{found_without, gone_without}

-- a number that comes, and others
pub added_here : (n : ℕ) (l : RoomyValue ℕ) → has_number (number_added n l).items n ≡ true
added_here n l = elim (true_or_false (has_number l.items n)) [
  | inl t ↦ (rw t t)
  | inr t ↦ (rw t (found_inserted itself n l.items n ∙ (let u : (n == n) ≡ true = grind (arith, nat_tests) in rw u refl)))
]

pub added_other : (n k : ℕ) (l : RoomyValue ℕ) → k ≢ n → has_number (number_added n l).items k ≡ has_number l.items k
added_other n k l apart = elim (true_or_false (has_number l.items n)) [
  | inl t ↦ (rw t refl)
  | inr t ↦ (rw t (found_inserted itself n l.items k ∙ (let u : (n == k) ≡ false = grind (arith, nat_tests) in rw u refl)))
]

-- a number that leaves, and others
pub removed_here : (n : ℕ) (l : RoomyValue ℕ) → has_number (number_removed n l).items n ≡ false
removed_here n l = ap is_some (gone_without itself l.items n)

pub removed_other : (n k : ℕ) (l : RoomyValue ℕ) → k ≢ n → has_number (number_removed n l).items k ≡ has_number l.items k
removed_other n k l apart = ap is_some (found_without itself l.items n k apart)

-- an element changes that isn't there
pub unchanged : {A : Type 0} (number : A → ℕ) (xs : List A) (n : ℕ) (f : A → A) → found_by number xs n ≡ None → changed_by number xs n f ≡ xs
unchanged number [] n f e = refl
unchanged {A = A} number (x ∷ xs) n f e = elim (true_or_false (number x == n)) [
  | inl t ↦ absurd (let k : Some x ≡ None = rw t at e in cc)
  | inr t ↦ (rw t (ap (λ (ys : List A). x ∷ ys) (unchanged number xs n f (rw t at e))))
]
