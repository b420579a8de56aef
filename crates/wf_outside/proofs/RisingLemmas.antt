-- Numbers of a rising list, by their places.
use Rattle.std.proofs.Common.{◌<◌, ◌≤◌, ℕ, zero, suc, List, [], ◌∷◌, length, get_or, inl, inr, arith}
use Rattle.std.proofs.lemmas.Bool.{cases_order}
use Rattle.std.specs.List.{AllByRecursion}
use Rattle.wf_outside.specs.Lists.{IsRising}

-- what holds of each element holds at each place
pub all_at : {A : Type 0} (P : A → Type 0) (xs : List A) (k : ℕ) (d : A) → AllByRecursion P xs → k < length xs → P (get_or xs k d)
all_at P [] k d all h = absurd (omega arith)
all_at P (x ∷ xs) zero d all h = all.0
all_at P (x ∷ xs) (suc k) d all h = all_at P xs k d all.1 (omega arith)

-- a number behind another is above it
pub rising_at : (xs : List ℕ) (i j : ℕ) → IsRising xs → i < j → j < length xs → get_or xs i 0 < get_or xs j 0
rising_at [] i j up lt h = absurd (omega arith)
rising_at (x ∷ xs) zero zero up lt h = absurd (omega arith)
rising_at (x ∷ xs) (suc i) zero up lt h = absurd (omega arith)
rising_at (x ∷ xs) zero (suc j) up lt h = all_at (λ m. x < m) xs j 0 up.0 (omega arith)
rising_at (x ∷ xs) (suc i) (suc j) up lt h = rising_at xs i j up.1 (omega arith) (omega arith)

-- no number behind another is below it
pub rising_le : (xs : List ℕ) → IsRising xs → (i j : ℕ) → i ≤ j → j < length xs → get_or xs i 0 ≤ get_or xs j 0
rising_le xs up i j le h = elim (cases_order i j) [
  | inl e ↦ (rw e (omega arith))
  | inr o ↦ (elim o [ inl lt ↦ (let k : get_or xs i 0 < get_or xs j 0 = rising_at xs i j up lt h in omega arith) | inr gt ↦ absurd (omega arith) ])
]
