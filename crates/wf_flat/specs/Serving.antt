-- What contracts of accesses say beside the machine's definitions.
use Rattle.std.specs.Prelude.{ℕ, zero, suc, List, [], ◌∷◌, Option, Some, None, ◌≡◌, ◌⊎◌, ◌%◌, if◌then◌else◌}
use Rattle.std.specs.List.{AllByRecursion}
use Rattle.wf_outside.specs.Pages.{page_of}
use Rattle.wf_flat.specs.State.{FlatState}
use Rattle.wf_flat.specs.Accesses.{Access, holds}

-- a count of bytes that an access may have
abbrev pub IsWidth : ℕ → Type 0
IsWidth width = (width ≡ 1) ⊎ ((width ≡ 2) ⊎ ((width ≡ 4) ⊎ (width ≡ 8)))

-- a place of so many bytes, which is a multiple of their count
pub record IsPlace (at width : ℕ) : Type 0 where
  pub sized : IsWidth width
  pub even : at % width ≡ 0

-- the page of the access of a hart, if it has one, where the hart holds it
abbrev pub held_by : FlatState → ℕ → Option Access → Option ℕ
held_by s h None = None
held_by s h (Some access) = if holds s h access then Some (page_of access.va) else None

-- P holds of all but the one at a place
abbrev pub AllBut : {A : Type 0} → (A → Type 0) → ℕ → List A → Type 0
AllBut P at [] = Unit {0}
AllBut P zero (x ∷ xs) = AllByRecursion P xs
AllBut P (suc at) (x ∷ xs) = P x × AllBut P at xs

-- no hart but this is in a try
abbrev pub IsAlone : FlatState → ℕ → Type 0
IsAlone s h = AllBut (λ hart. hart.fetched ≡ None) h s.harts
