-- Where names end.
use Rattle.std.specs.Prelude.{◌<◌, ◌≤◌, ℕ, suc, ◌==◌, length, slice_index, List, [], ◌∷◌, if◌then◌else◌}

-- the places of the zero bytes, where the first byte has place n
abbrev pub zeros_from : ℕ → List ℕ → List ℕ
zeros_from n [] = []
zeros_from n (b ∷ bs) = if b == 0 then n ∷ zeros_from (suc n) bs else zeros_from (suc n) bs

-- i is the number of the first place that is not below a place
pub record IsFirstFrom (places : List ℕ) (at i : ℕ) : Type 0 where
  pub bound : i ≤ length places
  pub before : (k : ℕ) → k < i → slice_index places k < at
  pub behind : (k : ℕ) → i ≤ k → k < length places → at ≤ slice_index places k
