-- Whether a number is among numbers.
use Rattle.std.proofs.Common.{◌≡◌, ◌==◌, ◌||◌, ℕ, Bool, true, false, List, [], ◌∷◌, refl}
use Rattle.std.specs.Prelude.{is_some, Option, Some, if◌then◌else◌}
use Rattle.std.specs.List.{list_any}
use Rattle.wf_flat.specs.Lists.{found_by}

-- one more number in front
more : (b : Bool) (m : ℕ) (any : Bool) (found : Option ℕ) → any ≡ is_some found → (b || any) ≡ is_some (if b then Some m else found)
more true m any found e = refl
more false m any found e = e

pub any_found : (n : ℕ) (numbers : List ℕ) → list_any (λ m. m == n) numbers ≡ is_some (found_by (λ m. m) numbers n)
any_found n [] = refl
any_found n (m ∷ numbers) = more (m == n) m (list_any (λ k. k == n) numbers) (found_by (λ k. k) numbers n) (any_found n numbers)
