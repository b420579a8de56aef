-- What is taken from a reader, whose bytes may be known.
use Rattle.std.specs.Prelude.{◌≡◌, ◌≤◌, ◌++◌, ℕ, List, Option, length}
use Rattle.std.specs.Io.KnownBytes.{Consumes, IsAtEnd}

-- so many bytes were taken at most
pub record TakesAtMost (old new : Option (List ℕ)) (most : ℕ) : Type 0 where
  pub taken : List ℕ
  pub gone : Consumes old new taken
  pub few : length taken ≤ most

-- n bytes were taken and came behind those so far, none only at the end
pub record TakesSome (old new : Option (List ℕ)) (before after : List ℕ) (n : ℕ) : Type 0 where
  pub taken : List ℕ
  pub gone : Consumes old new taken
  pub appended : after ≡ before ++ taken
  pub count : length taken ≡ n
  pub ended : n ≡ 0 → IsAtEnd new
