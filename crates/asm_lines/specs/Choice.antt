-- Values that may be missing.
use Rattle.std.specs.Prelude.{Option, Some, None, Bool, if◌then◌else◌}

-- the second step, if the first gave a value
infixl 10 ◌>>=◌
abbrev pub ◌>>=◌ : {A B : Type 0} → Option A → (A → Option B) → Option B
None >>= f = None
(Some x) >>= f = f x

-- the first that is there
abbrev pub or_else : {A : Type 0} → Option A → Option A → Option A
or_else None other = other
or_else (Some x) other = Some x

-- the value, where the test holds
abbrev pub when : {A : Type 0} → Bool → A → Option A
when holds x = if holds then Some x else None
