-- What is held under a name.
use Rattle.std.specs.Prelude.{◌<◌, ◌≤◌, ℕ, List, Option, IsSomeAnd, length}

-- the most bytes of a file
abbrev pub max_file : ℕ
max_file = 67108864

-- the most bytes of a journal
abbrev pub max_journal : ℕ
max_journal = 268435456

-- more bytes than so many are held
abbrev pub IsLongerThan : ℕ → Option (List ℕ) → Type 0
IsLongerThan most held = IsSomeAnd held (λ bytes. most < length bytes)

-- bytes with P are held, and at most so many
abbrev pub HoldsWithin : ℕ → Option (List ℕ) → (List ℕ → Type 0) → Type 0
HoldsWithin most held P = IsSomeAnd held (λ bytes. (length bytes ≤ most) × P bytes)

-- too many bytes for a file are held
abbrev pub IsTooLong : Option (List ℕ) → Type 0
IsTooLong held = IsLongerThan max_file held

-- bytes with P are held, and not too many for a file
abbrev pub HoldsBytes : Option (List ℕ) → (List ℕ → Type 0) → Type 0
HoldsBytes held P = HoldsWithin max_file held P
