-- What a shelf holds, what a read may answer, and what counts of faults do.
use Rattle.std.specs.Prelude.{◌≡◌, ◌<◌, ◌≤◌, ◌⊎◌, ◌^◌, ◌+◌, ◌-◌, ℕ, List, [], ◌∷◌, Option, Some, None, Result, Ok, Err, Vec, if◌then◌else◌, min, length, IsSomeAnd}
use Rattle.std.specs.Str.{bytes_eq}
use Rattle.std.specs.declared.alloc.Global.{Global}
use Rattle.wf_outside.specs.declared.shelf.ShelfFault.{ShelfFault}
use Rattle.wf_outside.specs.declared.shelf.ShelfFault.TheVariants.{Failed, TooLong, Memory}

-- a name, and the bytes under it
abbrev pub File : Type 0
File = List ℕ × List ℕ

-- the bytes of the first file of that name
abbrev pub first_bytes : List ℕ → List File → Option (List ℕ)
first_bytes name [] = None
first_bytes name (file ∷ files) =
    if bytes_eq file.0 name then Some file.1 else first_bytes name files

-- a count with one more, which stays at its end
abbrev pub raised : ℕ → ℕ
raised count = min (count + 1) (2 ^ 64 - 1)

-- a count has risen; one that stands at its end counts as risen
abbrev pub HasRisen : ℕ → ℕ → Type 0
HasRisen before now = (before < now) ⊎ (2 ^ 64 - 1 ≤ now)

-- what a read answers of what is held under the name: these bytes, or that they are too many
abbrev pub IsReading : Option (List ℕ) → ℕ → Result (Vec ℕ Global) ShelfFault → Type 0
IsReading held max (Ok bytes) = held ≡ Some bytes.items
IsReading held max (Err (TooLong most)) =
    (most ≡ max) × IsSomeAnd held (λ bytes. max < length bytes)
IsReading held max (Err Failed) = Unit {0}
IsReading held max (Err Memory) = Unit {0}
