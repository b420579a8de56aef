-- Bytes and numbers at places of a file.
use Rattle.std.specs.Prelude.{ℕ, ◌-◌, ◌+◌, ◌*◌, ◌/◌, ◌==◌, List, [], ◌∷◌, ◌++◌, length, replicate, if◌then◌else◌}
use Rattle.std.specs.List.{flat_map}
use Rattle.byteorder.specs.Endian.{little_bytes}

-- the bytes in front, zero bytes up to a place, and the bytes that stand there
unfoldable pub placed : ℕ → List ℕ → List ℕ → List ℕ
placed at bytes front = front ++ replicate (at - length front) 0 ++ bytes

-- the first multiple of n that is not below a place
abbrev pub rounded_up : ℕ → ℕ → ℕ
rounded_up n at = (at + (n - 1)) / n * n

-- Numbers of 16, 32 and 64 bits, one after another: Half, Word and Xword of ELF64 (System V ABI,
-- "Data Representation").
abbrev pub halves : List ℕ → List ℕ
halves numbers = flat_map (little_bytes 2) numbers

-- numbers as words of four bytes, the lowest byte first
abbrev pub words : List ℕ → List ℕ
words numbers = flat_map (little_bytes 4) numbers

-- numbers as doublewords of eight bytes, the lowest byte first
abbrev pub xwords : List ℕ → List ℕ
xwords numbers = flat_map (little_bytes 8) numbers

-- what stands for so many bytes or entries, if there are any
abbrev pub if_any : {X : Type 0} → ℕ → X → List X
if_any count x = if count == 0 then [] else x ∷ []
