-- Numbers in a file.
use Rattle.std.specs.Prelude.{ℕ, List, drop}
use Rattle.byteorder.specs.Endian.{little_number}

-- the number in the n bytes at a place, the lowest byte first
unfoldable pub field : ℕ → ℕ → List ℕ → ℕ
field n at bytes = little_number n (drop at bytes)
