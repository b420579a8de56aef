-- The parts of a value in instructions.
use Rattle.std.proofs.Common.{◌≡◌, ◌+◌, ◌%◌, ◌/◌, ◌^◌, ◌+ℤ◌, ◌*ℤ◌, ℤ, pos, negsuc, arith, refl, ap, ◌∙◌}
use Rattle.std.proofs.lemmas.Int.{ints}
use Rattle.rv_alu.specs.Arithmetic.{shifted_right}
use Rattle.rv_inst.specs.Spelling.{low_bits}
use Rattle.rv_encode.specs.Jumps.{high_part, low_part}

-- numbers that differ by a multiple of 2 ^ 12 have the same low 12 bits
same_low : (y v k : ℤ) → (y +ℤ (k *ℤ pos (2 ^ 12))) ≡ v → low_bits 12 y ≡ low_bits 12 v
same_low (pos y) (pos v) (pos k) e = omega (arith, ints)
same_low (pos y) (pos v) (negsuc k) e = omega (arith, ints)
same_low (pos y) (negsuc v) (pos k) e = omega (arith, ints)
same_low (pos y) (negsuc v) (negsuc k) e = omega (arith, ints)
same_low (negsuc y) (pos v) (pos k) e = omega (arith, ints)
same_low (negsuc y) (pos v) (negsuc k) e = omega (arith, ints)
same_low (negsuc y) (negsuc v) (pos k) e = omega (arith, ints)
same_low (negsuc y) (negsuc v) (negsuc k) e = omega (arith, ints)

-- the low part has the low bits of the value
pub lower : (v : ℤ) → low_bits 12 (low_part v) ≡ low_bits 12 v
lower v = same_low (low_part v) v (shifted_right (v +ℤ pos 0x800) 12) (omega (arith, ints))

-- the low bits of a sum
sum_low : (w v : ℤ) → w ≡ v +ℤ pos 0x800 → low_bits 32 w ≡ (low_bits 32 v + 0x800) % 2 ^ 32
sum_low (pos w) (pos v) e = omega (arith, ints)
sum_low (pos w) (negsuc v) e = omega (arith, ints)
sum_low (negsuc w) (pos v) e = omega (arith, ints)
sum_low (negsuc w) (negsuc v) e = omega (arith, ints)

-- a number and the multiple of 2 ^ 12 below it have the same bits from 12 on
same_high : (y w : ℤ) → y ≡ shifted_right w 12 *ℤ pos (2 ^ 12) → low_bits 32 y / 2 ^ 12 ≡ low_bits 32 w / 2 ^ 12
same_high (pos y) (pos w) e = omega (arith, ints)
same_high (pos y) (negsuc w) e = omega (arith, ints)
same_high (negsuc y) (pos w) e = omega (arith, ints)
same_high (negsuc y) (negsuc w) e = omega (arith, ints)

-- the high part, by the low bits alone
pub upper : (v : ℤ) → low_bits 32 (high_part v) / 2 ^ 12 ≡ (low_bits 32 v + 0x800) % 2 ^ 32 / 2 ^ 12
upper v = same_high (high_part v) (v +ℤ pos 0x800) refl ∙ ap (λ n. n / 2 ^ 12) (sum_low (v +ℤ pos 0x800) v refl)
