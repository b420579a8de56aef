-- The parts of a jump, and where its two instructions lead.
use Rattle.std.proofs.Common.{◌≡◌, ◌<◌, ◌≤ℤ◌, ◌+ℤ◌, ◌*ℤ◌, ◌-◌, ◌%◌, ◌^◌, ℕ, ℤ, pos, negsuc, List, ◌++◌, Some, length, refl, ap, ◌∙◌, arith, get_or-set_same}
use Rattle.std.proofs.lemmas.Int.{ints}
use Rattle.std.proofs.lemmas.Nat.{from_le_bytes-to_le_bytes_4}
use Rattle.std.specs.Prelude.{slice_index, slice_set}
use Rattle.std.specs.Int.{to_le_bytes, w32}
use Rattle.rv_alu.specs.Arithmetic.{shifted_right}
use Rattle.rv_inst.specs.Meanings.{at_offset, jalr_target, to_jump}
use Rattle.rv_inst.specs.Decoding.{inst_of}
use Rattle.rv_inst.specs.Spelling.{IsSpelled, IsNumber, IsMultiple}
use Rattle.rv_encode.specs.Jumps.{distance, IsInReach, high_part, low_part, first_inst, second_inst, state_at, LeadsTo}

-- a number rounded down to a multiple of 2 ^ 12
pub below : (z : ℤ) → (shifted_right z 12 *ℤ pos (2 ^ 12)) ≤ℤ z
below (pos n) = omega (arith, ints)
below (negsuc n) = omega (arith, ints)

pub near : (z : ℤ) → z ≤ℤ ((shifted_right z 12 *ℤ pos (2 ^ 12)) +ℤ pos (2 ^ 12 - 1))
near (pos n) = omega (arith, ints)
near (negsuc n) = omega (arith, ints)

pub rounded : (z : ℤ) → IsMultiple (2 ^ 12) (shifted_right z 12 *ℤ pos (2 ^ 12))
rounded (pos n) = omega (arith, ints)
rounded (negsuc n) = omega (arith, ints)

-- the two instructions have their numbers in range
pub first_spelled : (v : ℤ) → IsInReach v → IsSpelled (first_inst v)
first_spelled v h = (omega arith, (omega (arith, ints, below (v +ℤ pos 0x800), near (v +ℤ pos 0x800)), omega (arith, ints, below (v +ℤ pos 0x800), near (v +ℤ pos 0x800))), rounded (v +ℤ pos 0x800))

pub second_spelled : (v : ℤ) → IsSpelled (second_inst v)
second_spelled v = (omega arith, omega arith, (omega (arith, ints, below (v +ℤ pos 0x800), near (v +ℤ pos 0x800)), omega (arith, ints, below (v +ℤ pos 0x800), near (v +ℤ pos 0x800))))

pub target : (from to : ℕ) (high low : ℤ) → from < 2 ^ 64 → to < 2 ^ 64 → to % 2 ≡ 0 → IsNumber 32 high → IsNumber 12 low → (pos from +ℤ high) +ℤ low ≡ pos to → jalr_target (at_offset from high) low ≡ to
target from to (pos h) (pos l) a b c d e f = omega (arith, ints)
target from to (pos h) (negsuc l) a b c d e f = omega (arith, ints)
target from to (negsuc h) (pos l) a b c d e f = omega (arith, ints)
target from to (negsuc h) (negsuc l) a b c d e f = omega (arith, ints)

-- two words that are the two instructions, and what their bytes do
pub leads : (from to first second : ℕ) (v : ℤ) (x : List ℕ) → from < 2 ^ 64 → to < 2 ^ 64 → first < 2 ^ 32 → second < 2 ^ 32 → to % 2 ≡ 0 → v ≡ distance from to → IsInReach v
    → inst_of first ≡ Some (first_inst v) → inst_of second ≡ Some (second_inst v) → length x ≡ 32
    → LeadsTo (to_le_bytes w32 first ++ to_le_bytes w32 second) from to x
leads from to first second v x a b c d even is reach e f all =
    let between : ℕ = at_offset from (high_part v) in
    let after : List ℕ = slice_set x 6 between in
    let there : slice_index after 6 ≡ between = get_or-set_same x 6 between 0 (omega arith) in
    let sum : ((pos from +ℤ high_part v) +ℤ low_part v) ≡ pos to = omega (arith, ints) in
    let to_target = target from to (high_part v) (low_part v) a b even (first_spelled v reach).1 (second_spelled v).2 sum in
    let goes : jalr_target (slice_index after 6) (low_part v) ≡ to = rw there to_target in
    record {
      between = between;
      first = record { inst = first_inst v; decodes = ap inst_of (from_le_bytes-to_le_bytes_4 first c) ∙ e; wants = refl; leaves = λ got. refl };
      second = record {
        inst = second_inst v;
        decodes = ap inst_of (from_le_bytes-to_le_bytes_4 second d) ∙ f;
        wants = ap to_jump goes;
        leaves = λ got. ap (λ (pc : ℕ). state_at pc after) goes;
      };
    }
