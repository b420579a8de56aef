-- What the instructions of short forms do, as numbers.
use Rattle.std.proofs.Common.{◌≡◌, ◌<◌, ◌+ℤ◌, ◌-ℤ◌, ◌*ℤ◌, ◌+◌, ◌-◌, ◌%◌, ◌^◌, ◌≤◌, ◌⊎◌, inl, inr, ℕ, ℤ, pos, negsuc, suc, Bool, true, false, List, [], ◌∷◌, ◌++◌, Some, None, length, refl, true≢false, ap, sym, ◌∙◌, arith}
use Rattle.std.proofs.lemmas.Int.{ints}
use Rattle.std.proofs.lemmas.Bool.Decides.{leb_tells}
use Rattle.std.proofs.lemmas.List.{get_or-set_same, set-set}
use Rattle.std.specs.Prelude.{◌==◌, ◌↔◌, IsSome, if◌then◌else◌, slice_index, slice_set}
use Rattle.std.specs.Int.{cast_unsigned, w64}
use Rattle.byteorder.specs.Endian.{little_bytes}
use Rattle.asm_lines.specs.Choice.{◌>>=◌, when}
use Rattle.rv_alu.specs.declared.op.AluOp.TheVariants.{Add, Addw}
use Rattle.rv_inst.specs.declared.inst.Inst.{Inst}
use Rattle.rv_inst.specs.declared.inst.Inst.TheVariants.{AluImm, Auipc, Jalr, Lui}
use Rattle.asm_bytes.specs.Bytes.{li_bytes}
use Rattle.rv_alu.specs.Arithmetic.{extended, shifted_right, signed, wrapped}
use Rattle.rv_encode.specs.Jumps.{IsInReach, distance, high_part, low_part}
use Rattle.rv_inst.specs.Arch.{ArchState, IsArch}
use Rattle.rv_inst.specs.Meanings.{at_offset, next_pc, with_written, written}
use Rattle.rv_inst.specs.Spelling.{IsMultiple, IsNumber, IsSpelled, low_bits, word_of}
use Rattle.asm_bytes.proofs.ReachLemmas.{below, near}
use Rattle.asm_bytes.proofs.WordLemmas.{decided, number_12, number_32}
use Rattle.asm_bytes.specs.Laws.{after_all, at_target, one_on, two_on}
use Rattle.asm_bytes.specs.Shorts.{call_code, la_code, long_li, short_li}
use Rattle.asm_bytes.specs.Words.{code_bytes, has_word, is_number}

-- addi to x0
short_sum : (z : ℤ) → IsNumber 12 z → (0 + cast_unsigned w64 z) % 2 ^ 64 ≡ wrapped z
short_sum (pos n) h = omega (arith, ints)
short_sum (negsuc n) h = omega (arith, ints)

-- a word with its sign
sign : (n : ℕ) → n < 2 ^ 32 → ((n < 2 ^ 31) × (signed 32 n ≡ pos n)) ⊎ ((2 ^ 31 ≤ n) × (signed 32 n ≡ negsuc (2 ^ 32 - 1 - n)))
sign n small = elim (leb_tells (suc n) (2 ^ 31)) [
  | inl h ↦ inl (omega arith, rw h.0 refl)
  | inr h ↦ inr (omega arith, rw h.0 (omega (arith, ints)))
]

-- the low word of a number with its sign
low_signed : (n m : ℕ) → n < 2 ^ 32 → (cast_unsigned w64 (signed 32 n) + m) % 2 ^ 32 ≡ (n + m) % 2 ^ 32
low_signed n m small = elim (sign n small) [
  | inl h ↦ rw h.1 refl
  | inr h ↦ rw h.1 (omega arith)
]

-- a number of 32 bits is its low word with its sign
back : (z : ℤ) → IsNumber 32 z → signed 32 (low_bits 32 z) ≡ z
back (pos n) h = elim (sign (n % 2 ^ 32) (omega arith)) [
  | inl s ↦ s.1 ∙ omega (arith, ints)
  | inr s ↦ absurd (omega (arith, ints))
]
back (negsuc n) h = elim (sign (2 ^ 32 - 1 - n % 2 ^ 32) (omega arith)) [
  | inl s ↦ absurd (omega (arith, ints))
  | inr s ↦ s.1 ∙ omega (arith, ints)
]

-- low words add
low_sum : (high low z : ℤ) → high +ℤ low ≡ z → IsNumber 12 low → (low_bits 32 high + cast_unsigned w64 low) % 2 ^ 32 ≡ low_bits 32 z
low_sum (pos h) (pos l) (pos n) sum a = omega (arith, ints)
low_sum (pos h) (pos l) (negsuc n) sum a = omega (arith, ints)
low_sum (pos h) (negsuc l) (pos n) sum a = omega (arith, ints)
low_sum (pos h) (negsuc l) (negsuc n) sum a = omega (arith, ints)
low_sum (negsuc h) (pos l) (pos n) sum a = omega (arith, ints)
low_sum (negsuc h) (pos l) (negsuc n) sum a = omega (arith, ints)
low_sum (negsuc h) (negsuc l) (pos n) sum a = omega (arith, ints)
low_sum (negsuc h) (negsuc l) (negsuc n) sum a = omega (arith, ints)

low_small : (z : ℤ) → low_bits 32 z < 2 ^ 32
low_small (pos n) = omega arith
low_small (negsuc n) = omega arith

-- lui and addiw
long_sum : (high low z : ℤ) → high +ℤ low ≡ z → IsNumber 12 low → IsNumber 32 z → extended (cast_unsigned w64 (signed 32 (low_bits 32 high)) + cast_unsigned w64 low) ≡ wrapped z
long_sum high low z sum a b =
    let word = low_signed (low_bits 32 high) (cast_unsigned w64 low) (low_small high) ∙ low_sum high low z sum a in
    ap (λ (n : ℕ). wrapped (signed 32 n)) word ∙ ap wrapped (back z b)

-- auipc and what stands behind it
far_sum : (from to : ℕ) (high low : ℤ) → from < 2 ^ 64 → to < 2 ^ 64 → IsNumber 32 high → IsNumber 12 low → (pos from +ℤ high) +ℤ low ≡ pos to → at_offset (at_offset from high) low ≡ to
far_sum from to (pos h) (pos l) a b c d e = omega (arith, ints)
far_sum from to (pos h) (negsuc l) a b c d e = omega (arith, ints)
far_sum from to (negsuc h) (pos l) a b c d e = omega (arith, ints)
far_sum from to (negsuc h) (negsuc l) a b c d e = omega (arith, ints)

-- the two parts of a number
parts : (high z : ℤ) → high +ℤ (z -ℤ high) ≡ z
parts high z = omega (arith, ints)

low_fits : (v : ℤ) → IsNumber 12 (low_part v)
low_fits v = (omega (arith, ints, below (v +ℤ pos 0x800), near (v +ℤ pos 0x800)), omega (arith, ints, below (v +ℤ pos 0x800), near (v +ℤ pos 0x800)))

high_fits : (v : ℤ) → IsInReach v → IsNumber 32 (high_part v)
high_fits v h = (omega (arith, ints, h.0, h.1, below (v +ℤ pos 0x800), near (v +ℤ pos 0x800)), omega (arith, ints, h.0, h.1, below (v +ℤ pos 0x800), near (v +ℤ pos 0x800)))

-- a register that is written twice, the second time by what stands in it
twice : (x : List ℕ) (rd first last : ℕ) (f : ℕ → ℕ) → rd < length x → f first ≡ last
    → written (written x rd first) rd (f (slice_index (written x rd first) rd)) ≡ written x rd last
twice x rd first last f in_range e = by (rd == 0)
  where
    at : slice_index (slice_set x rd first) rd ≡ first
    at = get_or-set_same x rd first 0 in_range

    by : (zero : Bool)
        → (if zero then (if zero then x else slice_set x rd first) else slice_set (if zero then x else slice_set x rd first) rd (f (slice_index (if zero then x else slice_set x rd first) rd)))
        ≡ (if zero then x else slice_set x rd last)
    by true = refl
    by false = set-set x rd first _ ∙ ap (slice_set x rd) (ap f at ∙ e)

pub short_li_loads : (rd : ℕ) (value : ℤ) (arch : ArchState) → IsArch arch.x → is_number 12 value ≡ true → after_all (short_li rd value) arch ≡ one_on rd (wrapped value) arch
short_li_loads rd value arch zero_is h =
    let sum = ap (λ (n : ℕ). (n + cast_unsigned w64 value) % 2 ^ 64) zero_is ∙ short_sum value ((number_12 value).0 h) in
    ap (λ (n : ℕ). with_written arch rd n) sum

pub long_li_loads : (rd : ℕ) (value : ℤ) (arch : ArchState) → rd < length arch.x → is_number 32 value ≡ true → after_all (long_li rd value) arch ≡ two_on rd (wrapped value) arch
unfolding long_li
long_li_loads rd value arch in_range h =
    let sum = long_sum (high_part value) (low_part value) value (parts (high_part value) value) (low_fits value) ((number_32 value).0 h) in
    ap (λ (xs : List ℕ). record { pc = next_pc (next_pc arch.pc); x = xs })
    (twice arch.x rd _ (wrapped value) (λ n. extended (n + cast_unsigned w64 (low_part value))) in_range sum)

-- the two parts lead from one address to the other
reach_sum : (from to : ℕ) → from < 2 ^ 64 → to < 2 ^ 64 → IsInReach (distance from to)
    → at_offset (at_offset from (high_part (distance from to))) (low_part (distance from to)) ≡ to
reach_sum from to a b reach =
    let v = distance from to in
    let sum : ((pos from +ℤ high_part v) +ℤ low_part v) ≡ pos to = omega (arith, ints) in
    far_sum from to (high_part v) (low_part v) a b (high_fits v reach) (low_fits v) sum

pub la_finds_it : (rd target : ℕ) (arch : ArchState) → rd < length arch.x → arch.pc < 2 ^ 64 → target < 2 ^ 64 → IsInReach (distance arch.pc target) → after_all (la_code rd (distance arch.pc target)) arch ≡ two_on rd target arch
unfolding la_code
la_finds_it rd target arch in_range a b reach =
    let low = low_part (distance arch.pc target) in
    ap (λ (xs : List ℕ). record { pc = next_pc (next_pc arch.pc); x = xs })
    (twice arch.x rd _ target (λ n. (n + cast_unsigned w64 low) % 2 ^ 64) in_range (reach_sum arch.pc target a b reach))

pub call_leads_there : (target : ℕ) (arch : ArchState) → 1 < length arch.x → arch.pc < 2 ^ 64 → target < 2 ^ 64 → target % 2 ≡ 0 → IsInReach (distance arch.pc target) → after_all (call_code (distance arch.pc target)) arch ≡ at_target target arch
unfolding call_code
call_leads_there target arch in_range a b even reach =
    let v = distance arch.pc target in
    let first = at_offset arch.pc (high_part v) in
    let at : slice_index (slice_set arch.x 1 first) 1 ≡ first = get_or-set_same arch.x 1 first 0 in_range in
    let there = ap (λ (n : ℕ). at_offset n (low_part v)) at ∙ reach_sum arch.pc target a b reach in
    let bit : target - target % 2 ≡ target = omega arith in
    let pc = ap (λ (n : ℕ). n - n % 2) there ∙ bit in
    ap (λ (n : ℕ). record { pc = n; x = slice_set (slice_set arch.x 1 first) 1 (next_pc (next_pc arch.pc)) }) pc
    ∙ ap (λ (xs : List ℕ). record { pc = target; x = xs }) (set-set arch.x 1 first _)

rounded : (z : ℤ) → IsMultiple (2 ^ 12) (shifted_right z 12 *ℤ pos (2 ^ 12))
rounded (pos n) = omega (arith, ints)
rounded (negsuc n) = omega (arith, ints)

-- two instructions have bytes where both have words
both_some : (first last : Inst) → IsSome (code_bytes (first ∷ last ∷ [])) → IsSpelled first × IsSpelled last
unfolding code_bytes
both_some first last h = by (has_word first) (has_word last) refl refl h
  where
    by : (a b : Bool) → has_word first ≡ a → has_word last ≡ b
        → IsSome (when a (little_bytes 4 (word_of first)) >>= (λ front. (when b (little_bytes 4 (word_of last)) >>= (λ back. Some (back ++ []))) >>= (λ back. Some (front ++ back))))
        → IsSpelled first × IsSpelled last
    by true true e f h = ((decided first).0 e, (decided last).0 f)
    by true false e f h = cc h
    by false b e f h = cc h

some_both : (first last : Inst) → IsSpelled first → IsSpelled last → IsSome (code_bytes (first ∷ last ∷ []))
unfolding code_bytes
some_both first last a b = rw ((decided first).1 a) (rw ((decided last).1 b) refl)

-- which labels are in reach of auipc and what stands behind it
high_reach : (v : ℤ) → IsNumber 32 (high_part v) → IsInReach v
high_reach v h = (omega (arith, ints, h.0, h.1, below (v +ℤ pos 0x800), near (v +ℤ pos 0x800)), omega (arith, ints, h.0, h.1, below (v +ℤ pos 0x800), near (v +ℤ pos 0x800)))

pub la_reach : (rd : ℕ) (far : ℤ) → rd < 32 → IsSome (code_bytes (la_code rd far)) ↔ IsInReach far
unfolding la_code
la_reach rd far in_range = (
  λ h. high_reach far (both_some (Auipc rd (high_part far)) (AluImm Add rd rd (low_part far)) h).0.1,
  λ h. some_both (Auipc rd (high_part far)) (AluImm Add rd rd (low_part far)) (in_range, high_fits far h, rounded (far +ℤ pos 0x800)) (in_range, in_range, low_fits far),
)

pub call_reach : (far : ℤ) → IsSome (code_bytes (call_code far)) ↔ IsInReach far
unfolding call_code
call_reach far = (
  λ h. high_reach far (both_some (Auipc 1 (high_part far)) (Jalr 1 1 (low_part far)) h).0.1,
  λ h. some_both (Auipc 1 (high_part far)) (Jalr 1 1 (low_part far)) (omega arith, high_fits far h, rounded (far +ℤ pos 0x800)) (omega arith, omega arith, low_fits far),
)

-- the low word of a multiple of 2 ^ 12 with its sign
low_multiple : (z : ℤ) → IsMultiple (2 ^ 12) z → low_bits 32 z % 2 ^ 12 ≡ 0
low_multiple (pos n) h = omega arith
low_multiple (negsuc n) h = omega arith

lui_fits : (n : ℕ) → n < 2 ^ 32 → n % 2 ^ 12 ≡ 0 → IsNumber 32 (signed 32 n) × IsMultiple (2 ^ 12) (signed 32 n)
lui_fits n small even = elim (sign n small) [
  | inl h ↦ rw h.1 ((omega (arith, ints), omega (arith, ints)), omega arith)
  | inr h ↦ rw h.1 ((omega (arith, ints), omega (arith, ints)), omega arith)
]

-- an instruction has bytes where it has a word
some_one : (inst : Inst) → IsSpelled inst → IsSome (code_bytes (inst ∷ []))
unfolding code_bytes
some_one inst a = rw ((decided inst).1 a) refl

long_some : (rd : ℕ) (value : ℤ) → rd < 32 → IsSome (code_bytes (long_li rd value))
unfolding long_li
long_some rd value in_range =
    let high = high_part value in
    let word = lui_fits (low_bits 32 high) (low_small high) (low_multiple high (rounded (value +ℤ pos 0x800))) in
    some_both (Lui rd (signed 32 (low_bits 32 high))) (AluImm Addw rd rd (low_part value)) (in_range, word.0, word.1) (in_range, in_range, low_fits value)

pub li_fits : (rd : ℕ) (value : ℤ) → rd < 32 → IsSome (li_bytes rd value) ↔ IsNumber 32 value
unfolding li_bytes
li_fits rd value in_range = by (is_number 12 value) (is_number 32 value) refl refl
  where
    by : (a b : Bool) → is_number 12 value ≡ a → is_number 32 value ≡ b
        → IsSome (if a then code_bytes (short_li rd value) else if b then code_bytes (long_li rd value) else None) ↔ IsNumber 32 value
    by true b e f =
        let low : IsNumber 12 value = (number_12 value).0 e in
        (λ _. (omega (arith, ints, low.0), omega (arith, ints, low.1)), λ _. some_one (AluImm Add rd 0 value) (in_range, omega arith, low))
    by false true e f = (λ _. (number_32 value).0 f, λ _. long_some rd value in_range)
    by false false e f = (λ h. cc h, λ h. absurd (true≢false (sym ((number_32 value).1 h) ∙ f)))
