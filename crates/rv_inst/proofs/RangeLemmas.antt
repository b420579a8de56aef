-- The instruction of a row has its fields in range.
use Rattle.std.proofs.Common.{◌≡◌, ◌≢◌, ◌<◌, ◌≤ℤ◌, ℕ, ℤ, pos, negsuc, ◌+◌, ◌*◌, ◌%◌, ◌^◌, Option, Some, None, sym, subst, arith}
use Rattle.std.proofs.lemmas.Bool.Decides.{nat_tests}
use Rattle.std.proofs.lemmas.Int.{ints}
use Rattle.rv_alu.specs.Arithmetic.{signed}
use Rattle.rv_inst.specs.declared.inst.Inst.{Inst}
use Rattle.rv_inst.specs.declared.inst.Inst.TheVariants.{Lui, Auipc, Jal, Jalr, Branch, Load, Store, AluImm, Alu, Amo, Lr, Sc, Fence, FenceI, Ecall, Ebreak}
use Rattle.rv_inst.specs.Fields.{bits, imm_i, imm_s, imm_b, imm_u, imm_j, rd_in, rs1_in, rs2_in, amount_64, amount_32}
use Rattle.rv_inst.specs.Rows.{IsRow, ImmCodes, Number, Shift64, Shift32, HasImm, imm_codes}
use Rattle.rv_inst.specs.Spelling.{IsSpelled, IsRegister, IsNumber, IsMultiple, IsAmount, IsImm}

rd_fits : (word : ℕ) → IsRegister (rd_in word)
rd_fits word = omega arith

rs1_fits : (word : ℕ) → IsRegister (rs1_in word)
rs1_fits word = omega arith

rs2_fits : (word : ℕ) → IsRegister (rs2_in word)
rs2_fits word = omega arith

low_12 : (n : ℕ) → n < 2 ^ 12 → negsuc 2047 ≤ℤ signed 12 n
low_12 n h = grind (arith, ints, nat_tests)

high_12 : (n : ℕ) → n < 2 ^ 12 → signed 12 n ≤ℤ pos 2047
high_12 n h = grind (arith, ints, nat_tests)

number_12 : (n : ℕ) → n < 2 ^ 12 → IsNumber 12 (signed 12 n)
number_12 n h = (low_12 n h, high_12 n h)

low_13 : (n : ℕ) → n < 2 ^ 13 → negsuc 4095 ≤ℤ signed 13 n
low_13 n h = grind (arith, ints, nat_tests)

high_13 : (n : ℕ) → n < 2 ^ 13 → signed 13 n ≤ℤ pos 4095
high_13 n h = grind (arith, ints, nat_tests)

even_13 : (n : ℕ) → n < 2 ^ 13 → n % 2 ≡ 0 → IsMultiple 2 (signed 13 n)
even_13 n h e = grind (arith, ints, nat_tests)

low_21 : (n : ℕ) → n < 2 ^ 21 → negsuc 1048575 ≤ℤ signed 21 n
low_21 n h = grind (arith, ints, nat_tests)

high_21 : (n : ℕ) → n < 2 ^ 21 → signed 21 n ≤ℤ pos 1048575
high_21 n h = grind (arith, ints, nat_tests)

even_21 : (n : ℕ) → n < 2 ^ 21 → n % 2 ≡ 0 → IsMultiple 2 (signed 21 n)
even_21 n h e = grind (arith, ints, nat_tests)

low_32 : (n : ℕ) → n < 2 ^ 32 → negsuc 2147483647 ≤ℤ signed 32 n
low_32 n h = grind (arith, ints, nat_tests)

high_32 : (n : ℕ) → n < 2 ^ 32 → signed 32 n ≤ℤ pos 2147483647
high_32 n h = grind (arith, ints, nat_tests)

pages_32 : (n : ℕ) → n < 2 ^ 32 → n % 2 ^ 12 ≡ 0 → IsMultiple (2 ^ 12) (signed 32 n)
pages_32 n h e = grind (arith, ints, nat_tests)

imm_i_fits : (word : ℕ) → IsNumber 12 (imm_i word)
imm_i_fits word = number_12 (bits 31 20 word) (omega arith)

imm_s_fits : (word : ℕ) → IsNumber 12 (imm_s word)
imm_s_fits word = number_12 (bits 31 25 word * 2 ^ 5 + bits 11 7 word) (omega arith)

fits_b : (word : ℕ) → IsNumber 13 (imm_b word) × IsMultiple 2 (imm_b word)
fits_b word =
    let n : ℕ = bits 31 31 word * 2 ^ 12 + bits 7 7 word * 2 ^ 11 + bits 30 25 word * 2 ^ 5 + bits 11 8 word * 2 ^ 1 in
    let h : n < 2 ^ 13 = omega arith in
    ((low_13 n h, high_13 n h), even_13 n h (omega arith))

fits_j : (word : ℕ) → IsNumber 21 (imm_j word) × IsMultiple 2 (imm_j word)
fits_j word =
    let n : ℕ = bits 31 31 word * 2 ^ 20 + bits 19 12 word * 2 ^ 12 + bits 20 20 word * 2 ^ 11 + bits 30 21 word * 2 ^ 1 in
    let h : n < 2 ^ 21 = omega arith in
    ((low_21 n h, high_21 n h), even_21 n h (omega arith))

fits_u : (word : ℕ) → IsNumber 32 (imm_u word) × IsMultiple (2 ^ 12) (imm_u word)
fits_u word =
    let n : ℕ = bits 31 12 word * 2 ^ 12 in
    let h : n < 2 ^ 32 = omega arith in
    ((low_32 n h, high_32 n h), pages_32 n h (omega arith))

amount_fits_64 : (word : ℕ) → IsAmount 64 (pos (amount_64 word))
amount_fits_64 word = (omega (arith, ints), omega (arith, ints))

amount_fits_32 : (word : ℕ) → IsAmount 32 (pos (amount_32 word))
amount_fits_32 word = (omega (arith, ints), omega (arith, ints))

imm_fits : (word : ℕ) (codes : Option ImmCodes) (imm : ℤ) → HasImm word codes imm → IsImm codes imm
imm_fits word (Some (Number op f3)) imm h = subst (IsNumber 12) (sym h.2) (imm_i_fits word)
imm_fits word (Some (Shift64 op f3 f6)) imm h = subst (IsAmount 64) (sym h.3) (amount_fits_64 word)
imm_fits word (Some (Shift32 op f3 f7)) imm h = subst (IsAmount 32) (sym h.3) (amount_fits_32 word)
imm_fits word None imm h = h

some_code : (o : Option ℕ) (code : ℕ) → o ≡ Some code → o ≢ None
some_code o code e n = absurd (cc)

pub fields_fit : (word : ℕ) (inst : Inst) → word < 2 ^ 32 → IsRow word inst → IsSpelled inst
fields_fit word (Lui rd imm) w h = rw (h.1, h.2) (rd_fits word, (fits_u word).0, (fits_u word).1)
fields_fit word (Auipc rd imm) w h = rw (h.1, h.2) (rd_fits word, (fits_u word).0, (fits_u word).1)
fields_fit word (Jal rd off) w h = rw (h.1, h.2) (rd_fits word, (fits_j word).0, (fits_j word).1)
fields_fit word (Jalr rd rs1 off) w h = rw (h.2, h.3, h.4) (rd_fits word, rs1_fits word, imm_i_fits word)
fields_fit word (Branch cond rs1 rs2 off) w h = rw (h.2, h.3, h.4) (rs1_fits word, rs2_fits word, (fits_b word).0, (fits_b word).1)
fields_fit word (Load width signed rd rs1 off) w h = rw (h.2, h.3, h.4) (rd_fits word, rs1_fits word, imm_i_fits word, some_code _ _ h.1)
fields_fit word (Store width rs1 rs2 off) w h = rw (h.2, h.3, h.4) (rs1_fits word, rs2_fits word, imm_s_fits word, some_code _ _ h.1)
fields_fit word (AluImm op rd rs1 imm) w h = rw (h.1, h.2) (rd_fits word, rs1_fits word, imm_fits word (imm_codes op) imm h.0)
fields_fit word (Alu op rd rs1 rs2) w h = rw (h.1, h.2, h.3) (rd_fits word, rs1_fits word, rs2_fits word)
fields_fit word (Amo op wide aq rl rd rs1 rs2) w h = rw (h.1, h.2, h.3) (rd_fits word, rs1_fits word, rs2_fits word)
fields_fit word (Lr wide aq rl rd rs1) w h = rw (h.1, h.2) (rd_fits word, rs1_fits word)
fields_fit word (Sc wide aq rl rd rs1 rs2) w h = rw (h.1, h.2, h.3) (rd_fits word, rs1_fits word, rs2_fits word)
fields_fit word (Fence raw) w h = rw h.2 (w, h.0, h.1)
fields_fit word (FenceI raw) w h = rw h.2 (w, h.0, h.1)
fields_fit word Ecall w h = tt
fields_fit word Ebreak w h = tt
