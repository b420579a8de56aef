-- Each instruction whose fields are in range has one word.
use Rattle.std.proofs.Common.{◌≡◌, ◌≢◌, ◌<◌, ℕ, ℤ, pos, negsuc, ◌+◌, ◌*◌, ◌/◌, ◌%◌, ◌^◌, Option, Some, None, Bool, true, false, refl, sym, ap, ◌∙◌, arith}
use Rattle.std.specs.Prelude.{unsigned_abs, unwrap_or}
use Rattle.std.proofs.lemmas.Bool.Decides.{nat_tests}
use Rattle.std.proofs.lemmas.Int.{ints}
use Rattle.rv_alu.specs.declared.op.AluOp.{AluOp}
use Rattle.rv_alu.specs.declared.op.AluOp.TheVariants.{Add, Sub, Sll, Slt, Sltu, Xor, Srl, Sra, Or, And, Addw, Subw, Sllw, Srlw, Sraw, Mul, Mulh, Mulhsu, Mulhu, Div, Divu, Rem, Remu, Mulw, Divw, Divuw, Remw, Remuw}
use Rattle.rv_alu.specs.declared.op.AmoOp.{AmoOp}
use Rattle.rv_alu.specs.declared.op.AmoOp.TheVariants as amo
use Rattle.rv_alu.specs.declared.op.Cond.{Cond}
use Rattle.rv_alu.specs.declared.op.Cond.TheVariants.{Equal, NotEqual, Less, GreaterOrEqual, LessUnsigned, GreaterOrEqualUnsigned}
use Rattle.rv_alu.specs.Arithmetic.{signed}
use Rattle.rv_inst.specs.declared.inst.Inst.{Inst}
use Rattle.rv_inst.specs.declared.inst.Inst.TheVariants.{Lui, Auipc, Jal, Jalr, Branch, Load, Store, AluImm, Alu, Amo, Lr, Sc, Fence, FenceI, Ecall, Ebreak}
use Rattle.rv_inst.specs.Fields.{bits, opcode, rd_in, funct3, rs1_in, rs2_in, funct7, funct6, funct5, aq_in, rl_in, imm_i, imm_s, imm_b, imm_u, imm_j, amount_64, amount_32}
use Rattle.rv_inst.specs.Rows.{IsRow, ImmCodes, Number, Shift64, Shift32, HasImm, HasCodes, IsAtomic, imm_codes, alu_codes, amo_code, branch_code, load_code, store_code, wide_code}
use Rattle.rv_inst.specs.Spelling.{IsSpelled, IsNumber, IsMultiple, IsAmount, low_bits, word_r, word_i, word_s, word_b, word_u, word_j, word_imm, word_of, atomic_code}
use Rattle.rv_inst.proofs.FormatLemmas.{r_fields, i_fields, shift_fields_64, shift_fields_32, s_fields, b_fields, u_fields, j_fields, r_whole, i_whole, s_whole, b_whole, u_whole, j_whole, low_12, fits_12, signed_12, low_13, fits_13, signed_13, low_21, fits_21, signed_21, low_32, fits_32, signed_32}

-- codes are in range
codes_fit : (op : AluOp) → ((alu_codes op).0 < 2 ^ 7) × ((alu_codes op).1 < 2 ^ 3) × ((alu_codes op).2 < 2 ^ 7)
codes_fit Add = (omega arith, omega arith, omega arith)
codes_fit Sub = (omega arith, omega arith, omega arith)
codes_fit Sll = (omega arith, omega arith, omega arith)
codes_fit Slt = (omega arith, omega arith, omega arith)
codes_fit Sltu = (omega arith, omega arith, omega arith)
codes_fit Xor = (omega arith, omega arith, omega arith)
codes_fit Srl = (omega arith, omega arith, omega arith)
codes_fit Sra = (omega arith, omega arith, omega arith)
codes_fit Or = (omega arith, omega arith, omega arith)
codes_fit And = (omega arith, omega arith, omega arith)
codes_fit Addw = (omega arith, omega arith, omega arith)
codes_fit Subw = (omega arith, omega arith, omega arith)
codes_fit Sllw = (omega arith, omega arith, omega arith)
codes_fit Srlw = (omega arith, omega arith, omega arith)
codes_fit Sraw = (omega arith, omega arith, omega arith)
codes_fit Mul = (omega arith, omega arith, omega arith)
codes_fit Mulh = (omega arith, omega arith, omega arith)
codes_fit Mulhsu = (omega arith, omega arith, omega arith)
codes_fit Mulhu = (omega arith, omega arith, omega arith)
codes_fit Div = (omega arith, omega arith, omega arith)
codes_fit Divu = (omega arith, omega arith, omega arith)
codes_fit Rem = (omega arith, omega arith, omega arith)
codes_fit Remu = (omega arith, omega arith, omega arith)
codes_fit Mulw = (omega arith, omega arith, omega arith)
codes_fit Divw = (omega arith, omega arith, omega arith)
codes_fit Divuw = (omega arith, omega arith, omega arith)
codes_fit Remw = (omega arith, omega arith, omega arith)
codes_fit Remuw = (omega arith, omega arith, omega arith)

cond_fits : (cond : Cond) → branch_code cond < 2 ^ 3
cond_fits Equal = omega arith
cond_fits NotEqual = omega arith
cond_fits Less = omega arith
cond_fits GreaterOrEqual = omega arith
cond_fits LessUnsigned = omega arith
cond_fits GreaterOrEqualUnsigned = omega arith

amo_fits : (op : AmoOp) → amo_code op < 2 ^ 5
amo_fits amo.Swap = omega arith
amo_fits amo.Add = omega arith
amo_fits amo.Xor = omega arith
amo_fits amo.And = omega arith
amo_fits amo.Or = omega arith
amo_fits amo.Min = omega arith
amo_fits amo.Max = omega arith
amo_fits amo.Minu = omega arith
amo_fits amo.Maxu = omega arith

wide_fits : (wide : Bool) → wide_code wide < 2 ^ 3
wide_fits true = omega arith
wide_fits false = omega arith

atomic_fits : (f5 : ℕ) (aq rl : Bool) → f5 < 2 ^ 5 → atomic_code f5 aq rl < 2 ^ 7
atomic_fits f5 true true h = omega arith
atomic_fits f5 true false h = omega arith
atomic_fits f5 false true h = omega arith
atomic_fits f5 false false h = omega arith

-- where there is a code, it is the code
code_there : (o : Option ℕ) → o ≢ None → o ≡ Some (unwrap_or o 0)
code_there None h = absurd (h refl)
code_there (Some code) h = refl

load_fits : (width : ℕ) (signed : Bool) → unwrap_or (load_code width signed) 0 < 2 ^ 3
load_fits width true = grind (arith, nat_tests)
load_fits width false = grind (arith, nat_tests)

store_fits : (width : ℕ) → unwrap_or (store_code width) 0 < 2 ^ 3
store_fits width = grind (arith, nat_tests)

-- the bits of an atomic instruction
atomic_parts : (word f5 : ℕ) (aq rl : Bool) → f5 < 2 ^ 5 → funct7 word ≡ atomic_code f5 aq rl → (funct5 word ≡ f5) × (aq ≡ aq_in word) × (rl ≡ rl_in word)
atomic_parts word f5 true true h e = (omega arith, grind (arith, nat_tests), grind (arith, nat_tests))
atomic_parts word f5 true false h e = (omega arith, grind (arith, nat_tests), grind (arith, nat_tests))
atomic_parts word f5 false true h e = (omega arith, grind (arith, nat_tests), grind (arith, nat_tests))
atomic_parts word f5 false false h e = (omega arith, grind (arith, nat_tests), grind (arith, nat_tests))

atomic_row : (f5 rd rs1 rs2 : ℕ) (wide aq rl : Bool) → f5 < 2 ^ 5 → rd < 2 ^ 5 → rs1 < 2 ^ 5 → rs2 < 2 ^ 5 → IsAtomic (word_r 0x2F (wide_code wide) (atomic_code f5 aq rl) rd rs1 rs2) f5 wide aq rl
atomic_row f5 rd rs1 rs2 wide aq rl hf h1 h2 h3 =
    let f = r_fields 0x2F (wide_code wide) (atomic_code f5 aq rl) rd rs1 rs2 (omega arith) (wide_fits wide) (atomic_fits f5 aq rl hf) h1 h2 h3 in
    let p = atomic_parts (word_r 0x2F (wide_code wide) (atomic_code f5 aq rl) rd rs1 rs2) f5 aq rl hf f.3 in
    (f.1, f.2, p.0, p.1, p.2)

-- a word of format I, with its number
i_row : (op f3 rd rs1 : ℕ) (off : ℤ) → op < 2 ^ 7 → f3 < 2 ^ 3 → rd < 2 ^ 5 → rs1 < 2 ^ 5 → IsNumber 12 off
    → let word : ℕ = word_i op f3 rd rs1 (low_bits 12 off) in (word < 2 ^ 32) × ((opcode word ≡ op) × (funct3 word ≡ f3) × (rd ≡ rd_in word) × (rs1 ≡ rs1_in word) × (off ≡ imm_i word))
i_row op f3 rd rs1 off a b c d n =
    let f = i_fields op f3 rd rs1 (low_bits 12 off) a b c d (fits_12 off n) in
    (f.0, (f.1, f.2, f.3, f.4, sym (ap (signed 12) f.5 ∙ signed_12 off n)))

r_row : (op f3 f7 rd rs1 rs2 : ℕ) → op < 2 ^ 7 → f3 < 2 ^ 3 → f7 < 2 ^ 7 → rd < 2 ^ 5 → rs1 < 2 ^ 5 → rs2 < 2 ^ 5
    → let word : ℕ = word_r op f3 f7 rd rs1 rs2 in (word < 2 ^ 32) × (HasCodes word (op, f3, f7) × (rd ≡ rd_in word) × (rs1 ≡ rs1_in word) × (rs2 ≡ rs2_in word))
r_row op f3 f7 rd rs1 rs2 a b c d e g = let f = r_fields op f3 f7 rd rs1 rs2 a b c d e g in (f.0, ((f.1, f.2, f.3), f.4, f.5, f.6))

s_row : (op f3 rs1 rs2 : ℕ) (off : ℤ) → op < 2 ^ 7 → f3 < 2 ^ 3 → rs1 < 2 ^ 5 → rs2 < 2 ^ 5 → IsNumber 12 off
    → let word : ℕ = word_s op f3 rs1 rs2 (low_bits 12 off) in (word < 2 ^ 32) × ((opcode word ≡ op) × (funct3 word ≡ f3) × (rs1 ≡ rs1_in word) × (rs2 ≡ rs2_in word) × (off ≡ imm_s word))
s_row op f3 rs1 rs2 off a b c d n =
    let f = s_fields op f3 rs1 rs2 (low_bits 12 off) a b c d (fits_12 off n) in
    (f.0, (f.1, f.2, f.3, f.4, sym (ap (signed 12) f.5 ∙ signed_12 off n)))

-- the low bits of a multiple
even_low : (z : ℤ) → IsNumber 13 z → IsMultiple 2 z → low_bits 13 z % 2 ≡ 0
even_low (pos n) h e = omega (arith, ints)
even_low (negsuc n) h e = omega (arith, ints)

even_low_21 : (z : ℤ) → IsNumber 21 z → IsMultiple 2 z → low_bits 21 z % 2 ≡ 0
even_low_21 (pos n) h e = omega (arith, ints)
even_low_21 (negsuc n) h e = omega (arith, ints)

pages_low : (z : ℤ) → IsNumber 32 z → IsMultiple (2 ^ 12) z → low_bits 32 z % 2 ^ 12 ≡ 0
pages_low (pos n) h e = omega (arith, ints)
pages_low (negsuc n) h e = omega (arith, ints)

b_row : (f3 rs1 rs2 : ℕ) (off : ℤ) → f3 < 2 ^ 3 → rs1 < 2 ^ 5 → rs2 < 2 ^ 5 → IsNumber 13 off → IsMultiple 2 off
    → let word : ℕ = word_b 0x63 f3 rs1 rs2 (low_bits 13 off) in (word < 2 ^ 32) × ((opcode word ≡ 0x63) × (funct3 word ≡ f3) × (rs1 ≡ rs1_in word) × (rs2 ≡ rs2_in word) × (off ≡ imm_b word))
b_row f3 rs1 rs2 off b c d n e =
    let f = b_fields 0x63 f3 rs1 rs2 (low_bits 13 off) (omega arith) b c d (fits_13 off n) (even_low off n e) in
    (f.0, (f.1, f.2, f.3, f.4, sym (ap (signed 13) f.5 ∙ signed_13 off n)))

u_row : (op rd : ℕ) (imm : ℤ) → op < 2 ^ 7 → rd < 2 ^ 5 → IsNumber 32 imm → IsMultiple (2 ^ 12) imm
    → let word : ℕ = word_u op rd (low_bits 32 imm) in (word < 2 ^ 32) × ((opcode word ≡ op) × (rd ≡ rd_in word) × (imm ≡ imm_u word))
u_row op rd imm a b n e =
    let f = u_fields op rd (low_bits 32 imm) a b (fits_32 imm n) (pages_low imm n e) in
    (f.0, (f.1, f.2, sym (ap (signed 32) f.3 ∙ signed_32 imm n)))

j_row : (rd : ℕ) (off : ℤ) → rd < 2 ^ 5 → IsNumber 21 off → IsMultiple 2 off
    → let word : ℕ = word_j 0x6F rd (low_bits 21 off) in (word < 2 ^ 32) × ((opcode word ≡ 0x6F) × (rd ≡ rd_in word) × (off ≡ imm_j word))
j_row rd off b n e =
    let f = j_fields 0x6F rd (low_bits 21 off) (omega arith) b (fits_21 off n) (even_low_21 off n e) in
    (f.0, (f.1, f.2, sym (ap (signed 21) f.3 ∙ signed_21 off n)))

-- the immediate of a shift is its amount below the code above it
amount : (bits : ℕ) (z : ℤ) → IsAmount bits z → z ≡ pos (unsigned_abs z)
amount bits (pos n) h = refl
amount bits (negsuc n) h = absurd (omega (arith, ints))

amount_low : (z : ℤ) → IsAmount 64 z → unsigned_abs z < 2 ^ 6
amount_low (pos n) h = omega (arith, ints)
amount_low (negsuc n) h = absurd (omega (arith, ints))

amount_low_32 : (z : ℤ) → IsAmount 32 z → unsigned_abs z < 2 ^ 5
amount_low_32 (pos n) h = omega (arith, ints)
amount_low_32 (negsuc n) h = absurd (omega (arith, ints))

shift_64 : (op f3 f6 rd rs1 : ℕ) (imm : ℤ) → op < 2 ^ 7 → f3 < 2 ^ 3 → f6 < 2 ^ 6 → rd < 2 ^ 5 → rs1 < 2 ^ 5 → IsAmount 64 imm
    → let word : ℕ = word_i op f3 rd rs1 (f6 * 2 ^ 6 + unsigned_abs imm) in
    (word < 2 ^ 32) × (((opcode word ≡ op) × (funct3 word ≡ f3) × (funct6 word ≡ f6) × (imm ≡ pos (amount_64 word))) × (rd ≡ rd_in word) × (rs1 ≡ rs1_in word))
shift_64 op f3 f6 rd rs1 imm a b h c d n =
    let low = amount_low imm n in
    let k : ℕ = f6 * 2 ^ 6 + unsigned_abs imm in
    let f = i_fields op f3 rd rs1 k a b c d (omega arith) in
    let s = shift_fields_64 (word_i op f3 rd rs1 k) k f.5 in
    let high : k / 2 ^ 6 ≡ f6 = omega arith in
    let rest : k % 2 ^ 6 ≡ unsigned_abs imm = omega arith in
    (f.0, ((f.1, f.2, s.0 ∙ high, amount 64 imm n ∙ ap pos (sym (s.1 ∙ rest))), f.3, f.4))

shift_32 : (op f3 f7 rd rs1 : ℕ) (imm : ℤ) → op < 2 ^ 7 → f3 < 2 ^ 3 → f7 < 2 ^ 7 → rd < 2 ^ 5 → rs1 < 2 ^ 5 → IsAmount 32 imm
    → let word : ℕ = word_i op f3 rd rs1 (f7 * 2 ^ 5 + unsigned_abs imm) in
    (word < 2 ^ 32) × (((opcode word ≡ op) × (funct3 word ≡ f3) × (funct7 word ≡ f7) × (imm ≡ pos (amount_32 word))) × (rd ≡ rd_in word) × (rs1 ≡ rs1_in word))
shift_32 op f3 f7 rd rs1 imm a b h c d n =
    let low = amount_low_32 imm n in
    let k : ℕ = f7 * 2 ^ 5 + unsigned_abs imm in
    let f = i_fields op f3 rd rs1 k a b c d (omega arith) in
    let s = shift_fields_32 (word_i op f3 rd rs1 k) k f.5 in
    let high : k / 2 ^ 5 ≡ f7 = omega arith in
    let rest : k % 2 ^ 5 ≡ unsigned_abs imm = omega arith in
    (f.0, ((f.1, f.2, s.0 ∙ high, amount 32 imm n ∙ ap pos (sym (s.1 ∙ rest))), f.3, f.4))

number_row : (op f3 rd rs1 : ℕ) (imm : ℤ) → op < 2 ^ 7 → f3 < 2 ^ 3 → rd < 2 ^ 5 → rs1 < 2 ^ 5 → IsNumber 12 imm
    → let word : ℕ = word_i op f3 rd rs1 (low_bits 12 imm) in (word < 2 ^ 32) × (((opcode word ≡ op) × (funct3 word ≡ f3) × (imm ≡ imm_i word)) × (rd ≡ rd_in word) × (rs1 ≡ rs1_in word))
number_row op f3 rd rs1 imm a b c d n = let r = i_row op f3 rd rs1 imm a b c d n in (r.0, ((r.1.0, r.1.1, r.1.4), r.1.2, r.1.3))

imm_row : (op : AluOp) (rd rs1 : ℕ) (imm : ℤ) → IsSpelled (AluImm op rd rs1 imm) → (word_of (AluImm op rd rs1 imm) < 2 ^ 32) × IsRow (word_of (AluImm op rd rs1 imm)) (AluImm op rd rs1 imm)
imm_row Add rd rs1 imm h = number_row 0x13 0 rd rs1 imm (omega arith) (omega arith) h.0 h.1 h.2
imm_row Slt rd rs1 imm h = number_row 0x13 2 rd rs1 imm (omega arith) (omega arith) h.0 h.1 h.2
imm_row Sltu rd rs1 imm h = number_row 0x13 3 rd rs1 imm (omega arith) (omega arith) h.0 h.1 h.2
imm_row Xor rd rs1 imm h = number_row 0x13 4 rd rs1 imm (omega arith) (omega arith) h.0 h.1 h.2
imm_row Or rd rs1 imm h = number_row 0x13 6 rd rs1 imm (omega arith) (omega arith) h.0 h.1 h.2
imm_row And rd rs1 imm h = number_row 0x13 7 rd rs1 imm (omega arith) (omega arith) h.0 h.1 h.2
imm_row Addw rd rs1 imm h = number_row 0x1B 0 rd rs1 imm (omega arith) (omega arith) h.0 h.1 h.2
imm_row Sll rd rs1 imm h = shift_64 0x13 1 0b000000 rd rs1 imm (omega arith) (omega arith) (omega arith) h.0 h.1 h.2
imm_row Srl rd rs1 imm h = shift_64 0x13 5 0b000000 rd rs1 imm (omega arith) (omega arith) (omega arith) h.0 h.1 h.2
imm_row Sra rd rs1 imm h = shift_64 0x13 5 0b010000 rd rs1 imm (omega arith) (omega arith) (omega arith) h.0 h.1 h.2
imm_row Sllw rd rs1 imm h = shift_32 0x1B 1 0x00 rd rs1 imm (omega arith) (omega arith) (omega arith) h.0 h.1 h.2
imm_row Srlw rd rs1 imm h = shift_32 0x1B 5 0x00 rd rs1 imm (omega arith) (omega arith) (omega arith) h.0 h.1 h.2
imm_row Sraw rd rs1 imm h = shift_32 0x1B 5 0x20 rd rs1 imm (omega arith) (omega arith) (omega arith) h.0 h.1 h.2
imm_row op rd rs1 imm h = absurd h.2

-- the word of an instruction whose fields are in range is below 2 ^ 32, and is that instruction
pub word_is_row : (inst : Inst) → IsSpelled inst → (word_of inst < 2 ^ 32) × IsRow (word_of inst) inst
word_is_row (Lui rd imm) h = u_row 0x37 rd imm (omega arith) h.0 h.1 h.2
word_is_row (Auipc rd imm) h = u_row 0x17 rd imm (omega arith) h.0 h.1 h.2
word_is_row (Jal rd off) h = j_row rd off h.0 h.1 h.2
word_is_row (Jalr rd rs1 off) h = i_row 0x67 0 rd rs1 off (omega arith) (omega arith) h.0 h.1 h.2
word_is_row (Branch cond rs1 rs2 off) h = b_row (branch_code cond) rs1 rs2 off (cond_fits cond) h.0 h.1 h.2 h.3
word_is_row (Load width sign rd rs1 off) h =
    let r = i_row 0x03 (unwrap_or (load_code width sign) 0) rd rs1 off (omega arith) (load_fits width sign) h.0 h.1 h.2 in
    (r.0, (r.1.0, code_there (load_code width sign) h.3 ∙ sym (ap Some r.1.1), r.1.2, r.1.3, r.1.4))
word_is_row (Store width rs1 rs2 off) h =
    let r = s_row 0x23 (unwrap_or (store_code width) 0) rs1 rs2 off (omega arith) (store_fits width) h.0 h.1 h.2 in
    (r.0, (r.1.0, code_there (store_code width) h.3 ∙ sym (ap Some r.1.1), r.1.2, r.1.3, r.1.4))
word_is_row (AluImm op rd rs1 imm) h = imm_row op rd rs1 imm h
word_is_row (Alu op rd rs1 rs2) h = let c = codes_fit op in r_row (alu_codes op).0 (alu_codes op).1 (alu_codes op).2 rd rs1 rs2 c.0 c.1 c.2 h.0 h.1 h.2
word_is_row (Amo op wide aq rl rd rs1 rs2) h =
    let r = r_row 0x2F (wide_code wide) (atomic_code (amo_code op) aq rl) rd rs1 rs2 (omega arith) (wide_fits wide) (atomic_fits (amo_code op) aq rl (amo_fits op)) h.0 h.1 h.2 in
    (r.0, (atomic_row (amo_code op) rd rs1 rs2 wide aq rl (amo_fits op) h.0 h.1 h.2, r.1.1, r.1.2, r.1.3))
word_is_row (Lr wide aq rl rd rs1) h =
    let f5 : 0b00010 < 2 ^ 5 = omega arith in
    let zero : 0 < 2 ^ 5 = omega arith in
    let r = r_row 0x2F (wide_code wide) (atomic_code 0b00010 aq rl) rd rs1 0 (omega arith) (wide_fits wide) (atomic_fits 0b00010 aq rl f5) h.0 h.1 zero in
    (r.0, (atomic_row 0b00010 rd rs1 0 wide aq rl f5 h.0 h.1 zero, r.1.1, r.1.2, sym r.1.3))
word_is_row (Sc wide aq rl rd rs1 rs2) h =
    let f5 : 0b00011 < 2 ^ 5 = omega arith in
    let r = r_row 0x2F (wide_code wide) (atomic_code 0b00011 aq rl) rd rs1 rs2 (omega arith) (wide_fits wide) (atomic_fits 0b00011 aq rl f5) h.0 h.1 h.2 in
    (r.0, (atomic_row 0b00011 rd rs1 rs2 wide aq rl f5 h.0 h.1 h.2, r.1.1, r.1.2, r.1.3))
word_is_row (Fence raw) h = (h.0, (h.1, h.2, refl))
word_is_row (FenceI raw) h = (h.0, (h.1, h.2, refl))
word_is_row Ecall h = (omega arith, refl)
word_is_row Ebreak h = (omega arith, refl)

-- funct7 of an atomic instruction, from its bits
atomic_whole : (word f5 : ℕ) (aq rl : Bool) → funct5 word ≡ f5 → aq ≡ aq_in word → rl ≡ rl_in word → funct7 word ≡ atomic_code f5 aq rl
atomic_whole word f5 true true e a r = grind (arith, nat_tests)
atomic_whole word f5 true false e a r = grind (arith, nat_tests)
atomic_whole word f5 false true e a r = grind (arith, nat_tests)
atomic_whole word f5 false false e a r = grind (arith, nat_tests)

some_is : (o : Option ℕ) (code : ℕ) → o ≡ Some code → code ≡ unwrap_or o 0
some_is o code e = rw e refl

-- a word of a format, by its fields
r_is : (word op f3 f7 rd rs1 rs2 : ℕ) → word < 2 ^ 32 → opcode word ≡ op → funct3 word ≡ f3 → funct7 word ≡ f7 → rd ≡ rd_in word → rs1 ≡ rs1_in word → rs2 ≡ rs2_in word → word ≡ word_r op f3 f7 rd rs1 rs2
r_is word op f3 f7 rd rs1 rs2 w a b c d e f = rw (← a, ← b, ← c, d, e, f) (r_whole word w)

i_is : (word op f3 rd rs1 n : ℕ) → word < 2 ^ 32 → opcode word ≡ op → funct3 word ≡ f3 → rd ≡ rd_in word → rs1 ≡ rs1_in word → bits 31 20 word ≡ n → word ≡ word_i op f3 rd rs1 n
i_is word op f3 rd rs1 n w a b d e f = rw (← a, ← b, d, e, ← f) (i_whole word w)

imm_is : (word : ℕ) (imm : ℤ) → imm ≡ imm_i word → bits 31 20 word ≡ low_bits 12 imm
imm_is word imm e = rw e (sym (low_12 (bits 31 20 word) (omega arith)))

imm_word_is : (word rd rs1 : ℕ) (imm : ℤ) (codes : Option ImmCodes) → word < 2 ^ 32 → HasImm word codes imm → rd ≡ rd_in word → rs1 ≡ rs1_in word → word ≡ word_imm codes rd rs1 imm
imm_word_is word rd rs1 imm (Some (Number op f3)) w h d s = i_is word op f3 rd rs1 (low_bits 12 imm) w h.0 h.1 d s (imm_is word imm h.2)
imm_word_is word rd rs1 imm (Some (Shift64 op f3 f6)) w h d s =
    let a : unsigned_abs imm ≡ amount_64 word = ap unsigned_abs h.3 in
    let f : funct6 word ≡ f6 = h.2 in
    let n : bits 31 20 word ≡ f6 * 2 ^ 6 + unsigned_abs imm = rw (a, ← f) (omega arith) in
    i_is word op f3 rd rs1 (f6 * 2 ^ 6 + unsigned_abs imm) w h.0 h.1 d s n
imm_word_is word rd rs1 imm (Some (Shift32 op f3 f7)) w h d s =
    let a : unsigned_abs imm ≡ amount_32 word = ap unsigned_abs h.3 in
    let f : funct7 word ≡ f7 = h.2 in
    let n : bits 31 20 word ≡ f7 * 2 ^ 5 + unsigned_abs imm = rw (a, ← f) (omega arith) in
    i_is word op f3 rd rs1 (f7 * 2 ^ 5 + unsigned_abs imm) w h.0 h.1 d s n
imm_word_is word rd rs1 imm None w h d s = absurd h

atomic_is : (word f5 rd rs1 rs2 : ℕ) (wide aq rl : Bool) → word < 2 ^ 32 → IsAtomic word f5 wide aq rl → rd ≡ rd_in word → rs1 ≡ rs1_in word → rs2 ≡ rs2_in word
    → word ≡ word_r 0x2F (wide_code wide) (atomic_code f5 aq rl) rd rs1 rs2
atomic_is word f5 rd rs1 rs2 wide aq rl w h d s t =
    r_is word 0x2F (wide_code wide) (atomic_code f5 aq rl) rd rs1 rs2 w h.0 h.1 (atomic_whole word f5 aq rl h.2 h.3 h.4) d s t

s_is : (word op f3 rs1 rs2 : ℕ) (off : ℤ) → word < 2 ^ 32 → opcode word ≡ op → funct3 word ≡ f3 → rs1 ≡ rs1_in word → rs2 ≡ rs2_in word → off ≡ imm_s word → word ≡ word_s op f3 rs1 rs2 (low_bits 12 off)
s_is word op f3 rs1 rs2 off w a b d e f =
    let n : low_bits 12 off ≡ bits 31 25 word * 2 ^ 5 + bits 11 7 word = rw f (low_12 (bits 31 25 word * 2 ^ 5 + bits 11 7 word) (omega arith)) in
    rw (← a, ← b, d, e) (s_whole word (low_bits 12 off) w n)

b_is : (word op f3 rs1 rs2 : ℕ) (off : ℤ) → word < 2 ^ 32 → opcode word ≡ op → funct3 word ≡ f3 → rs1 ≡ rs1_in word → rs2 ≡ rs2_in word → off ≡ imm_b word → word ≡ word_b op f3 rs1 rs2 (low_bits 13 off)
b_is word op f3 rs1 rs2 off w a b d e f =
    let n : low_bits 13 off ≡ bits 31 31 word * 2 ^ 12 + bits 7 7 word * 2 ^ 11 + bits 30 25 word * 2 ^ 5 + bits 11 8 word * 2 ^ 1
    = rw f (low_13 (bits 31 31 word * 2 ^ 12 + bits 7 7 word * 2 ^ 11 + bits 30 25 word * 2 ^ 5 + bits 11 8 word * 2 ^ 1) (omega arith)) in
    rw (← a, ← b, d, e) (b_whole word (low_bits 13 off) w n)

u_is : (word op rd : ℕ) (imm : ℤ) → word < 2 ^ 32 → opcode word ≡ op → rd ≡ rd_in word → imm ≡ imm_u word → word ≡ word_u op rd (low_bits 32 imm)
u_is word op rd imm w a d f =
    let n : low_bits 32 imm ≡ bits 31 12 word * 2 ^ 12 = rw f (low_32 (bits 31 12 word * 2 ^ 12) (omega arith)) in
    rw (← a, d) (u_whole word (low_bits 32 imm) w n)

j_is : (word op rd : ℕ) (off : ℤ) → word < 2 ^ 32 → opcode word ≡ op → rd ≡ rd_in word → off ≡ imm_j word → word ≡ word_j op rd (low_bits 21 off)
j_is word op rd off w a d f =
    let n : low_bits 21 off ≡ bits 31 31 word * 2 ^ 20 + bits 19 12 word * 2 ^ 12 + bits 20 20 word * 2 ^ 11 + bits 30 21 word * 2 ^ 1
    = rw f (low_21 (bits 31 31 word * 2 ^ 20 + bits 19 12 word * 2 ^ 12 + bits 20 20 word * 2 ^ 11 + bits 30 21 word * 2 ^ 1) (omega arith)) in
    rw (← a, d) (j_whole word (low_bits 21 off) w n)

-- the word of a row is that of its instruction
pub row_is_word : (word : ℕ) (inst : Inst) → word < 2 ^ 32 → IsRow word inst → word ≡ word_of inst
row_is_word word (Lui rd imm) w h = u_is word 0x37 rd imm w h.0 h.1 h.2
row_is_word word (Auipc rd imm) w h = u_is word 0x17 rd imm w h.0 h.1 h.2
row_is_word word (Jal rd off) w h = j_is word 0x6F rd off w h.0 h.1 h.2
row_is_word word (Jalr rd rs1 off) w h = i_is word 0x67 0 rd rs1 (low_bits 12 off) w h.0 h.1 h.2 h.3 (imm_is word off h.4)
row_is_word word (Branch cond rs1 rs2 off) w h = b_is word 0x63 (branch_code cond) rs1 rs2 off w h.0 h.1 h.2 h.3 h.4
row_is_word word (Load width sign rd rs1 off) w h = i_is word 0x03 (unwrap_or (load_code width sign) 0) rd rs1 (low_bits 12 off) w h.0 (some_is _ _ h.1) h.2 h.3 (imm_is word off h.4)
row_is_word word (Store width rs1 rs2 off) w h = s_is word 0x23 (unwrap_or (store_code width) 0) rs1 rs2 off w h.0 (some_is _ _ h.1) h.2 h.3 h.4
row_is_word word (AluImm op rd rs1 imm) w h = imm_word_is word rd rs1 imm (imm_codes op) w h.0 h.1 h.2
row_is_word word (Alu op rd rs1 rs2) w h = r_is word (alu_codes op).0 (alu_codes op).1 (alu_codes op).2 rd rs1 rs2 w h.0.0 h.0.1 h.0.2 h.1 h.2 h.3
row_is_word word (Amo op wide aq rl rd rs1 rs2) w h = atomic_is word (amo_code op) rd rs1 rs2 wide aq rl w h.0 h.1 h.2 h.3
row_is_word word (Lr wide aq rl rd rs1) w h = atomic_is word 0b00010 rd rs1 0 wide aq rl w h.0 h.1 h.2 (sym h.3)
row_is_word word (Sc wide aq rl rd rs1 rs2) w h = atomic_is word 0b00011 rd rs1 rs2 wide aq rl w h.0 h.1 h.2 h.3
row_is_word word (Fence raw) w h = sym h.2
row_is_word word (FenceI raw) w h = sym h.2
row_is_word word Ecall w h = h
row_is_word word Ebreak w h = h
