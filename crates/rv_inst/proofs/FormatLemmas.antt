-- Words of the formats, and their fields.
use Rattle.std.proofs.Common.{◌≡◌, ◌<◌, ◌≤◌, ℕ, ℤ, pos, negsuc, ◌+◌, ◌*◌, ◌-◌, ◌/◌, ◌%◌, ◌^◌, arith}
use Rattle.std.proofs.lemmas.Bool.Decides.{nat_tests}
use Rattle.std.proofs.lemmas.Int.{ints}
use Rattle.rv_alu.specs.Arithmetic.{signed}
use Rattle.rv_inst.specs.Fields.{bits, opcode, rd_in, funct3, rs1_in, rs2_in, funct7, funct6, amount_64, amount_32}
use Rattle.rv_inst.specs.Spelling.{IsNumber, low_bits, word_r, word_i, word_s, word_b, word_u, word_j}

-- the fields of the words of each format, in order: the word fits, its codes, its registers, its number
pub r_fields : (op f3 f7 rd rs1 rs2 : ℕ) → op < 2 ^ 7 → f3 < 2 ^ 3 → f7 < 2 ^ 7 → rd < 2 ^ 5 → rs1 < 2 ^ 5 → rs2 < 2 ^ 5
    → let word : ℕ = word_r op f3 f7 rd rs1 rs2 in
    (word < 2 ^ 32) × (opcode word ≡ op) × (funct3 word ≡ f3) × (funct7 word ≡ f7) × (rd ≡ rd_in word) × (rs1 ≡ rs1_in word) × (rs2 ≡ rs2_in word)
r_fields op f3 f7 rd rs1 rs2 h0 h1 h2 h3 h4 h5 = (omega arith, omega arith, omega arith, omega arith, omega arith, omega arith, omega arith)

pub i_fields : (op f3 rd rs1 n : ℕ) → op < 2 ^ 7 → f3 < 2 ^ 3 → rd < 2 ^ 5 → rs1 < 2 ^ 5 → n < 2 ^ 12
    → let word : ℕ = word_i op f3 rd rs1 n in
    (word < 2 ^ 32) × (opcode word ≡ op) × (funct3 word ≡ f3) × (rd ≡ rd_in word) × (rs1 ≡ rs1_in word) × (bits 31 20 word ≡ n)
i_fields op f3 rd rs1 n h0 h1 h2 h3 h4 = (omega arith, omega arith, omega arith, omega arith, omega arith, omega arith)

-- an amount of a shift, and the code above it
pub shift_fields_64 : (word n : ℕ) → bits 31 20 word ≡ n → (funct6 word ≡ n / 2 ^ 6) × (amount_64 word ≡ n % 2 ^ 6)
shift_fields_64 word n h = (omega arith, omega arith)

pub shift_fields_32 : (word n : ℕ) → bits 31 20 word ≡ n → (funct7 word ≡ n / 2 ^ 5) × (amount_32 word ≡ n % 2 ^ 5)
shift_fields_32 word n h = (omega arith, omega arith)

pub s_fields : (op f3 rs1 rs2 n : ℕ) → op < 2 ^ 7 → f3 < 2 ^ 3 → rs1 < 2 ^ 5 → rs2 < 2 ^ 5 → n < 2 ^ 12
    → let word : ℕ = word_s op f3 rs1 rs2 n in
    (word < 2 ^ 32) × (opcode word ≡ op) × (funct3 word ≡ f3) × (rs1 ≡ rs1_in word) × (rs2 ≡ rs2_in word) × (bits 31 25 word * 2 ^ 5 + bits 11 7 word ≡ n)
s_fields op f3 rs1 rs2 n h0 h1 h2 h3 h4 = (omega arith, omega arith, omega arith, omega arith, omega arith, omega arith)

pub b_fields : (op f3 rs1 rs2 n : ℕ) → op < 2 ^ 7 → f3 < 2 ^ 3 → rs1 < 2 ^ 5 → rs2 < 2 ^ 5 → n < 2 ^ 13 → n % 2 ≡ 0
    → let word : ℕ = word_b op f3 rs1 rs2 n in
    (word < 2 ^ 32) × (opcode word ≡ op) × (funct3 word ≡ f3) × (rs1 ≡ rs1_in word) × (rs2 ≡ rs2_in word) × (bits 31 31 word * 2 ^ 12 + bits 7 7 word * 2 ^ 11 + bits 30 25 word * 2 ^ 5 + bits 11 8 word * 2 ^ 1 ≡ n)
b_fields op f3 rs1 rs2 n h0 h1 h2 h3 h4 h5 = (omega arith, omega arith, omega arith, omega arith, omega arith, omega arith)

pub u_fields : (op rd n : ℕ) → op < 2 ^ 7 → rd < 2 ^ 5 → n < 2 ^ 32 → n % 2 ^ 12 ≡ 0
    → let word : ℕ = word_u op rd n in
    (word < 2 ^ 32) × (opcode word ≡ op) × (rd ≡ rd_in word) × (bits 31 12 word * 2 ^ 12 ≡ n)
u_fields op rd n h0 h1 h2 h3 = (omega arith, omega arith, omega arith, omega arith)

pub j_fields : (op rd n : ℕ) → op < 2 ^ 7 → rd < 2 ^ 5 → n < 2 ^ 21 → n % 2 ≡ 0
    → let word : ℕ = word_j op rd n in
    (word < 2 ^ 32) × (opcode word ≡ op) × (rd ≡ rd_in word) × (bits 31 31 word * 2 ^ 20 + bits 19 12 word * 2 ^ 12 + bits 20 20 word * 2 ^ 11 + bits 30 21 word * 2 ^ 1 ≡ n)
j_fields op rd n h0 h1 h2 h3 = (omega arith, omega arith, omega arith, omega arith)

-- a word from its fields
pub r_whole : (word : ℕ) → word < 2 ^ 32 → word ≡ word_r (opcode word) (funct3 word) (funct7 word) (rd_in word) (rs1_in word) (rs2_in word)
r_whole word h = omega arith

pub i_whole : (word : ℕ) → word < 2 ^ 32 → word ≡ word_i (opcode word) (funct3 word) (rd_in word) (rs1_in word) (bits 31 20 word)
i_whole word h = omega arith

pub s_whole : (word n : ℕ) → word < 2 ^ 32 → n ≡ bits 31 25 word * 2 ^ 5 + bits 11 7 word → word ≡ word_s (opcode word) (funct3 word) (rs1_in word) (rs2_in word) n
s_whole word n h e = omega arith

pub b_whole : (word n : ℕ) → word < 2 ^ 32 → n ≡ bits 31 31 word * 2 ^ 12 + bits 7 7 word * 2 ^ 11 + bits 30 25 word * 2 ^ 5 + bits 11 8 word * 2 ^ 1 → word ≡ word_b (opcode word) (funct3 word) (rs1_in word) (rs2_in word) n
b_whole word n h e = omega arith

pub u_whole : (word n : ℕ) → word < 2 ^ 32 → n ≡ bits 31 12 word * 2 ^ 12 → word ≡ word_u (opcode word) (rd_in word) n
u_whole word n h e = omega arith

pub j_whole : (word n : ℕ) → word < 2 ^ 32 → n ≡ bits 31 31 word * 2 ^ 20 + bits 19 12 word * 2 ^ 12 + bits 20 20 word * 2 ^ 11 + bits 30 21 word * 2 ^ 1 → word ≡ word_j (opcode word) (rd_in word) n
j_whole word n h e = omega arith

-- the low 12 bits of a number, and the number of those
pub low_12 : (n : ℕ) → n < 2 ^ 12 → low_bits 12 (signed 12 n) ≡ n
low_12 n h = grind (arith, ints, nat_tests)

pub fits_12 : (z : ℤ) → IsNumber 12 z → low_bits 12 z < 2 ^ 12
fits_12 (pos n) h = omega (arith, ints)
fits_12 (negsuc n) h = omega (arith, ints)

pub signed_12 : (z : ℤ) → IsNumber 12 z → signed 12 (low_bits 12 z) ≡ z
signed_12 (pos n) h = let low : n ≤ 2 ^ (12 - 1) - 1 = omega (arith, ints) in grind (arith, ints, nat_tests)
signed_12 (negsuc n) h = let low : n ≤ 2 ^ (12 - 1) - 1 = omega (arith, ints) in grind (arith, ints, nat_tests)

-- the low 13 bits of a number, and the number of those
pub low_13 : (n : ℕ) → n < 2 ^ 13 → low_bits 13 (signed 13 n) ≡ n
low_13 n h = grind (arith, ints, nat_tests)

pub fits_13 : (z : ℤ) → IsNumber 13 z → low_bits 13 z < 2 ^ 13
fits_13 (pos n) h = omega (arith, ints)
fits_13 (negsuc n) h = omega (arith, ints)

pub signed_13 : (z : ℤ) → IsNumber 13 z → signed 13 (low_bits 13 z) ≡ z
signed_13 (pos n) h = let low : n ≤ 2 ^ (13 - 1) - 1 = omega (arith, ints) in grind (arith, ints, nat_tests)
signed_13 (negsuc n) h = let low : n ≤ 2 ^ (13 - 1) - 1 = omega (arith, ints) in grind (arith, ints, nat_tests)

-- the low 21 bits of a number, and the number of those
pub low_21 : (n : ℕ) → n < 2 ^ 21 → low_bits 21 (signed 21 n) ≡ n
low_21 n h = grind (arith, ints, nat_tests)

pub fits_21 : (z : ℤ) → IsNumber 21 z → low_bits 21 z < 2 ^ 21
fits_21 (pos n) h = omega (arith, ints)
fits_21 (negsuc n) h = omega (arith, ints)

pub signed_21 : (z : ℤ) → IsNumber 21 z → signed 21 (low_bits 21 z) ≡ z
signed_21 (pos n) h = let low : n ≤ 2 ^ (21 - 1) - 1 = omega (arith, ints) in grind (arith, ints, nat_tests)
signed_21 (negsuc n) h = let low : n ≤ 2 ^ (21 - 1) - 1 = omega (arith, ints) in grind (arith, ints, nat_tests)

-- the low 32 bits of a number, and the number of those
pub low_32 : (n : ℕ) → n < 2 ^ 32 → low_bits 32 (signed 32 n) ≡ n
low_32 n h = grind (arith, ints, nat_tests)

pub fits_32 : (z : ℤ) → IsNumber 32 z → low_bits 32 z < 2 ^ 32
fits_32 (pos n) h = omega (arith, ints)
fits_32 (negsuc n) h = omega (arith, ints)

pub signed_32 : (z : ℤ) → IsNumber 32 z → signed 32 (low_bits 32 z) ≡ z
signed_32 (pos n) h = let low : n ≤ 2 ^ (32 - 1) - 1 = omega (arith, ints) in grind (arith, ints, nat_tests)
signed_32 (negsuc n) h = let low : n ≤ 2 ^ (32 - 1) - 1 = omega (arith, ints) in grind (arith, ints, nat_tests)
