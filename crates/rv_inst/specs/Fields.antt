-- The fields of a 32-bit instruction (RISC-V unprivileged ISA, "Base Instruction Formats" and
-- "Immediate Encoding Variants").
use Rattle.std.specs.Prelude.{ℕ, ◌+◌, ◌-◌, ◌*◌, ◌/◌, ◌%◌, ◌^◌, ◌==◌, ℤ, Bool}
use Rattle.rv_alu.specs.Arithmetic.{signed}

-- the bits from the highest down to the lowest of a word
abbrev pub bits : ℕ → ℕ → ℕ → ℕ
bits high low word = word / 2 ^ low % 2 ^ (high + 1 - low)

-- the field that says the kind of instruction
abbrev pub opcode : ℕ → ℕ
opcode word = bits 6 0 word

-- the register that is written
abbrev pub rd_in : ℕ → ℕ
rd_in word = bits 11 7 word

-- the field that tells instructions of one opcode apart
abbrev pub funct3 : ℕ → ℕ
funct3 word = bits 14 12 word

-- the first register that is read
abbrev pub rs1_in : ℕ → ℕ
rs1_in word = bits 19 15 word

-- the second register that is read
abbrev pub rs2_in : ℕ → ℕ
rs2_in word = bits 24 20 word

-- the field that tells instructions of one opcode and funct3 apart
abbrev pub funct7 : ℕ → ℕ
funct7 word = bits 31 25 word

-- the upper five bits of funct7, which tell atomic instructions apart
abbrev pub funct5 : ℕ → ℕ
funct5 word = bits 31 27 word

-- whether an atomic instruction is ordered before what follows
abbrev pub aq_in : ℕ → Bool
aq_in word = bits 26 26 word == 1

-- whether an atomic instruction is ordered after what went before
abbrev pub rl_in : ℕ → Bool
rl_in word = bits 25 25 word == 1

-- the immediate of format I, sign-extended
abbrev pub imm_i : ℕ → ℤ
imm_i word = signed 12 (bits 31 20 word)

-- the immediate of format S, sign-extended
abbrev pub imm_s : ℕ → ℤ
imm_s word = signed 12 (bits 31 25 word * 2 ^ 5 + bits 11 7 word)

-- the offset of format B, an even number, sign-extended
abbrev pub imm_b : ℕ → ℤ
imm_b word = signed 13 (bits 31 31 word * 2 ^ 12 + bits 7 7 word * 2 ^ 11 + bits 30 25 word * 2 ^ 5 + bits 11 8 word * 2 ^ 1)

-- the immediate of format U, a multiple of 4,096, sign-extended
abbrev pub imm_u : ℕ → ℤ
imm_u word = signed 32 (bits 31 12 word * 2 ^ 12)

-- the offset of format J, an even number, sign-extended
abbrev pub imm_j : ℕ → ℤ
imm_j word = signed 21 (bits 31 31 word * 2 ^ 20 + bits 19 12 word * 2 ^ 12 + bits 20 20 word * 2 ^ 11 + bits 30 21 word * 2 ^ 1)

-- the amount of a shift of 64 bits
abbrev pub amount_64 : ℕ → ℕ
amount_64 word = bits 25 20 word

-- what stands above the amount of a shift of 64 bits
abbrev pub funct6 : ℕ → ℕ
funct6 word = bits 31 26 word

-- the amount of a shift of 32 bits
abbrev pub amount_32 : ℕ → ℕ
amount_32 word = bits 24 20 word
