-- Instructions that some word is, and that word.
use Rattle.std.specs.Prelude.{◌≡◌, ◌≢◌, ◌<◌, ◌≤ℤ◌, ◌+◌, ◌-◌, ◌*◌, ◌/◌, ◌%◌, ◌^◌, ℕ, ℤ, pos, negsuc, Bool, Option, Some, None, unsigned_abs, unwrap_or}
use Rattle.rv_alu.specs.Arithmetic.{one_if}
use Rattle.rv_inst.specs.declared.inst.Inst.{Inst}
use Rattle.rv_inst.specs.declared.inst.Inst.TheVariants.{Lui, Auipc, Jal, Jalr, Branch, Load, Store, AluImm, Alu, Amo, Lr, Sc, Fence, FenceI, Ecall, Ebreak}
use Rattle.rv_inst.specs.Fields.{opcode, funct3}
use Rattle.rv_inst.specs.Rows.{ImmCodes, Number, Shift64, Shift32, branch_code, load_code, store_code, alu_codes, imm_codes, amo_code, wide_code}

-- the number of a register: 0 to 31
abbrev pub IsRegister : ℕ → Type 0
IsRegister r = r < 2 ^ 5

-- a two's complement number of so many bits
abbrev pub IsNumber : ℕ → ℤ → Type 0
IsNumber bits z = (negsuc (2 ^ (bits - 1) - 1) ≤ℤ z) × (z ≤ℤ pos (2 ^ (bits - 1) - 1))

-- a multiple of a number
abbrev pub IsMultiple : ℕ → ℤ → Type 0
IsMultiple n z = unsigned_abs z % n ≡ 0

-- an amount of a shift of so many bits
abbrev pub IsAmount : ℕ → ℤ → Type 0
IsAmount bits z = (pos 0 ≤ℤ z) × (z ≤ℤ pos (bits - 1))

-- an immediate that these codes have room for
abbrev pub IsImm : Option ImmCodes → ℤ → Type 0
IsImm (Some (Number op f3)) imm = IsNumber 12 imm
IsImm (Some (Shift64 op f3 f6)) imm = IsAmount 64 imm
IsImm (Some (Shift32 op f3 f7)) imm = IsAmount 32 imm
IsImm None imm = ⊥

-- three registers, as format R has them
abbrev pub FitsR : ℕ → ℕ → ℕ → Type 0
FitsR rd rs1 rs2 = IsRegister rd × IsRegister rs1 × IsRegister rs2

-- two registers and a number, as format I has them
abbrev pub FitsI : ℕ → ℕ → ℤ → Type 0
FitsI rd rs1 imm = IsRegister rd × IsRegister rs1 × IsNumber 12 imm

-- two registers and an amount of a shift of so many bits
abbrev pub FitsShift : ℕ → ℕ → ℕ → ℤ → Type 0
FitsShift bits rd rs1 imm = IsRegister rd × IsRegister rs1 × IsAmount bits imm

-- two registers and a number, as format S has them
abbrev pub FitsS : ℕ → ℕ → ℤ → Type 0
FitsS rs1 rs2 imm = IsRegister rs1 × IsRegister rs2 × IsNumber 12 imm

-- two registers and an offset, as format B has them
abbrev pub FitsB : ℕ → ℕ → ℤ → Type 0
FitsB rs1 rs2 off = IsRegister rs1 × IsRegister rs2 × IsNumber 13 off × IsMultiple 2 off

-- a register and a number, as format U has them
abbrev pub FitsU : ℕ → ℤ → Type 0
FitsU rd imm = IsRegister rd × IsNumber 32 imm × IsMultiple (2 ^ 12) imm

-- a register and an offset, as format J has them
abbrev pub FitsJ : ℕ → ℤ → Type 0
FitsJ rd off = IsRegister rd × IsNumber 21 off × IsMultiple 2 off

-- The instruction has a row, and its fields are in the row's ranges: some word is this instruction.
abbrev pub IsSpelled : Inst → Type 0
IsSpelled (Lui rd imm) = FitsU rd imm
IsSpelled (Auipc rd imm) = FitsU rd imm
IsSpelled (Jal rd off) = FitsJ rd off
IsSpelled (Jalr rd rs1 off) = FitsI rd rs1 off
IsSpelled (Branch cond rs1 rs2 off) = FitsB rs1 rs2 off
IsSpelled (Load width signed rd rs1 off) = IsRegister rd × IsRegister rs1 × IsNumber 12 off × (load_code width signed ≢ None)
IsSpelled (Store width rs1 rs2 off) = IsRegister rs1 × IsRegister rs2 × IsNumber 12 off × (store_code width ≢ None)
IsSpelled (AluImm op rd rs1 imm) = IsRegister rd × IsRegister rs1 × IsImm (imm_codes op) imm
IsSpelled (Alu op rd rs1 rs2) = FitsR rd rs1 rs2
IsSpelled (Amo op wide aq rl rd rs1 rs2) = FitsR rd rs1 rs2
IsSpelled (Lr wide aq rl rd rs1) = IsRegister rd × IsRegister rs1
IsSpelled (Sc wide aq rl rd rs1 rs2) = FitsR rd rs1 rs2
IsSpelled (Fence raw) = (raw < 2 ^ 32) × (opcode raw ≡ 0x0F) × (funct3 raw ≡ 0)
IsSpelled (FenceI raw) = (raw < 2 ^ 32) × (opcode raw ≡ 0x0F) × (funct3 raw ≡ 1)
IsSpelled Ecall = Unit {0}
IsSpelled Ebreak = Unit {0}

-- the low bits of a two's complement number
abbrev pub low_bits : ℕ → ℤ → ℕ
low_bits bits (pos n) = n % 2 ^ bits
low_bits bits (negsuc n) = 2 ^ bits - 1 - n % 2 ^ bits

-- The words of the formats, where a number stands by its low bits, are those of the RISC-V
-- unprivileged ISA, "Base Instruction Formats" and "Immediate Encoding Variants".

-- the word of format R: three registers
abbrev pub word_r : ℕ → ℕ → ℕ → ℕ → ℕ → ℕ → ℕ
word_r op f3 f7 rd rs1 rs2 = f7 * 2 ^ 25 + rs2 * 2 ^ 20 + rs1 * 2 ^ 15 + f3 * 2 ^ 12 + rd * 2 ^ 7 + op

-- the word of format I: two registers and a number of 12 bits
abbrev pub word_i : ℕ → ℕ → ℕ → ℕ → ℕ → ℕ
word_i op f3 rd rs1 n = n * 2 ^ 20 + rs1 * 2 ^ 15 + f3 * 2 ^ 12 + rd * 2 ^ 7 + op

-- the word of format S: two registers that are read, and a number of 12 bits
abbrev pub word_s : ℕ → ℕ → ℕ → ℕ → ℕ → ℕ
word_s op f3 rs1 rs2 n = n / 2 ^ 5 * 2 ^ 25 + rs2 * 2 ^ 20 + rs1 * 2 ^ 15 + f3 * 2 ^ 12 + n % 2 ^ 5 * 2 ^ 7 + op

-- the word of format B: two registers that are read, and an even number of 13 bits
abbrev pub word_b : ℕ → ℕ → ℕ → ℕ → ℕ → ℕ
word_b op f3 rs1 rs2 n = n / 2 ^ 12 * 2 ^ 31 + n / 2 ^ 5 % 2 ^ 6 * 2 ^ 25 + rs2 * 2 ^ 20 + rs1 * 2 ^ 15 + f3 * 2 ^ 12 + n / 2 % 2 ^ 4 * 2 ^ 8 + n / 2 ^ 11 % 2 * 2 ^ 7 + op

-- the word of format U: a register, and the upper 20 of 32 bits
abbrev pub word_u : ℕ → ℕ → ℕ → ℕ
word_u op rd n = n / 2 ^ 12 * 2 ^ 12 + rd * 2 ^ 7 + op

-- the word of format J: a register, and an even number of 21 bits
abbrev pub word_j : ℕ → ℕ → ℕ → ℕ
word_j op rd n = n / 2 ^ 20 * 2 ^ 31 + n / 2 % 2 ^ 10 * 2 ^ 21 + n / 2 ^ 11 % 2 * 2 ^ 20 + n / 2 ^ 12 % 2 ^ 8 * 2 ^ 12 + rd * 2 ^ 7 + op

-- the word of a shift of 64 bits: its amount stands below the six bits of funct6
abbrev pub shift_64 : ℕ → ℕ → ℕ → ℕ → ℕ → ℤ → ℕ
shift_64 op f3 f6 rd rs1 imm = word_i op f3 rd rs1 (f6 * 2 ^ 6 + unsigned_abs imm)

-- the word of a shift of 32 bits: its amount stands below the seven bits of funct7
abbrev pub shift_32 : ℕ → ℕ → ℕ → ℕ → ℕ → ℤ → ℕ
shift_32 op f3 f7 rd rs1 imm = word_i op f3 rd rs1 (f7 * 2 ^ 5 + unsigned_abs imm)

-- the word of an operation on a register and an immediate, by its codes
abbrev pub word_imm : Option ImmCodes → ℕ → ℕ → ℤ → ℕ
word_imm (Some (Number op f3)) rd rs1 imm = word_i op f3 rd rs1 (low_bits 12 imm)
word_imm (Some (Shift64 op f3 f6)) rd rs1 imm = shift_64 op f3 f6 rd rs1 imm
word_imm (Some (Shift32 op f3 f7)) rd rs1 imm = shift_32 op f3 f7 rd rs1 imm
word_imm None rd rs1 imm = 0

-- funct7 of an atomic instruction
abbrev pub atomic_code : ℕ → Bool → Bool → ℕ
atomic_code f5 aq rl = f5 * 2 ^ 2 + one_if aq * 2 ^ 1 + one_if rl

-- the word of an instruction that has one
abbrev pub word_of : Inst → ℕ
word_of (Lui rd imm) = word_u 0x37 rd (low_bits 32 imm)
word_of (Auipc rd imm) = word_u 0x17 rd (low_bits 32 imm)
word_of (Jal rd off) = word_j 0x6F rd (low_bits 21 off)
word_of (Jalr rd rs1 off) = word_i 0x67 0 rd rs1 (low_bits 12 off)
word_of (Branch cond rs1 rs2 off) = word_b 0x63 (branch_code cond) rs1 rs2 (low_bits 13 off)
word_of (Load width signed rd rs1 off) = word_i 0x03 (unwrap_or (load_code width signed) 0) rd rs1 (low_bits 12 off)
word_of (Store width rs1 rs2 off) = word_s 0x23 (unwrap_or (store_code width) 0) rs1 rs2 (low_bits 12 off)
word_of (AluImm op rd rs1 imm) = word_imm (imm_codes op) rd rs1 imm
word_of (Alu op rd rs1 rs2) = word_r (alu_codes op).0 (alu_codes op).1 (alu_codes op).2 rd rs1 rs2
word_of (Amo op wide aq rl rd rs1 rs2) = word_r 0x2F (wide_code wide) (atomic_code (amo_code op) aq rl) rd rs1 rs2
word_of (Lr wide aq rl rd rs1) = word_r 0x2F (wide_code wide) (atomic_code 0b00010 aq rl) rd rs1 0
word_of (Sc wide aq rl rd rs1 rs2) = word_r 0x2F (wide_code wide) (atomic_code 0b00011 aq rl) rd rs1 rs2
word_of (Fence raw) = raw
word_of (FenceI raw) = raw
word_of Ecall = 0x00000073
word_of Ebreak = 0x00100073
