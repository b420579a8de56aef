-- The rows of the instruction table: which word is which instruction (RISC-V unprivileged ISA,
-- "RV32/64G Instruction Set Listings": RV64I, M, A and Zifencei).
use Rattle.std.specs.Prelude.{◌≡◌, ◌⊎◌, ◌==◌, ℕ, ℤ, pos, Bool, true, false, Option, Some, None, if◌then◌else◌}
use Rattle.rv_alu.specs.declared.op.AluOp.{AluOp}
use Rattle.rv_alu.specs.declared.op.AluOp.TheVariants.{Add, Sub, Sll, Slt, Sltu, Xor, Srl, Sra, Or, And, Addw, Subw, Sllw, Srlw, Sraw, Mul, Mulh, Mulhsu, Mulhu, Div, Divu, Rem, Remu, Mulw, Divw, Divuw, Remw, Remuw}
use Rattle.rv_alu.specs.declared.op.AmoOp.{AmoOp}
use Rattle.rv_alu.specs.declared.op.AmoOp.TheVariants as amo
use Rattle.rv_alu.specs.declared.op.Cond.{Cond}
use Rattle.rv_alu.specs.declared.op.Cond.TheVariants.{Equal, NotEqual, Less, GreaterOrEqual, LessUnsigned, GreaterOrEqualUnsigned}
use Rattle.rv_inst.specs.declared.inst.Inst.{Inst}
use Rattle.rv_inst.specs.declared.inst.Inst.TheVariants.{Lui, Auipc, Jal, Jalr, Branch, Load, Store, AluImm, Alu, Amo, Lr, Sc, Fence, FenceI, Ecall, Ebreak}
use Rattle.rv_inst.specs.Fields.{opcode, rd_in, funct3, rs1_in, rs2_in, funct7, funct6, funct5, aq_in, rl_in, imm_i, imm_s, imm_b, imm_u, imm_j, amount_64, amount_32}

-- funct3 of a branch
abbrev pub branch_code : Cond → ℕ
branch_code Equal = 0
branch_code NotEqual = 1
branch_code Less = 4
branch_code GreaterOrEqual = 5
branch_code LessUnsigned = 6
branch_code GreaterOrEqualUnsigned = 7

-- how many bytes an access may have: 1, 2, 4 or 8
abbrev pub IsWidth : ℕ → Type 0
IsWidth width = (width ≡ 1) ⊎ ((width ≡ 2) ⊎ ((width ≡ 4) ⊎ (width ≡ 8)))

-- funct3 of a load of so many bytes, sign-extended or not, where there is one
abbrev pub load_code : ℕ → Bool → Option ℕ
load_code width true =
    if width == 1 then Some 0
    else if width == 2 then Some 1
    else if width == 4 then Some 2
    else if width == 8 then Some 3
    else None
load_code width false =
    if width == 1 then Some 4
    else if width == 2 then Some 5
    else if width == 4 then Some 6
    else None

-- funct3 of a store of so many bytes, where there is one
abbrev pub store_code : ℕ → Option ℕ
store_code width =
    if width == 1 then Some 0
    else if width == 2 then Some 1
    else if width == 4 then Some 2
    else if width == 8 then Some 3
    else None

-- opcode, funct3 and funct7 of an operation on two registers
abbrev pub alu_codes : AluOp → ℕ × ℕ × ℕ
alu_codes Add = (0x33, 0, 0x00)
alu_codes Sll = (0x33, 1, 0x00)
alu_codes Slt = (0x33, 2, 0x00)
alu_codes Sltu = (0x33, 3, 0x00)
alu_codes Xor = (0x33, 4, 0x00)
alu_codes Srl = (0x33, 5, 0x00)
alu_codes Or = (0x33, 6, 0x00)
alu_codes And = (0x33, 7, 0x00)
alu_codes Sub = (0x33, 0, 0x20)
alu_codes Sra = (0x33, 5, 0x20)
alu_codes Mul = (0x33, 0, 0x01)
alu_codes Mulh = (0x33, 1, 0x01)
alu_codes Mulhsu = (0x33, 2, 0x01)
alu_codes Mulhu = (0x33, 3, 0x01)
alu_codes Div = (0x33, 4, 0x01)
alu_codes Divu = (0x33, 5, 0x01)
alu_codes Rem = (0x33, 6, 0x01)
alu_codes Remu = (0x33, 7, 0x01)
alu_codes Addw = (0x3B, 0, 0x00)
alu_codes Sllw = (0x3B, 1, 0x00)
alu_codes Srlw = (0x3B, 5, 0x00)
alu_codes Subw = (0x3B, 0, 0x20)
alu_codes Sraw = (0x3B, 5, 0x20)
alu_codes Mulw = (0x3B, 0, 0x01)
alu_codes Divw = (0x3B, 4, 0x01)
alu_codes Divuw = (0x3B, 5, 0x01)
alu_codes Remw = (0x3B, 6, 0x01)
alu_codes Remuw = (0x3B, 7, 0x01)

-- the word has this opcode, funct3 and funct7
abbrev pub HasCodes : ℕ → ℕ × ℕ × ℕ → Type 0
HasCodes word codes = (opcode word ≡ codes.0) × (funct3 word ≡ codes.1) × (funct7 word ≡ codes.2)

-- how a register and an immediate are operated on: the immediate is a number, with opcode and
-- funct3; or the amount of a shift of 64 bits, with the six bits above it; or of 32 bits, with
-- funct7
pub data ImmCodes : Type 0 where
  Number : ℕ → ℕ → ImmCodes
  Shift64 : ℕ → ℕ → ℕ → ImmCodes
  Shift32 : ℕ → ℕ → ℕ → ImmCodes

-- the codes of an operation on a register and an immediate, where there is one
abbrev pub imm_codes : AluOp → Option ImmCodes
imm_codes Add = Some (Number 0x13 0)
imm_codes Slt = Some (Number 0x13 2)
imm_codes Sltu = Some (Number 0x13 3)
imm_codes Xor = Some (Number 0x13 4)
imm_codes Or = Some (Number 0x13 6)
imm_codes And = Some (Number 0x13 7)
imm_codes Sll = Some (Shift64 0x13 1 0b000000)
imm_codes Srl = Some (Shift64 0x13 5 0b000000)
imm_codes Sra = Some (Shift64 0x13 5 0b010000)
imm_codes Addw = Some (Number 0x1B 0)
imm_codes Sllw = Some (Shift32 0x1B 1 0x00)
imm_codes Srlw = Some (Shift32 0x1B 5 0x00)
imm_codes Sraw = Some (Shift32 0x1B 5 0x20)
imm_codes op = None

-- the word has these codes, and this immediate
abbrev pub HasImm : ℕ → Option ImmCodes → ℤ → Type 0
HasImm word (Some (Number op f3)) imm = (opcode word ≡ op) × (funct3 word ≡ f3) × (imm ≡ imm_i word)
HasImm word (Some (Shift64 op f3 f6)) imm = (opcode word ≡ op) × (funct3 word ≡ f3) × (funct6 word ≡ f6) × (imm ≡ pos (amount_64 word))
HasImm word (Some (Shift32 op f3 f7)) imm = (opcode word ≡ op) × (funct3 word ≡ f3) × (funct7 word ≡ f7) × (imm ≡ pos (amount_32 word))
HasImm word None imm = ⊥

-- funct5 of an atomic memory operation
abbrev pub amo_code : AmoOp → ℕ
amo_code amo.Swap = 0b00001
amo_code amo.Add = 0b00000
amo_code amo.Xor = 0b00100
amo_code amo.And = 0b01100
amo_code amo.Or = 0b01000
amo_code amo.Min = 0b10000
amo_code amo.Max = 0b10100
amo_code amo.Minu = 0b11000
amo_code amo.Maxu = 0b11100

-- funct3 of an atomic instruction, of 64 bits or of 32
abbrev pub wide_code : Bool → ℕ
wide_code wide = if wide then 3 else 2

-- the word is an atomic instruction of this funct5, width and order
abbrev pub IsAtomic : ℕ → ℕ → Bool → Bool → Bool → Type 0
IsAtomic word f5 wide aq rl = (opcode word ≡ 0x2F) × (funct3 word ≡ wide_code wide) × (funct5 word ≡ f5) × (aq ≡ aq_in word) × (rl ≡ rl_in word)

-- the word is this instruction
abbrev pub IsRow : ℕ → Inst → Type 0
IsRow word (Lui rd imm) = (opcode word ≡ 0x37) × (rd ≡ rd_in word) × (imm ≡ imm_u word)
IsRow word (Auipc rd imm) = (opcode word ≡ 0x17) × (rd ≡ rd_in word) × (imm ≡ imm_u word)
IsRow word (Jal rd off) = (opcode word ≡ 0x6F) × (rd ≡ rd_in word) × (off ≡ imm_j word)
IsRow word (Jalr rd rs1 off) = (opcode word ≡ 0x67) × (funct3 word ≡ 0) × (rd ≡ rd_in word) × (rs1 ≡ rs1_in word) × (off ≡ imm_i word)
IsRow word (Branch cond rs1 rs2 off) = (opcode word ≡ 0x63) × (funct3 word ≡ branch_code cond) × (rs1 ≡ rs1_in word) × (rs2 ≡ rs2_in word) × (off ≡ imm_b word)
IsRow word (Load width signed rd rs1 off) = (opcode word ≡ 0x03) × (load_code width signed ≡ Some (funct3 word)) × (rd ≡ rd_in word) × (rs1 ≡ rs1_in word) × (off ≡ imm_i word)
IsRow word (Store width rs1 rs2 off) = (opcode word ≡ 0x23) × (store_code width ≡ Some (funct3 word)) × (rs1 ≡ rs1_in word) × (rs2 ≡ rs2_in word) × (off ≡ imm_s word)
IsRow word (AluImm op rd rs1 imm) = HasImm word (imm_codes op) imm × (rd ≡ rd_in word) × (rs1 ≡ rs1_in word)
IsRow word (Alu op rd rs1 rs2) = HasCodes word (alu_codes op) × (rd ≡ rd_in word) × (rs1 ≡ rs1_in word) × (rs2 ≡ rs2_in word)
IsRow word (Amo op wide aq rl rd rs1 rs2) = IsAtomic word (amo_code op) wide aq rl × (rd ≡ rd_in word) × (rs1 ≡ rs1_in word) × (rs2 ≡ rs2_in word)
IsRow word (Lr wide aq rl rd rs1) = IsAtomic word 0b00010 wide aq rl × (rd ≡ rd_in word) × (rs1 ≡ rs1_in word) × (rs2_in word ≡ 0)
IsRow word (Sc wide aq rl rd rs1 rs2) = IsAtomic word 0b00011 wide aq rl × (rd ≡ rd_in word) × (rs1 ≡ rs1_in word) × (rs2 ≡ rs2_in word)
-- the other fields of a fence are not looked at
IsRow word (Fence raw) = (opcode word ≡ 0x0F) × (funct3 word ≡ 0) × (raw ≡ word)
IsRow word (FenceI raw) = (opcode word ≡ 0x0F) × (funct3 word ≡ 1) × (raw ≡ word)
-- whole words
IsRow word Ecall = word ≡ 0x00000073
IsRow word Ebreak = word ≡ 0x00100073
