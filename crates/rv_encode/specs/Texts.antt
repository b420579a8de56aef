-- The text of an instruction: its mnemonic, a space, and its operands joined by a comma and a space
-- (RISC-V unprivileged ISA, "RV32/64G Instruction Set Listings" and "RISC-V Assembly Programmer's
-- Handbook").
use Rattle.std.specs.Prelude.{ℕ, ℤ, ◌/◌, ◌^◌, ◌==◌, List, [], ◌∷◌, ◌++◌, Bool, true, false, codes, if◌then◌else◌}
use Rattle.std.specs.Fmt.{decimal, signed_decimal}
use Rattle.rv_alu.specs.declared.op.AluOp.{AluOp}
use Rattle.rv_alu.specs.declared.op.AluOp.TheVariants.{Add, Sub, Sll, Slt, Sltu, Xor, Srl, Sra, Or, And, Addw, Subw, Sllw, Srlw, Sraw, Mul, Mulh, Mulhsu, Mulhu, Div, Divu, Rem, Remu, Mulw, Divw, Divuw, Remw, Remuw}
use Rattle.rv_alu.specs.declared.op.AmoOp.{AmoOp}
use Rattle.rv_alu.specs.declared.op.AmoOp.TheVariants as amo
use Rattle.rv_alu.specs.declared.op.Cond.{Cond}
use Rattle.rv_alu.specs.declared.op.Cond.TheVariants.{Equal, NotEqual, Less, GreaterOrEqual, LessUnsigned, GreaterOrEqualUnsigned}
use Rattle.rv_inst.specs.declared.inst.Inst.{Inst}
use Rattle.rv_inst.specs.declared.inst.Inst.TheVariants.{Lui, Auipc, Jal, Jalr, Branch, Load, Store, AluImm, Alu, Amo, Lr, Sc, Fence, FenceI, Ecall, Ebreak}
use Rattle.rv_inst.specs.Spelling.{low_bits}

-- the mnemonic of a branch
abbrev pub branch_name : Cond → List ℕ
branch_name Equal = codes "beq"
branch_name NotEqual = codes "bne"
branch_name Less = codes "blt"
branch_name GreaterOrEqual = codes "bge"
branch_name LessUnsigned = codes "bltu"
branch_name GreaterOrEqualUnsigned = codes "bgeu"

-- the letter of a load or a store of so many bytes
abbrev pub width_letter : ℕ → List ℕ
width_letter width =
    if width == 1 then codes "b"
    else if width == 2 then codes "h"
    else if width == 4 then codes "w"
    else if width == 8 then codes "d"
    else []

-- the mnemonic of a load of so many bytes, sign-extended or not
abbrev pub load_name : ℕ → Bool → List ℕ
load_name width true = codes "l" ++ width_letter width
load_name width false = codes "l" ++ width_letter width ++ codes "u"

-- the mnemonic of a store of so many bytes
abbrev pub store_name : ℕ → List ℕ
store_name width = codes "s" ++ width_letter width

-- the mnemonic of an operation on two registers
abbrev pub alu_name : AluOp → List ℕ
alu_name Add = codes "add"
alu_name Sub = codes "sub"
alu_name Sll = codes "sll"
alu_name Slt = codes "slt"
alu_name Sltu = codes "sltu"
alu_name Xor = codes "xor"
alu_name Srl = codes "srl"
alu_name Sra = codes "sra"
alu_name Or = codes "or"
alu_name And = codes "and"
alu_name Addw = codes "addw"
alu_name Subw = codes "subw"
alu_name Sllw = codes "sllw"
alu_name Srlw = codes "srlw"
alu_name Sraw = codes "sraw"
alu_name Mul = codes "mul"
alu_name Mulh = codes "mulh"
alu_name Mulhsu = codes "mulhsu"
alu_name Mulhu = codes "mulhu"
alu_name Div = codes "div"
alu_name Divu = codes "divu"
alu_name Rem = codes "rem"
alu_name Remu = codes "remu"
alu_name Mulw = codes "mulw"
alu_name Divw = codes "divw"
alu_name Divuw = codes "divuw"
alu_name Remw = codes "remw"
alu_name Remuw = codes "remuw"

-- the mnemonic of an operation on a register and an immediate, where there is one
abbrev pub imm_name : AluOp → List ℕ
imm_name Add = codes "addi"
imm_name Sll = codes "slli"
imm_name Slt = codes "slti"
imm_name Sltu = codes "sltiu"
imm_name Xor = codes "xori"
imm_name Srl = codes "srli"
imm_name Sra = codes "srai"
imm_name Or = codes "ori"
imm_name And = codes "andi"
imm_name Addw = codes "addiw"
imm_name Sllw = codes "slliw"
imm_name Srlw = codes "srliw"
imm_name Sraw = codes "sraiw"
imm_name op = []

-- the name of an atomic memory operation, without its width and order
abbrev pub amo_name : AmoOp → List ℕ
amo_name amo.Swap = codes "amoswap"
amo_name amo.Add = codes "amoadd"
amo_name amo.Xor = codes "amoxor"
amo_name amo.And = codes "amoand"
amo_name amo.Or = codes "amoor"
amo_name amo.Min = codes "amomin"
amo_name amo.Max = codes "amomax"
amo_name amo.Minu = codes "amominu"
amo_name amo.Maxu = codes "amomaxu"

-- the order of an atomic instruction, as its name has it
abbrev pub order_suffix : Bool → Bool → List ℕ
order_suffix false false = []
order_suffix true false = codes ".aq"
order_suffix false true = codes ".rl"
order_suffix true true = codes ".aqrl"

-- what an atomic instruction adds to its name: its width, and its order if it has one
abbrev pub atomic_suffix : Bool → Bool → Bool → List ℕ
atomic_suffix wide aq rl = (if wide then codes ".d" else codes ".w") ++ order_suffix aq rl

-- a register, as `x5`
abbrev pub register_name : ℕ → List ℕ
register_name r = codes "x" ++ decimal r

-- the immediate of `lui` and `auipc`: its bits 31 to 12, as an unsigned number
abbrev pub upper : ℤ → List ℕ
upper imm = decimal (low_bits 32 imm / 2 ^ 12)

-- the address in a register, as `(x5)`
abbrev pub address : ℕ → List ℕ
address r = codes "(" ++ register_name r ++ codes ")"

-- an offset from the address in a register, as `8(x5)`
abbrev pub indexed : ℤ → ℕ → List ℕ
indexed off r = signed_decimal off ++ address r

-- operands, a comma and a space between each two
abbrev pub joined : List (List ℕ) → List ℕ
joined [] = []
joined (operand ∷ []) = operand
joined (operand ∷ next ∷ rest) = operand ++ codes ", " ++ joined (next ∷ rest)

-- a mnemonic, a space and the operands
abbrev pub line : List ℕ → List (List ℕ) → List ℕ
line name operands = name ++ codes " " ++ joined operands

-- the text of an instruction: a store, an sc and an atomic memory operation name rs2 before the
-- address
abbrev pub inst_text : Inst → List ℕ
inst_text (Lui rd imm) = line (codes "lui") (register_name rd ∷ upper imm ∷ [])
inst_text (Auipc rd imm) = line (codes "auipc") (register_name rd ∷ upper imm ∷ [])
inst_text (Jal rd off) = line (codes "jal") (register_name rd ∷ signed_decimal off ∷ [])
inst_text (Jalr rd rs1 off) = line (codes "jalr") (register_name rd ∷ indexed off rs1 ∷ [])
inst_text (Branch cond rs1 rs2 off) = line (branch_name cond) (register_name rs1 ∷ register_name rs2 ∷ signed_decimal off ∷ [])
inst_text (Load width signed rd rs1 off) = line (load_name width signed) (register_name rd ∷ indexed off rs1 ∷ [])
inst_text (Store width rs1 rs2 off) = line (store_name width) (register_name rs2 ∷ indexed off rs1 ∷ [])
inst_text (AluImm op rd rs1 imm) = line (imm_name op) (register_name rd ∷ register_name rs1 ∷ signed_decimal imm ∷ [])
inst_text (Alu op rd rs1 rs2) = line (alu_name op) (register_name rd ∷ register_name rs1 ∷ register_name rs2 ∷ [])
inst_text (Amo op wide aq rl rd rs1 rs2) = line (amo_name op ++ atomic_suffix wide aq rl) (register_name rd ∷ register_name rs2 ∷ address rs1 ∷ [])
inst_text (Lr wide aq rl rd rs1) = line (codes "lr" ++ atomic_suffix wide aq rl) (register_name rd ∷ address rs1 ∷ [])
inst_text (Sc wide aq rl rd rs1 rs2) = line (codes "sc" ++ atomic_suffix wide aq rl) (register_name rd ∷ register_name rs2 ∷ address rs1 ∷ [])
inst_text (Fence raw) = codes "fence"
inst_text (FenceI raw) = codes "fence.i"
inst_text Ecall = codes "ecall"
inst_text Ebreak = codes "ebreak"
