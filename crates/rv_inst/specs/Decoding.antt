-- The instruction of a word, if it is one: the table of rows read from the word's side, field by
-- field. That it is the same table is a law (`words_are_rows`).
use Rattle.std.specs.Prelude.{◌==◌, ℕ, ℤ, pos, Bool, true, false, Option, Some, None, if◌then◌else◌}
use Rattle.std.specs.Option.{option_map}
use Rattle.rv_alu.specs.declared.op.AluOp.{AluOp}
use Rattle.rv_alu.specs.declared.op.AluOp.TheVariants.{Add, Sub, Sll, Slt, Sltu, Xor, Srl, Sra, Or, And, Addw, Subw, Sllw, Srlw, Sraw, Mul, Mulh, Mulhsu, Mulhu, Div, Divu, Rem, Remu, Mulw, Divw, Divuw, Remw, Remuw}
use Rattle.rv_alu.specs.declared.op.AmoOp.{AmoOp}
use Rattle.rv_alu.specs.declared.op.AmoOp.TheVariants as amo
use Rattle.rv_alu.specs.declared.op.Cond.{Cond}
use Rattle.rv_alu.specs.declared.op.Cond.TheVariants.{Equal, NotEqual, Less, GreaterOrEqual, LessUnsigned, GreaterOrEqualUnsigned}
use Rattle.rv_inst.specs.declared.inst.Inst.{Inst}
use Rattle.rv_inst.specs.declared.inst.Inst.TheVariants.{Lui, Auipc, Jal, Jalr, Branch, Load, Store, AluImm, Alu, Amo, Lr, Sc, Fence, FenceI, Ecall, Ebreak}
use Rattle.rv_inst.specs.Fields.{opcode, rd_in, funct3, rs1_in, rs2_in, funct7, funct6, funct5, aq_in, rl_in, imm_i, imm_s, imm_b, imm_u, imm_j, amount_64, amount_32}

-- the instruction of a word that has the opcode of `jalr`
abbrev pub jalr_of : ℕ → Option Inst
jalr_of word = if funct3 word == 0 then Some (Jalr (rd_in word) (rs1_in word) (imm_i word)) else None

-- the condition of a branch of a funct3
abbrev pub cond_at : ℕ → Option Cond
cond_at f3 =
    if f3 == 0 then Some Equal
    else if f3 == 1 then Some NotEqual
    else if f3 == 4 then Some Less
    else if f3 == 5 then Some GreaterOrEqual
    else if f3 == 6 then Some LessUnsigned
    else if f3 == 7 then Some GreaterOrEqualUnsigned
    else None

-- the instruction of a word that has the opcode of branches
abbrev pub branch_of : ℕ → Option Inst
branch_of word = option_map (λ cond. Branch cond (rs1_in word) (rs2_in word) (imm_b word)) (cond_at (funct3 word))

-- a load of so many bytes, sign-extended or not, with the fields of a word
abbrev pub load_with : ℕ → ℕ → Bool → Option Inst
load_with word width signed = Some (Load width signed (rd_in word) (rs1_in word) (imm_i word))

-- the instruction of a word that has the opcode of loads
abbrev pub load_of : ℕ → Option Inst
load_of word =
    if funct3 word == 0 then load_with word 1 true
    else if funct3 word == 1 then load_with word 2 true
    else if funct3 word == 2 then load_with word 4 true
    else if funct3 word == 3 then load_with word 8 true
    else if funct3 word == 4 then load_with word 1 false
    else if funct3 word == 5 then load_with word 2 false
    else if funct3 word == 6 then load_with word 4 false
    else None

-- a store of so many bytes, with the fields of a word
abbrev pub store_with : ℕ → ℕ → Option Inst
store_with word width = Some (Store width (rs1_in word) (rs2_in word) (imm_s word))

-- the instruction of a word that has the opcode of stores
abbrev pub store_of : ℕ → Option Inst
store_of word =
    if funct3 word == 0 then store_with word 1
    else if funct3 word == 1 then store_with word 2
    else if funct3 word == 2 then store_with word 4
    else if funct3 word == 3 then store_with word 8
    else None

-- an operation on an immediate, with the registers of a word
abbrev pub imm_with : ℕ → AluOp → ℤ → Option Inst
imm_with word op imm = Some (AluImm op (rd_in word) (rs1_in word) imm)

-- the instruction of a word that has the opcode of operations on immediates
abbrev pub imm_of : ℕ → Option Inst
imm_of word =
    if funct3 word == 0 then imm_with word Add (imm_i word)
    else if funct3 word == 1 then (if funct6 word == 0b000000 then imm_with word Sll (pos (amount_64 word)) else None)
    else if funct3 word == 2 then imm_with word Slt (imm_i word)
    else if funct3 word == 3 then imm_with word Sltu (imm_i word)
    else if funct3 word == 4 then imm_with word Xor (imm_i word)
    else if funct3 word == 5 then (if funct6 word == 0b000000 then imm_with word Srl (pos (amount_64 word)) else if funct6 word == 0b010000 then imm_with word Sra (pos (amount_64 word)) else None)
    else if funct3 word == 6 then imm_with word Or (imm_i word)
    else if funct3 word == 7 then imm_with word And (imm_i word)
    else None

-- the instruction of a word that has the opcode of operations on immediates, of 32 bits
abbrev pub imm_word_of : ℕ → Option Inst
imm_word_of word =
    if funct3 word == 0 then imm_with word Addw (imm_i word)
    else if funct3 word == 1 then (if funct7 word == 0x00 then imm_with word Sllw (pos (amount_32 word)) else None)
    else if funct3 word == 5 then (if funct7 word == 0x00 then imm_with word Srlw (pos (amount_32 word)) else if funct7 word == 0x20 then imm_with word Sraw (pos (amount_32 word)) else None)
    else None

-- the operation on two registers of a funct3, where funct7 is 00
abbrev pub base_at : ℕ → Option AluOp
base_at f3 =
    if f3 == 0 then Some Add
    else if f3 == 1 then Some Sll
    else if f3 == 2 then Some Slt
    else if f3 == 3 then Some Sltu
    else if f3 == 4 then Some Xor
    else if f3 == 5 then Some Srl
    else if f3 == 6 then Some Or
    else if f3 == 7 then Some And
    else None

-- the operation on two registers of a funct3, where funct7 is 20
abbrev pub other_at : ℕ → Option AluOp
other_at f3 =
    if f3 == 0 then Some Sub
    else if f3 == 5 then Some Sra
    else None

-- the operation on two registers of a funct3, where funct7 is 01
abbrev pub product_at : ℕ → Option AluOp
product_at f3 =
    if f3 == 0 then Some Mul
    else if f3 == 1 then Some Mulh
    else if f3 == 2 then Some Mulhsu
    else if f3 == 3 then Some Mulhu
    else if f3 == 4 then Some Div
    else if f3 == 5 then Some Divu
    else if f3 == 6 then Some Rem
    else if f3 == 7 then Some Remu
    else None

-- the operation on the low 32 bits of two registers of a funct3, where funct7 is 00
abbrev pub base_word_at : ℕ → Option AluOp
base_word_at f3 =
    if f3 == 0 then Some Addw
    else if f3 == 1 then Some Sllw
    else if f3 == 5 then Some Srlw
    else None

-- the operation on the low 32 bits of two registers of a funct3, where funct7 is 20
abbrev pub other_word_at : ℕ → Option AluOp
other_word_at f3 =
    if f3 == 0 then Some Subw
    else if f3 == 5 then Some Sraw
    else None

-- the operation on the low 32 bits of two registers of a funct3, where funct7 is 01
abbrev pub product_word_at : ℕ → Option AluOp
product_word_at f3 =
    if f3 == 0 then Some Mulw
    else if f3 == 4 then Some Divw
    else if f3 == 5 then Some Divuw
    else if f3 == 6 then Some Remw
    else if f3 == 7 then Some Remuw
    else None

-- the operation on two registers of a funct7 and a funct3, where the opcode is 33
abbrev pub op_at : ℕ → ℕ → Option AluOp
op_at f7 f3 =
    if f7 == 0x00 then base_at f3
    else if f7 == 0x20 then other_at f3
    else if f7 == 0x01 then product_at f3
    else None

-- the operation on two registers of a funct7 and a funct3, where the opcode is 3B
abbrev pub op_word_at : ℕ → ℕ → Option AluOp
op_word_at f7 f3 =
    if f7 == 0x00 then base_word_at f3
    else if f7 == 0x20 then other_word_at f3
    else if f7 == 0x01 then product_word_at f3
    else None

-- an operation on two registers, with the registers of a word
abbrev pub alu_with : ℕ → Option AluOp → Option Inst
alu_with word op = option_map (λ op. Alu op (rd_in word) (rs1_in word) (rs2_in word)) op

-- the instruction of a word that has the opcode of fences
abbrev pub fence_of : ℕ → Option Inst
fence_of word =
    if funct3 word == 0 then Some (Fence word)
    else if funct3 word == 1 then Some (FenceI word)
    else None

-- the instruction of a word that has the opcode of calls
abbrev pub system_of : ℕ → Option Inst
system_of word =
    if word == 0x00000073 then Some Ecall
    else if word == 0x00100073 then Some Ebreak
    else None

-- the atomic memory operation of a funct5
abbrev pub amo_at : ℕ → Option AmoOp
amo_at f5 =
    if f5 == 0b00001 then Some amo.Swap
    else if f5 == 0b00000 then Some amo.Add
    else if f5 == 0b00100 then Some amo.Xor
    else if f5 == 0b01100 then Some amo.And
    else if f5 == 0b01000 then Some amo.Or
    else if f5 == 0b10000 then Some amo.Min
    else if f5 == 0b10100 then Some amo.Max
    else if f5 == 0b11000 then Some amo.Minu
    else if f5 == 0b11100 then Some amo.Maxu
    else None

-- the instruction of a word that has the funct5 of `lr`, of 64 bits or of 32
abbrev pub lr_of : ℕ → Bool → Option Inst
lr_of word wide = if rs2_in word == 0 then Some (Lr wide (aq_in word) (rl_in word) (rd_in word) (rs1_in word)) else None

-- the instruction of a word that has the funct5 of neither `lr` nor `sc`, of 64 bits or of 32
abbrev pub amo_inst_of : ℕ → Bool → Option Inst
amo_inst_of word wide = option_map (λ op. Amo op wide (aq_in word) (rl_in word) (rd_in word) (rs1_in word) (rs2_in word)) (amo_at (funct5 word))

-- the instruction of a word that has the opcode of atomic instructions, of 64 bits or of 32
abbrev pub atomic_with : ℕ → Bool → Option Inst
atomic_with word wide =
    if funct5 word == 0b00010 then lr_of word wide
    else if funct5 word == 0b00011 then Some (Sc wide (aq_in word) (rl_in word) (rd_in word) (rs1_in word) (rs2_in word))
    else amo_inst_of word wide

-- the instruction of a word that has the opcode of atomic instructions
abbrev pub atomic_of : ℕ → Option Inst
atomic_of word =
    if funct3 word == 2 then atomic_with word false
    else if funct3 word == 3 then atomic_with word true
    else None

-- the instruction of a word that has this opcode
unfoldable pub inst_by : ℕ → ℕ → Option Inst
inst_by op word =
    if op == 0x37 then Some (Lui (rd_in word) (imm_u word))
    else if op == 0x17 then Some (Auipc (rd_in word) (imm_u word))
    else if op == 0x6F then Some (Jal (rd_in word) (imm_j word))
    else if op == 0x67 then jalr_of word
    else if op == 0x63 then branch_of word
    else if op == 0x03 then load_of word
    else if op == 0x23 then store_of word
    else if op == 0x13 then imm_of word
    else if op == 0x1B then imm_word_of word
    else if op == 0x33 then alu_with word (op_at (funct7 word) (funct3 word))
    else if op == 0x3B then alu_with word (op_word_at (funct7 word) (funct3 word))
    else if op == 0x0F then fence_of word
    else if op == 0x73 then system_of word
    else if op == 0x2F then atomic_of word
    else None

-- the instruction of a word, if it is one
unfoldable pub inst_of : ℕ → Option Inst
inst_of word = inst_by (opcode word) word
