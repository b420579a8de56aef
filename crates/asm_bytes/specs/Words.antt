-- Which instructions have a word: the fields of their formats have room for their numbers (RISC-V
-- unprivileged ISA, "Base Instruction Formats").
use Rattle.std.specs.Prelude.{ℕ, ℤ, pos, ◌-◌, ◌%◌, ◌^◌, ◌-ℤ◌, ◌==◌, ◌&&◌, Bool, true, false, List, [], ◌∷◌, ◌++◌, int_le, int_lt, nat_lt, is_some, unsigned_abs, Option, Some, None}
use Rattle.byteorder.specs.Endian.{little_bytes}
use Rattle.rv_inst.specs.declared.inst.Inst.{Inst}
use Rattle.rv_inst.specs.declared.inst.Inst.TheVariants.{Lui, Auipc, Jal, Jalr, Branch, Load, Store, AluImm, Alu, Amo, Lr, Sc, Fence, FenceI, Ecall, Ebreak}
use Rattle.rv_inst.specs.Fields.{opcode, funct3}
use Rattle.rv_inst.specs.Rows.{ImmCodes, Number, Shift64, Shift32, load_code, store_code, imm_codes}
use Rattle.rv_inst.specs.Spelling.{word_of}
use Rattle.asm_lines.specs.Choice.{◌>>=◌, when}

-- a register: x0 to x31
abbrev pub is_register : ℕ → Bool
is_register r = nat_lt r 32

-- a two's complement number of so many bits
abbrev pub is_number : ℕ → ℤ → Bool
is_number bits z = int_le (pos 0 -ℤ pos (2 ^ (bits - 1))) z && int_lt z (pos (2 ^ (bits - 1)))

-- an amount of a shift of so many bits
abbrev pub is_amount : ℕ → ℤ → Bool
is_amount bits z = int_le (pos 0) z && int_lt z (pos bits)

-- a multiple of a number
abbrev pub is_multiple : ℕ → ℤ → Bool
is_multiple n z = unsigned_abs z % n == 0

-- an immediate of an operation with these codes
abbrev pub is_imm : Option ImmCodes → ℤ → Bool
is_imm (Some (Number op f3)) imm = is_number 12 imm
is_imm (Some (Shift64 op f3 f6)) imm = is_amount 64 imm
is_imm (Some (Shift32 op f3 f7)) imm = is_amount 32 imm
is_imm None imm = false

-- whether an instruction has a word
unfoldable pub has_word : Inst → Bool
has_word (Lui rd imm) = is_register rd && is_number 32 imm && is_multiple 4096 imm
has_word (Auipc rd imm) = is_register rd && is_number 32 imm && is_multiple 4096 imm
has_word (Jal rd off) = is_register rd && is_number 21 off && is_multiple 2 off
has_word (Jalr rd rs1 off) = is_register rd && is_register rs1 && is_number 12 off
has_word (Branch cond rs1 rs2 off) =
    is_register rs1 && is_register rs2 && is_number 13 off && is_multiple 2 off
has_word (Load width signed rd rs1 off) =
    is_register rd && is_register rs1 && is_number 12 off && is_some (load_code width signed)
has_word (Store width rs1 rs2 off) =
    is_register rs1 && is_register rs2 && is_number 12 off && is_some (store_code width)
has_word (AluImm op rd rs1 imm) = is_register rd && is_register rs1 && is_imm (imm_codes op) imm
has_word (Alu op rd rs1 rs2) = is_register rd && is_register rs1 && is_register rs2
has_word (Amo op wide aq rl rd rs1 rs2) = is_register rd && is_register rs1 && is_register rs2
has_word (Lr wide aq rl rd rs1) = is_register rd && is_register rs1
has_word (Sc wide aq rl rd rs1 rs2) = is_register rd && is_register rs1 && is_register rs2
has_word (Fence raw) = nat_lt raw (2 ^ 32) && opcode raw == 0x0F && funct3 raw == 0
has_word (FenceI raw) = nat_lt raw (2 ^ 32) && opcode raw == 0x0F && funct3 raw == 1
has_word Ecall = true
has_word Ebreak = true

-- the bytes of instructions, one after another, each of which has a word: its lowest byte first
unfoldable pub code_bytes : List Inst → Option (List ℕ)
code_bytes [] = Some []
code_bytes (inst ∷ rest) = do
  front ← when (has_word inst) (little_bytes 4 (word_of inst))
  back ← code_bytes rest
  Some (front ++ back)
