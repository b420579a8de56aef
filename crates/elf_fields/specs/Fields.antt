-- The fields that relocations change (RISC-V ELF psABI, "Relocations", "Field Symbols"; RISC-V
-- unprivileged ISA, "Base Instruction Formats" and "Immediate Encoding Variants").
use Rattle.std.specs.Prelude.{ℕ, ◌+◌, ◌*◌, ◌/◌, ◌%◌, ◌^◌, ℤ}
use Rattle.rv_inst.specs.Fields.{opcode, rd_in, funct3, rs1_in, rs2_in}
use Rattle.rv_inst.specs.Spelling.{low_bits, word_i, word_s, word_b, word_u, word_j}
use Rattle.rv_encode.specs.Jumps.{high_part, low_part}
use Rattle.elf_fields.specs.declared.field.Field.{Field}
use Rattle.elf_fields.specs.declared.field.Field.TheVariants.{Byte, Half, Word, Doubleword, LowSix, Upper, Immediate, Store, Branch, Jump, Call}

-- how many bytes the number has in which a field stands
abbrev pub width_of : Field → ℕ
width_of Byte = 1
width_of Half = 2
width_of Word = 4
width_of Doubleword = 8
width_of LowSix = 1
width_of Upper = 4
width_of Immediate = 4
width_of Store = 4
width_of Branch = 4
width_of Jump = 4
width_of Call = 8

-- an instruction of format U with another immediate, a multiple of 2 ^ 12
abbrev pub with_u : ℤ → ℕ → ℕ
with_u imm word = word_u (opcode word) (rd_in word) (low_bits 32 imm)

-- an instruction of format I with another immediate
abbrev pub with_i : ℤ → ℕ → ℕ
with_i imm word = word_i (opcode word) (funct3 word) (rd_in word) (rs1_in word) (low_bits 12 imm)

-- an instruction of format S with another immediate
abbrev pub with_s : ℤ → ℕ → ℕ
with_s imm word = word_s (opcode word) (funct3 word) (rs1_in word) (rs2_in word) (low_bits 12 imm)

-- an instruction of format B with another offset
abbrev pub with_b : ℤ → ℕ → ℕ
with_b off word = word_b (opcode word) (funct3 word) (rs1_in word) (rs2_in word) (low_bits 13 off)

-- an instruction of format J with another offset
abbrev pub with_j : ℤ → ℕ → ℕ
with_j off word = word_j (opcode word) (rd_in word) (low_bits 21 off)

-- the number after a value was put into the field: numbers and formats B and J take the low bits of
-- the value, format U its high part, and formats I and S its low part
abbrev pub put_in : Field → ℤ → ℕ → ℕ
put_in Byte v old = low_bits 8 v
put_in Half v old = low_bits 16 v
put_in Word v old = low_bits 32 v
put_in Doubleword v old = low_bits 64 v
put_in LowSix v old = old / 2 ^ 6 * 2 ^ 6 + low_bits 6 v
put_in Upper v old = with_u (high_part v) old
put_in Immediate v old = with_i (low_part v) old
put_in Store v old = with_s (low_part v) old
put_in Branch v old = with_b v old
put_in Jump v old = with_j v old
put_in Call v old =
    with_u (high_part v) (old % 2 ^ 32) + with_i (low_part v) (old / 2 ^ 32) * 2 ^ 32
