-- The instructions of short forms that are one or two, and of uses of names (RISC-V unprivileged
-- ISA, "RISC-V Assembly Programmer's Handbook").
use Rattle.std.specs.Prelude.{ℕ, ℤ, List, [], ◌∷◌}
use Rattle.rv_alu.specs.Arithmetic.{signed}
use Rattle.rv_alu.specs.declared.op.AluOp.TheVariants.{Add, Addw}
use Rattle.rv_encode.specs.Jumps.{high_part, low_part}
use Rattle.rv_inst.specs.declared.inst.Inst.{Inst}
use Rattle.rv_inst.specs.declared.inst.Inst.TheVariants.{AluImm, Auipc, Jalr, Lui}
use Rattle.rv_inst.specs.Spelling.{low_bits}

-- li of a number of 12 bits: addi
abbrev pub short_li : ℕ → ℤ → List Inst
short_li rd value = AluImm Add rd 0 value ∷ []

-- li of a number of 32 bits: lui of the nearest multiple of 2 ^ 12, of which 2 ^ 31 has the bits of
-- -2 ^ 31, and addiw of the rest, which keeps the low 32 bits of the sum
unfoldable pub long_li : ℕ → ℤ → List Inst
long_li rd value =
    Lui rd (signed 32 (low_bits 32 (high_part value))) ∷ AluImm Addw rd rd (low_part value) ∷ []

-- call of a label so far away: auipc of the nearest multiple of 2 ^ 12, and jalr of the rest, by x1
unfoldable pub call_code : ℤ → List Inst
call_code distance = Auipc 1 (high_part distance) ∷ Jalr 1 1 (low_part distance) ∷ []

-- la of a label so far away: auipc of the nearest multiple of 2 ^ 12, and addi of the rest
unfoldable pub la_code : ℕ → ℤ → List Inst
la_code rd distance = Auipc rd (high_part distance) ∷ AluImm Add rd rd (low_part distance) ∷ []
