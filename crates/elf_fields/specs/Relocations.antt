-- What each type of relocation does, a line a type (RISC-V ELF psABI, "Relocations").
use Rattle.std.specs.Prelude.{ℕ, ◌==◌, Option, Some, None, if◌then◌else◌}
use Rattle.elf_fields.specs.declared.bounds.Bounds.TheVariants as bounds
use Rattle.elf_fields.specs.declared.field.Field.TheVariants as field
use Rattle.elf_fields.specs.declared.formula.Formula.TheVariants.{Absolute, Signed, Relative, Added, Subtracted}
use Rattle.elf_fields.specs.declared.relocation.Relocation.{Relocation}
use Rattle.elf_fields.specs.declared.relocation.Relocation.TheVariants.{Nothing, Put, Paired}
use Rattle.elf_fields.specs.declared.constants.TheConstants.{R_RISCV_NONE, R_RISCV_32, R_RISCV_64, R_RISCV_BRANCH, R_RISCV_JAL, R_RISCV_CALL, R_RISCV_CALL_PLT, R_RISCV_PCREL_HI20, R_RISCV_PCREL_LO12_I, R_RISCV_PCREL_LO12_S, R_RISCV_HI20, R_RISCV_LO12_I, R_RISCV_LO12_S, R_RISCV_ADD8, R_RISCV_ADD16, R_RISCV_ADD32, R_RISCV_ADD64, R_RISCV_SUB8, R_RISCV_SUB16, R_RISCV_SUB32, R_RISCV_SUB64, R_RISCV_ALIGN, R_RISCV_RELAX, R_RISCV_SUB6, R_RISCV_SET6, R_RISCV_SET8, R_RISCV_SET16, R_RISCV_SET32, R_RISCV_32_PCREL}

-- what a type does, by its number: it changes nothing, puts the value of a formula, which stays
-- within bounds, into a field, or puts that of the R_RISCV_PCREL_HI20 at its label into a field
abbrev pub relocation_of : ℕ → Option Relocation
relocation_of n =
    if n == R_RISCV_NONE then Some Nothing
    else if n == R_RISCV_32 then Some (Put Absolute field.Word bounds.Word)
    else if n == R_RISCV_64 then Some (Put Absolute field.Doubleword bounds.Any)
    else if n == R_RISCV_BRANCH then Some (Put Relative field.Branch bounds.Branch)
    else if n == R_RISCV_JAL then Some (Put Relative field.Jump bounds.Jump)
    else if n == R_RISCV_CALL then Some (Put Relative field.Call bounds.EvenPair)
    else if n == R_RISCV_CALL_PLT then Some (Put Relative field.Call bounds.EvenPair)
    else if n == R_RISCV_PCREL_HI20 then Some (Put Relative field.Upper bounds.Pair)
    else if n == R_RISCV_PCREL_LO12_I then Some (Paired field.Immediate)
    else if n == R_RISCV_PCREL_LO12_S then Some (Paired field.Store)
    else if n == R_RISCV_HI20 then Some (Put Signed field.Upper bounds.Pair)
    else if n == R_RISCV_LO12_I then Some (Put Absolute field.Immediate bounds.Any)
    else if n == R_RISCV_LO12_S then Some (Put Absolute field.Store bounds.Any)
    else if n == R_RISCV_ADD8 then Some (Put Added field.Byte bounds.Any)
    else if n == R_RISCV_ADD16 then Some (Put Added field.Half bounds.Any)
    else if n == R_RISCV_ADD32 then Some (Put Added field.Word bounds.Any)
    else if n == R_RISCV_ADD64 then Some (Put Added field.Doubleword bounds.Any)
    else if n == R_RISCV_SUB8 then Some (Put Subtracted field.Byte bounds.Any)
    else if n == R_RISCV_SUB16 then Some (Put Subtracted field.Half bounds.Any)
    else if n == R_RISCV_SUB32 then Some (Put Subtracted field.Word bounds.Any)
    else if n == R_RISCV_SUB64 then Some (Put Subtracted field.Doubleword bounds.Any)
    else if n == R_RISCV_ALIGN then Some Nothing
    else if n == R_RISCV_RELAX then Some Nothing
    else if n == R_RISCV_SUB6 then Some (Put Subtracted field.LowSix bounds.Any)
    else if n == R_RISCV_SET6 then Some (Put Absolute field.LowSix bounds.Any)
    else if n == R_RISCV_SET8 then Some (Put Absolute field.Byte bounds.Any)
    else if n == R_RISCV_SET16 then Some (Put Absolute field.Half bounds.Any)
    else if n == R_RISCV_SET32 then Some (Put Absolute field.Word bounds.Any)
    else if n == R_RISCV_32_PCREL then Some (Put Relative field.Word bounds.SignedWord)
    else None
