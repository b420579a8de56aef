-- The values of relocations (RISC-V ELF psABI, "Relocations", "Calculation Symbols"): S is the
-- symbol's address, A the addend, P the field's address, V the number in the field.
use Rattle.std.specs.Prelude.{ℤ, pos, ◌+ℤ◌, ◌-ℤ◌}
use Rattle.rv_alu.specs.Arithmetic.{signed}
use Rattle.rv_inst.specs.Spelling.{low_bits}
use Rattle.elf_fields.specs.declared.formula.Formula.{Formula}
use Rattle.elf_fields.specs.declared.formula.Formula.TheVariants.{Absolute, Signed, Relative, Added, Subtracted}
use Rattle.elf_fields.specs.declared.formula.Operands.{Operands}

-- the value, a whole number: S + A, the same as a signed number of 64 bits, S + A - P, V + S + A,
-- or V - S - A
abbrev pub value_of : Formula → Operands → ℤ
value_of Absolute o = pos o.symbol +ℤ o.addend
value_of Signed o = signed 64 (low_bits 64 (pos o.symbol +ℤ o.addend))
value_of Relative o = pos o.symbol +ℤ o.addend -ℤ pos o.place
value_of Added o = pos o.old +ℤ pos o.symbol +ℤ o.addend
value_of Subtracted o = pos o.old -ℤ pos o.symbol -ℤ o.addend
