use Rattle.std.proofs.Common.{◌≡◌, drop}
use Rattle.elf_write.specs.declared.module.Form.TheVariants.{Exec}
use Rattle.rv_asm.specs.Assembled.{entry_point}
use Rattle.rv_asm.specs.Drafts.{symbol_values}
use Rattle.rv_asm.proofs.assembling.start_point.Given as goal

abbrev pub invariant-loop-symbol : goal.invariant-loop-symbol
invariant-loop-symbol l = entry_point Exec (symbol_values (drop l.symbol-index l.symbols)) ≡ entry_point Exec (symbol_values l.symbols)
