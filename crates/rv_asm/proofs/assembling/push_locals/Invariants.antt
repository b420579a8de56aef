use Rattle.std.proofs.Common.{◌≡◌, ◌++◌, take}
use Rattle.elf_write.specs.Parts.{locals}
use Rattle.rv_asm.specs.Drafts.{symbol_values}
use Rattle.rv_asm.proofs.assembling.push_locals.Given as goal

abbrev pub invariant-loop-symbol : goal.invariant-loop-symbol
invariant-loop-symbol l = l.out.items ≡ l.fn.out.items ++ locals (symbol_values (take l.symbol-index l.symbols))
