use Rattle.std.proofs.Common.{◌≡◌, take}
use Rattle.elf_write.specs.Parts.{strings}
use Rattle.elf_write.proofs.parts.strings.Given as goal

abbrev pub invariant-loop-symbol : goal.invariant-loop-symbol
invariant-loop-symbol l = l.out.items ≡ strings (take l.symbol-index l.symbols)
