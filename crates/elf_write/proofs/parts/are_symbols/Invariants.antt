use Rattle.std.proofs.Common.{All, take}
use Rattle.elf_write.specs.Parts.{IsSymbol}
use Rattle.elf_write.proofs.parts.are_symbols.Given as goal

abbrev pub invariant-loop-symbol : goal.invariant-loop-symbol
invariant-loop-symbol l = All IsSymbol (take l.symbol-index l.symbols)
