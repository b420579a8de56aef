use Rattle.std.proofs.Common.{◌≡◌, ◌++◌, length, take, drop}
use Rattle.elf_write.specs.Parts.{strings, symbols_from, symbol_table}
use Rattle.elf_write.proofs.parts.symbol_table.Given as goal

abbrev pub invariant-loop-symbol : goal.invariant-loop-symbol
invariant-loop-symbol l = record {
  name : l.name ≡ length (strings (take l.symbol-index l.symbols));
  entries : l.out.items ++ symbols_from l.name (drop l.symbol-index l.symbols) ≡ symbol_table l.symbols;
}
