use Rattle.std.proofs.Common.{◌≡◌, take}
use Rattle.rv_asm.specs.Drafts.{symbol_names}
use Rattle.rv_asm.specs.Names.{name_values}
use Rattle.rv_asm.proofs.assembling.names_of.Given as goal

abbrev pub invariant-loop-symbol : goal.invariant-loop-symbol
invariant-loop-symbol l = name_values l.names.items ≡ symbol_names (take l.symbol-index l.symbols)
