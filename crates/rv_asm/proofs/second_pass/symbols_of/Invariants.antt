use Rattle.std.proofs.Common.{◌≡◌, take, map}
use Rattle.rv_asm.specs.Drafts.{symbol_values}
use Rattle.rv_asm.specs.Places.{label_values}
use Rattle.rv_asm.specs.SecondPass.{symbol_of}
use Rattle.rv_asm.proofs.second_pass.symbols_of.Given as goal

abbrev pub invariant-loop-label : goal.invariant-loop-label
invariant-loop-label l = symbol_values l.symbols.items ≡ map (symbol_of l.form l.sizes) (label_values (take l.label-index l.labels))
