use Rattle.std.proofs.Common.{◌≡◌, ◌++◌, map, take}
use Rattle.rv_asm.specs.Links.{outside_symbol}
use Rattle.rv_asm.specs.Names.{name_values}
use Rattle.rv_asm.proofs.assembling.push_outside.Given as goal

abbrev pub invariant-loop-name : goal.invariant-loop-name
invariant-loop-name l = l.out.items ≡ l.fn.out.items ++ map outside_symbol (name_values (take l.name-index l.names))
