use Rattle.std.proofs.Common.{take}
use Rattle.rv_asm.specs.Names.{IsNameIndex, name_values}
use Rattle.rv_asm.proofs.names.index_of.Given as goal

abbrev pub invariant-loop-i : goal.invariant-loop-i
invariant-loop-i l = IsNameIndex l.places (name_values (take l.i l.names))
