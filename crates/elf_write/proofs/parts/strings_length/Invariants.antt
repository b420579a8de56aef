use Rattle.std.proofs.Common.{◌≡◌, ◌^◌, ◌-◌, min, length, take}
use Rattle.elf_write.specs.Parts.{strings}
use Rattle.elf_write.proofs.parts.strings_length.Given as goal

abbrev pub invariant-loop-symbol : goal.invariant-loop-symbol
invariant-loop-symbol l = l.total ≡ min (length (strings (take l.symbol-index l.symbols))) (2 ^ 64 - 1)
