use Rattle.std.proofs.Common.{◌≡◌, ◌++◌, drop}
use Rattle.elf_read.specs.Names.{zeros_from}
use Rattle.elf_read.proofs.names.zeros_of.Given as goal

-- the zeros so far and those of what is left are all
abbrev pub invariant-loop-i : goal.invariant-loop-i
invariant-loop-i l = l.zeros.items ++ zeros_from l.i (drop l.i l.strings) ≡ zeros_from 0 l.strings
