use Rattle.std.proofs.Common.{◌≡◌, take}
use Rattle.elf_syms.specs.Telling.{told_of}
use Rattle.elf_syms.proofs.telling.told_of.Given as goal

-- what the entries so far tell
abbrev pub invariant-loop-entry : goal.invariant-loop-entry
invariant-loop-entry l = l.told ≡ told_of (take l.entry-index l.list) l.name
