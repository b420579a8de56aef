use Rattle.std.proofs.Common.{◌≡◌, ℕ, List, take}
use Rattle.elf_syms.specs.Among.{among}
use Rattle.elf_syms.specs.Maps.{found_at}
use Rattle.elf_syms.specs.Telling.{told_of}
use Rattle.elf_syms.proofs.telling.told.Given as goal

-- what the entries so far tell
abbrev pub invariant-loop-entry : goal.invariant-loop-entry
invariant-loop-entry l = (name : List ℕ) → found_at l.told name ≡ told_of (among l.which (take l.entry-index l.names)) name
