use Rattle.std.proofs.Common.{◌≡◌, ℕ, List, take}
use Rattle.elf_syms.specs.Among.{among}
use Rattle.elf_syms.specs.Maps.{found_at, AreThere}
use Rattle.elf_syms.proofs.telling.reserve_all.Given as goal

-- the names so far are keys, and what is found is as it was
abbrev pub invariant-loop-entry : goal.invariant-loop-entry
invariant-loop-entry l = record {
  there : AreThere l.entries (among l.which (take l.entry-index l.names));
  same : (other : List ℕ) → found_at l.entries other ≡ found_at l.initial.entries other;
}
