use Rattle.std.proofs.Common.{◌≡◌, ℕ, List, take, cond}
use Rattle.std.specs.List.{list_any}
use Rattle.elf_syms.specs.Among.{among}
use Rattle.elf_syms.specs.Maps.{found_at, AreThere}
use Rattle.elf_syms.specs.Telling.{told_of, has_name}
use Rattle.elf_syms.proofs.telling.write_all.Given as goal

-- all names are keys, and of those so far the list decides
abbrev pub invariant-loop-entry : goal.invariant-loop-entry
invariant-loop-entry l = record {
  there : AreThere l.entries (among l.which l.names);
  found : (other : List ℕ) → found_at l.entries other
      ≡ cond (list_any (has_name other) (among l.which (take l.entry-index l.names))) (told_of (among l.which l.names) other) (found_at l.initial.entries other);
}
