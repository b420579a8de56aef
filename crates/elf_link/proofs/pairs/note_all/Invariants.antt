use Rattle.std.proofs.Common.{◌≡◌, ℕ, take}
use Rattle.std.specs.BTreeMap.{get}
use Rattle.std.specs.Option.{option_or}
use Rattle.std.specs.Ordering.{nat_cmp}
use Rattle.elf_link.specs.Kept.{high_from}
use Rattle.elf_link.proofs.pairs.note_all.Given as goal

-- the entries so far are noted
abbrev pub invariant-loop-rela : goal.invariant-loop-rela
invariant-loop-rela l = (offset : ℕ) → get nat_cmp l.pairs offset ≡ option_or (get nat_cmp l.fn.pairs offset) (high_from (take l.rela-index l.relas) offset)
