use Rattle.std.proofs.Common.{◌≡◌, ℕ, take}
use Rattle.std.specs.BTreeMap.{get}
use Rattle.std.specs.Ordering.{nat_cmp}
use Rattle.elf_link.specs.Kept.{high_from}
use Rattle.elf_link.proofs.PairLemmas.{relas_among}
use Rattle.elf_link.proofs.pairs.pairs.Given as goal

-- the entries of the groups so far are noted
abbrev pub invariant-loop-group : goal.invariant-loop-group
invariant-loop-group l = (offset : ℕ) → get nat_cmp l.pairs offset ≡ high_from (relas_among l.section (take l.group-index l.object.relas)) offset
