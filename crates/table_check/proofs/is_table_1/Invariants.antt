use Rattle.std.proofs.Common.{◌≡◌, ◌<◌, ◌⊎◌, ℕ}
use Rattle.wf_sv39.specs.Entries.{pte_node}
use Rattle.wf_sv39.specs.Tables.{entry_in, IsPointer, IsTable}
use Rattle.table_check.proofs.is_table_1.Given as goal

abbrev pub invariant-loop-i : goal.invariant-loop-i
invariant-loop-i l = (k : ℕ) → k < l.i
    → ((entry_in l.words l.node k ≡ 0) ⊎ IsPointer l.words.frames (entry_in l.words l.node k))
    × ((next : ℕ) → entry_in l.words l.node k ≡ pte_node next → IsTable l.words 0 next)
