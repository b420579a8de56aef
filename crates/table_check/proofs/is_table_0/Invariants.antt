use Rattle.std.proofs.Common.{◌≡◌, ◌<◌, ◌⊎◌, ℕ}
use Rattle.wf_sv39.specs.Tables.{entry_in, IsLeaf}
use Rattle.table_check.proofs.is_table_0.Given as goal

abbrev pub invariant-loop-i : goal.invariant-loop-i
invariant-loop-i l = (k : ℕ) → k < l.i → (entry_in l.words l.node k ≡ 0) ⊎ IsLeaf l.words.frames (entry_in l.words l.node k)
