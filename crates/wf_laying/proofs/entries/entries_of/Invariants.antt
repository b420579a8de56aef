use Rattle.std.proofs.Common.{◌≡◌, ◌*◌, ◌+◌, map}
use Rattle.std.specs.List.{range_with_len}
use Rattle.wf_start.specs.Layout.{first_entry}
use Rattle.wf_laying.proofs.entries.entries_of.Given as goal

abbrev pub invariant-loop-i : goal.invariant-loop-i
invariant-loop-i l = l.words.items ≡ map (λ i. first_entry l.view l.node.level (l.node.prefix * 512 + i)) (range_with_len 0 l.i)
