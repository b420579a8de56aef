use Rattle.std.proofs.Common.{ℕ, List, take, map}
use Rattle.std.specs.List.{fold}
use Rattle.wf_homes.specs.Homes.{Homes, homes_behind}
use Rattle.wf_tables.specs.Index.{AreNoted}
use Rattle.wf_tables.proofs.renewal.give_up_all.Given as goal

abbrev pub invariant-loop-entry : goal.invariant-loop-entry
invariant-loop-entry l =
    (before : List ℕ) (homes : Homes) → AreNoted l.fn.index l.fn.new.items before homes
    → AreNoted l.index l.new.items before (fold homes_behind homes (map (λ entry. entry.event) (take l.entry-index l.entries)))
