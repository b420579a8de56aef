use Rattle.std.proofs.Common.{◌≡◌, ◌++◌, drop}
use Rattle.wf_change.proofs.ChosenLemmas.{chosen}
use Rattle.wf_change.proofs.noting.noting_in.Given as goal

abbrev pub invariant-loop-i : goal.invariant-loop-i
invariant-loop-i l =
    l.chosen.items ++ chosen l.generation (drop l.i l.harts) (drop l.i l.noting) ≡ chosen l.generation l.harts l.noting
