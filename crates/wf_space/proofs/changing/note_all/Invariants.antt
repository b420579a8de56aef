use Rattle.std.specs.Vec.Iter.{into_iter_items}
use Rattle.wf_space.proofs.NoteLemmas.{AreToCome}
use Rattle.wf_space.proofs.changing.note_all.Given as goal

abbrev pub invariant-loop-change : goal.invariant-loop-change
invariant-loop-change l =
    (goal.iterator-loop-change).can_next l.change-iterator ×
    (goal.iterator-loop-change).is_finite l.change-iterator ×
    AreToCome l.fn.records l.records (into_iter_items l.change-iterator) l.fn.changes.items
