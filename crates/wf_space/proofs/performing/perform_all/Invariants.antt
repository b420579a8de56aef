use Rattle.std.specs.Vec.Iter.{into_iter_items}
use Rattle.wf_space.proofs.PerformLemmas.{AreToPerform}
use Rattle.wf_space.proofs.performing.perform_all.Given as goal

abbrev pub invariant-loop-piece : goal.invariant-loop-piece
invariant-loop-piece l =
    (goal.iterator-loop-piece).can_next l.piece-iterator ×
    (goal.iterator-loop-piece).is_finite l.piece-iterator ×
    AreToPerform l.fn.words l.words l.fn.records l.records (into_iter_items l.piece-iterator) l.fn.pieces.items
