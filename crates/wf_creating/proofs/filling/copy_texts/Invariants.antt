use Rattle.std.proofs.Common.{[]}
use Rattle.wf_views.specs.declared.plan.Piece.{Piece}
use Rattle.wf_mapping.proofs.MapLemmas.{AreMade}
use Rattle.wf_creating.specs.Plans.{texts_copied}
use Rattle.wf_creating.proofs.filling.copy_texts.Given as goal

abbrev pub invariant-loop-i : goal.invariant-loop-i
invariant-loop-i l = AreMade (λ (piece : Piece). piece) (texts_copied [] l.texts l.copies) l.i l.fn.pieces l.pieces
