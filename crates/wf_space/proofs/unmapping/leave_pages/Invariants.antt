use Rattle.std.proofs.Common.{◌+◌, ◌-◌, ◌∷◌, []}
use Rattle.std.specs.List.{range_with_len}
use Rattle.wf_views.specs.declared.plan.Piece.TheVariants.{Leave}
use Rattle.wf_space.proofs.PushLemmas.{ArePushed}
use Rattle.wf_space.proofs.unmapping.leave_pages.Given as goal

abbrev pub invariant-loop-i : goal.invariant-loop-i
invariant-loop-i l = ArePushed (λ page. Leave page ∷ []) (range_with_len (l.first + l.i) (l.pages - l.i)) (range_with_len l.first l.pages) l.fn.pieces l.pieces
