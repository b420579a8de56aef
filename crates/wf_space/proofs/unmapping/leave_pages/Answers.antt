use Rattle.std.proofs.Common.{◌∷◌, []}
use Rattle.wf_views.specs.declared.plan.Piece.TheVariants.{Leave}
use Rattle.wf_space.proofs.PushLemmas.{range_next, singles_pushed}
use Rattle.wf_space.proofs.unmapping.leave_pages.Goals as goal

pub loop-i-init : goal.loop-i-init
loop-i-init c = singles_pushed Leave c.args.first c.args.pages c.args.pieces.now c.requires.room

pub loop-i-preserved : goal.loop-i-preserved
loop-i-preserved c = range_next (λ page. Leave page ∷ []) c.args.first c.args.pages c.loop-i.i c.args.pieces.now c.loop-i.pieces c.push.new.self c.loop-i-test.true c.loop-i.invariant c.push.ensures
