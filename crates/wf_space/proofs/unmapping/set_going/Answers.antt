use Rattle.std.proofs.Common.{◌∷◌, []}
use Rattle.wf_views.specs.declared.plan.Change.TheVariants.{Going}
use Rattle.wf_space.proofs.PushLemmas.{range_next, singles_pushed}
use Rattle.wf_space.proofs.unmapping.set_going.Goals as goal

pub loop-i-init : goal.loop-i-init
loop-i-init c = singles_pushed Going c.args.first c.args.pages c.args.changes.now c.requires.room

pub loop-i-preserved : goal.loop-i-preserved
loop-i-preserved c = range_next (λ page. Going page ∷ []) c.args.first c.args.pages c.loop-i.i c.args.changes.now c.loop-i.changes c.push.new.self c.loop-i-test.true c.loop-i.invariant c.push.ensures
