use Rattle.std.proofs.Common.{ap, ◌∙◌}
use Rattle.wf_flat.specs.State.{GenState}
use Rattle.wf_request.proofs.ReachLemmas.{reaches_more}
use Rattle.wf_request.proofs.patching.reaches_of.Goals as goal

pub loop-version-preserved : goal.loop-version-preserved
loop-version-preserved c =
    reaches_more c.args.gens.now c.loop-version.version-index c.version-item.result c.loop-version.reaches.items c.push.new.self.items c.in_ok-reach_of.field-0 c.loop-version-test.true c.loop-version.invariant
    (c.in_ok-reach_of.ensures ∙ ap (λ (gen : GenState). gen.reach) c.version-item.is) c.in_ok-push.ensures.items
