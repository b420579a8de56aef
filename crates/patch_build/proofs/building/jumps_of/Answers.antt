use Rattle.std.proofs.Common.{ap, ◌∙◌}
use Rattle.patch_build.proofs.BuildLemmas.{fault-same}
use Rattle.patch_build.proofs.building.jumps_of.Goals as goal

pub returns-clause-fault : goal.returns-clause-fault
returns-clause-fault c =
    fault-same c.jumps_of.result _ _ c.args.names.now c.args.area.now _ _ c.in_ok-functions.ensures (c.deref-2.ensures.value ∙ ap (λ p. p.replaces) c.patch.view_is) c.jumps_of.ensures.fault
