use Rattle.std.proofs.Common.{◌∙◌}
use Rattle.patch_build.proofs.BuildLemmas.{built_with-is, delta-same}
use Rattle.patch_build.proofs.building.built_with.Goals as goal

pub returns-clause-built : goal.returns-clause-built
returns-clause-built c =
    built_with-is c.args.object.now c.args.starts c.args.places.now _ c.args.jumps.items _ _
    (c.in_ok-delta_with.ensures ∙ delta-same c.args.starts _ _ _ _ c.args.jumps.items c.sections-sections.ensures.value (c.deref-2.ensures.value ∙ c.in_ok-linked.ensures.linked))
    c.in_ok-names_of.ensures
