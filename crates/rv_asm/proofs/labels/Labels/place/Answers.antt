use Rattle.std.proofs.Common.{ap, ◌∙◌}
use Rattle.rv_asm.specs.Labels.{place_named}
use Rattle.rv_asm.proofs.PlaceLemmas.{place_within}
use Rattle.rv_asm.proofs.labels.Labels.place.Goals as goal

pub returns-clause-bound : goal.returns-clause-bound
returns-clause-bound c =
    place_within c.args.name.now c.args.self.now c.copied.result
    (c.copied.ensures ∙ c.get.ensures.value ∙ c.self.invariant.find c.args.name.now ∙ ap (place_named c.args.name.now) c.self.view_is)
