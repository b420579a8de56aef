use Rattle.std.proofs.Common.{false, ◌∷◌, [], sym, ◌∙◌}
use Rattle.wf_effects.specs.Effects.{page_gone}
use Rattle.wf_service.proofs.QuietLemmas.{noted_alone}
use Rattle.wf_service.proofs.carrying.let_go.Goals as goal

pub returns : goal.returns
returns c = λ deltas. c.page_gone.ensures.state ∙ sym (noted_alone (page_gone c.args.flat.now c.args.page false) c.args.hart (c.args.page ∷ []) c.requires.alone)
