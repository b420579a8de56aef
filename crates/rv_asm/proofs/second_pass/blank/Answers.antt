use Rattle.std.proofs.Common.{ap, ◌∙◌, map, List}
use Rattle.rv_asm.specs.Labels.{LabelValue}
use Rattle.rv_asm.specs.SecondPass.{symbol_of}
use Rattle.rv_asm.proofs.DoneLemmas.{blank_draft}
use Rattle.rv_asm.proofs.second_pass.blank.Goals as goal

pub invariant_of-result : goal.invariant_of-result
invariant_of-result c =
    blank_draft c.args.form c.args.survey.sizes c.args.survey.labels _ c.requires
    (c.in_ok-symbols.ensures.ok ∙ ap (λ (labels : List LabelValue). map (symbol_of c.args.form c.args.survey.sizes) labels) c.entries.ensures)
