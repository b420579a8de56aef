use Rattle.std.proofs.Common.{◌∙◌, ap, drop, length}
use Rattle.wf_mapping.specs.Layout.{free_in}
use Rattle.wf_mapping.specs.Nodes.{nodes_placed}
use Rattle.wf_mapping.proofs.LayoutLemmas.{nodes_laid}
use Rattle.wf_creating.specs.Layout.{texts_placed}
use Rattle.wf_creating.proofs.TextLemmas.{texts_laid}
use Rattle.wf_creating.proofs.layout.place_birth.Goals as goal

pub returns-clause-text : goal.returns-clause-text
returns-clause-text c =
    let numbers = c.args.numbers.now in
    c.in_ok-text.ensures ∙ ap (texts_placed numbers) (c.deref.ensures.value ∙ c.in_ok-frames.ensures) ∙ texts_laid numbers (length c.args.missing.now) (free_in c.args.records.now)

pub returns-clause-nodes : goal.returns-clause-nodes
returns-clause-nodes c =
    let numbers = c.args.numbers.now in
    let missing = c.args.missing.now in
    c.in_ok-nodes.ensures ∙ ap (nodes_placed missing) (c.other_frames.ensures ∙ ap (drop (length numbers)) (c.deref-2.ensures.value ∙ c.in_ok-frames.ensures))
    ∙ nodes_laid missing (length numbers) (free_in c.args.records.now)
