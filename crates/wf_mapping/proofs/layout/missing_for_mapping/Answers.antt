use Rattle.std.proofs.Common.{◌≡◌, ◌∙◌, ap, subst, List, ℕ, IfOk}
use Rattle.wf_mapping.specs.Layout.{numbers_of}
use Rattle.wf_mapping.specs.Nodes.{missing_from, nodes_for}
use Rattle.wf_mapping.proofs.layout.missing_for_mapping.Goals as goal

pub returns : goal.returns
returns c =
    let views = c.args.records.now.views.views in
    let nodes : c.deref-2.result.now ≡ nodes_for (numbers_of c.args.mapping) =
    c.deref-2.ensures.value ∙ c.in_ok-nodes.ensures ∙ ap nodes_for (c.deref.ensures.value ∙ c.in_ok-numbers.ensures) in
    subst (λ (ns : List (ℕ × ℕ)). IfOk c.missing_nodes.result (λ missing. missing.items ≡ missing_from ns views)) nodes c.missing_nodes.ensures
