use Rattle.std.proofs.Common.{◌≡◌, ◌∙◌, ◌++◌, List, [], sym, ap, drop}
use Rattle.std.proofs.lemmas.List.{append-nil}
use Rattle.wf_space.proofs.PushLemmas.{drop_all}
use Rattle.wf_mapping.specs.declared.nodes.NewNode.{NewNode}
use Rattle.wf_mapping.specs.Nodes.{nodes_placed}
use Rattle.wf_mapping.proofs.MissLemmas.{none_placed}
use Rattle.wf_mapping.proofs.layout.place_nodes.Goals as goal

pub returns : goal.returns
returns c =
    let none : nodes_placed (drop c.loop-i.i c.args.missing.now) (drop c.loop-i.i c.args.frames.now) ≡ [] = ap (nodes_placed (drop c.loop-i.i c.args.missing.now)) (drop_all c.args.frames.now c.loop-i.i c.loop-i-test.false) ∙ none_placed (drop c.loop-i.i c.args.missing.now) in
    sym (append-nil c.loop-i.nodes.items) ∙ sym (ap (λ (ns : List NewNode). c.loop-i.nodes.items ++ ns) none) ∙ c.loop-i.invariant
