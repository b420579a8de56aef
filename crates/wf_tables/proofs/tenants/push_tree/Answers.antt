use Rattle.std.proofs.Common.{◌∙◌, ◌++◌, ℕ, List, None, ap, map}
use Rattle.wf_homes.specs.Homes.{NodeOf}
use Rattle.wf_tables.specs.Nodes.{walked}
use Rattle.wf_tables.specs.Values.{tenant_value}
use Rattle.wf_tables.proofs.NodeLemmas.{one_more, walked_tree}
use Rattle.wf_tables.proofs.tenants.push_tree.Goals as goal

pub returns : goal.returns
returns c =
    let g = c.args.generation in
    let before = map tenant_value c.args.out.now.items in
    let rest = map (λ (node : ℕ × ℕ). NodeOf g node.0 node.1) (walked None c.args.reach.now) in
    c.in_ok-push_walked.ensures
    ∙ one_more before (map tenant_value c.push_node.new.out.items) rest (NodeOf g 2 0) c.in_ok-push_node.ensures
    ∙ ap (λ (ns : List (ℕ × ℕ)). before ++ map (λ (node : ℕ × ℕ). NodeOf g node.0 node.1) ns) (walked_tree c.args.reach.now c.requires)
