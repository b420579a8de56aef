use Rattle.std.proofs.Common.{◌≡◌, ◌++◌, drop, map}
use Rattle.wf_mapping.specs.declared.nodes.NewNode.{NewNode}
use Rattle.wf_creating.proofs.layout.table_of.Given as goal

abbrev pub invariant-loop-new : goal.invariant-loop-new
invariant-loop-new l = l.table.items ++ map (λ (new : NewNode). new.node) (drop l.new-index l.nodes) ≡ map (λ (new : NewNode). new.node) l.nodes
