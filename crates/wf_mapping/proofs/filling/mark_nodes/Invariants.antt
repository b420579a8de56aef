use Rattle.wf_mapping.specs.Plans.{node_marked}
use Rattle.wf_mapping.proofs.MapLemmas.{AreMade}
use Rattle.wf_mapping.proofs.filling.mark_nodes.Given as goal

abbrev pub invariant-loop-node : goal.invariant-loop-node
invariant-loop-node l = AreMade node_marked l.nodes l.node-index l.fn.changes l.changes
