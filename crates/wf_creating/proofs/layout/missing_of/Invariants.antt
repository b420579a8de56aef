use Rattle.std.proofs.Common.{◌≡◌, ◌++◌, drop, map}
use Rattle.wf_mapping.specs.Nodes.{missing_node}
use Rattle.wf_creating.proofs.layout.missing_of.Given as goal

abbrev pub invariant-loop-node : goal.invariant-loop-node
invariant-loop-node l = l.missing.items ++ map (missing_node l.generation) (drop l.node-index l.nodes) ≡ map (missing_node l.generation) l.nodes
