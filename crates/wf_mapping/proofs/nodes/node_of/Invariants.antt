use Rattle.std.proofs.Common.{◌≡◌, ◌==◌, ◌&&◌, drop}
use Rattle.std.specs.List.{find}
use Rattle.wf_mapping.proofs.nodes.node_of.Given as goal

abbrev pub invariant-loop-node : goal.invariant-loop-node
invariant-loop-node l = find (λ node. (l.level == node.level) && (l.prefix == node.prefix)) (drop l.node-index l.nodes) ≡ find (λ node. (l.level == node.level) && (l.prefix == node.prefix)) l.nodes
