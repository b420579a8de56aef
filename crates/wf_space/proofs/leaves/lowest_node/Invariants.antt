use Rattle.std.proofs.Common.{◌≡◌, ◌==◌, ◌&&◌, drop}
use Rattle.std.specs.List.{find}
use Rattle.wf_space.proofs.leaves.lowest_node.Given as goal

abbrev pub invariant-loop-node : goal.invariant-loop-node
invariant-loop-node l = find (λ node. (0 == node.level) && (l.prefix == node.prefix)) (drop l.node-index l.nodes) ≡ find (λ node. (0 == node.level) && (l.prefix == node.prefix)) l.nodes
