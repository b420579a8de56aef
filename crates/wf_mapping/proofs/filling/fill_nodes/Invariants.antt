use Rattle.std.proofs.Common.{◌≡◌, ◌≤◌, ◌-◌, length}
use Rattle.wf_mapping.specs.Plans.{node_filled}
use Rattle.wf_mapping.proofs.MapLemmas.{AreMade}
use Rattle.wf_mapping.proofs.filling.fill_nodes.Given as goal

abbrev pub invariant-loop-node : goal.invariant-loop-node
invariant-loop-node l = record {
  pieces : AreMade (node_filled l.nodes) l.nodes l.node-index l.fn.pieces l.pieces;
  few : length l.nodes ≤ l.fn.blanks;
  blanks : l.blanks ≡ l.fn.blanks - l.node-index;
}
