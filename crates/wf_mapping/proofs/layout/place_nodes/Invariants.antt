use Rattle.std.proofs.Common.{◌≡◌, ◌++◌, drop}
use Rattle.wf_mapping.specs.Nodes.{nodes_placed}
use Rattle.wf_mapping.proofs.layout.place_nodes.Given as goal

abbrev pub invariant-loop-i : goal.invariant-loop-i
invariant-loop-i l = l.nodes.items ++ nodes_placed (drop l.i l.missing) (drop l.i l.frames) ≡ nodes_placed l.missing l.frames
