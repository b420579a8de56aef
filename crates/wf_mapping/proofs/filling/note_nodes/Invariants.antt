use Rattle.std.proofs.Common.{drop}
use Rattle.wf_mapping.specs.Plans.{node_noted}
use Rattle.wf_space.proofs.PushLemmas.{ArePushed}
use Rattle.wf_mapping.proofs.filling.note_nodes.Given as goal

abbrev pub invariant-loop-node : goal.invariant-loop-node
invariant-loop-node l = ArePushed node_noted (drop l.node-index l.nodes) l.nodes l.fn.changes l.changes
