use Rattle.std.proofs.Common.{drop}
use Rattle.wf_mapping.specs.Plans.{pointer_stored}
use Rattle.wf_space.proofs.PushLemmas.{ArePushed}
use Rattle.wf_mapping.proofs.filling.store_pointers.Given as goal

abbrev pub invariant-loop-node : goal.invariant-loop-node
invariant-loop-node l = ArePushed (pointer_stored l.records) (drop l.node-index l.nodes) l.nodes l.fn.pieces l.pieces
