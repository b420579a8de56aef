use Rattle.wf_space.proofs.GiveLemmas.{AreLeft}
use Rattle.wf_space.proofs.changing.give_nodes.Given as goal

abbrev pub invariant-loop-node : goal.invariant-loop-node
invariant-loop-node l = AreLeft (λ x. x.frame) l.fn.frames l.frames l.nodes l.node-index
