use Rattle.wf_views.specs.declared.view.NodeAt.{NodeAt}
use Rattle.wf_space.proofs.GiveLemmas.{left_next}
use Rattle.wf_space.proofs.changing.give_nodes.Goals as goal

abbrev none : NodeAt
none = record { level = 0; prefix = 0; frame = 0 }

pub loop-node-preserved : goal.loop-node-preserved
loop-node-preserved c = left_next (λ x. x.frame) c.args.frames.now c.loop-node.frames c.give.new.self c.args.nodes.now c.loop-node.node-index none c.loop-node.invariant c.loop-node-test.true c.give.ensures
