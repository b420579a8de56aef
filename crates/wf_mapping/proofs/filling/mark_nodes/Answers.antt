use Rattle.std.proofs.Common.{get_or}
use Rattle.std.proofs.lemmas.Option.{slice_get-get_or}
use Rattle.wf_mapping.specs.declared.nodes.NewNode.{NewNode}
use Rattle.wf_mapping.specs.Plans.{node_marked}
use Rattle.wf_mapping.proofs.MapLemmas.{made_all, made_next, made_none, made_room}
use Rattle.wf_mapping.proofs.filling.mark_nodes.Goals as goal

abbrev none : NewNode
none = record { generation = 0; node = record { level = 0; prefix = 0; frame = 0 } }

pub loop-node-init : goal.loop-node-init
loop-node-init c = made_none node_marked c.args.nodes.now c.args.changes.now c.requires

pub push-requires : goal.push-requires
push-requires c = made_room node_marked c.args.nodes.now c.loop-node.node-index (get_or c.args.nodes.now c.loop-node.node-index none) c.args.changes.now c.loop-node.changes c.loop-node.invariant (slice_get-get_or c.args.nodes.now c.loop-node.node-index none c.loop-node-test.true)

pub loop-node-preserved : goal.loop-node-preserved
loop-node-preserved c = made_next node_marked c.args.nodes.now c.loop-node.node-index (get_or c.args.nodes.now c.loop-node.node-index none) c.args.changes.now c.loop-node.changes c.push.new.self c.loop-node.invariant (slice_get-get_or c.args.nodes.now c.loop-node.node-index none c.loop-node-test.true) c.push.ensures

pub returns : goal.returns
returns c = made_all node_marked c.args.nodes.now c.loop-node.node-index c.args.changes.now c.loop-node.changes c.loop-node.invariant c.loop-node-test.false
