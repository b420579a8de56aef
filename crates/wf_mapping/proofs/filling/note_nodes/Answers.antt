use Rattle.std.proofs.Common.{get_or}
use Rattle.std.proofs.lemmas.Option.{slice_get-get_or}
use Rattle.wf_mapping.specs.declared.nodes.NewNode.{NewNode}
use Rattle.wf_mapping.specs.Plans.{node_noted}
use Rattle.wf_mapping.proofs.MapLemmas.{all_end, all_next, all_room, all_start}
use Rattle.wf_mapping.proofs.filling.note_nodes.Goals as goal

abbrev none : NewNode
none = record { generation = 0; node = record { level = 0; prefix = 0; frame = 0 } }

pub loop-node-init : goal.loop-node-init
loop-node-init c = all_start node_noted c.args.nodes.now c.args.changes.now c.requires

pub note_node-requires : goal.note_node-requires
note_node-requires c = all_room node_noted c.args.nodes.now c.loop-node.node-index (get_or c.args.nodes.now c.loop-node.node-index none) c.args.changes.now c.loop-node.changes c.loop-node.invariant (slice_get-get_or c.args.nodes.now c.loop-node.node-index none c.loop-node-test.true)

pub loop-node-preserved : goal.loop-node-preserved
loop-node-preserved c = all_next node_noted c.args.nodes.now c.loop-node.node-index (get_or c.args.nodes.now c.loop-node.node-index none) c.args.changes.now c.loop-node.changes c.note_node.new.changes c.loop-node.invariant (slice_get-get_or c.args.nodes.now c.loop-node.node-index none c.loop-node-test.true) c.note_node.ensures

pub returns : goal.returns
returns c = all_end node_noted c.args.nodes.now c.loop-node.node-index c.args.changes.now c.loop-node.changes c.loop-node.invariant c.loop-node-test.false
