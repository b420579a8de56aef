use Rattle.std.proofs.Common.{get_or}
use Rattle.std.proofs.lemmas.Option.{slice_get-get_or}
use Rattle.wf_mapping.specs.declared.nodes.NewNode.{NewNode}
use Rattle.wf_mapping.specs.Plans.{pointer_stored}
use Rattle.wf_mapping.proofs.MapLemmas.{all_end, all_next, all_room, all_start}
use Rattle.wf_mapping.proofs.filling.store_pointers.Goals as goal

abbrev none : NewNode
none = record { generation = 0; node = record { level = 0; prefix = 0; frame = 0 } }

pub loop-node-init : goal.loop-node-init
loop-node-init c = all_start (pointer_stored c.args.records.now) c.args.nodes.now c.args.pieces.now c.requires

pub store_pointer-requires : goal.store_pointer-requires
store_pointer-requires c = all_room (pointer_stored c.args.records.now) c.args.nodes.now c.loop-node.node-index (get_or c.args.nodes.now c.loop-node.node-index none) c.args.pieces.now c.loop-node.pieces c.loop-node.invariant (slice_get-get_or c.args.nodes.now c.loop-node.node-index none c.loop-node-test.true)

pub loop-node-preserved : goal.loop-node-preserved
loop-node-preserved c = all_next (pointer_stored c.args.records.now) c.args.nodes.now c.loop-node.node-index (get_or c.args.nodes.now c.loop-node.node-index none) c.args.pieces.now c.loop-node.pieces c.store_pointer.new.pieces c.loop-node.invariant (slice_get-get_or c.args.nodes.now c.loop-node.node-index none c.loop-node-test.true) c.store_pointer.ensures

pub returns : goal.returns
returns c = all_end (pointer_stored c.args.records.now) c.args.nodes.now c.loop-node.node-index c.args.pieces.now c.loop-node.pieces c.loop-node.invariant c.loop-node-test.false
