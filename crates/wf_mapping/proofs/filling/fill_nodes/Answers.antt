use Rattle.std.proofs.Common.{ℕ, List, get_or, arith, ap, ◌∙◌}
use Rattle.std.proofs.lemmas.Option.{slice_get-get_or}
use Rattle.wf_mapping.specs.declared.nodes.NewNode.{NewNode}
use Rattle.wf_mapping.specs.Plans.{node_filled}
use Rattle.wf_views.specs.declared.plan.Piece.TheVariants.{Fill}
use Rattle.wf_views.specs.Lists.{pushed}
use Rattle.wf_mapping.proofs.MapLemmas.{made_all, made_next, made_none, made_room}
use Rattle.wf_mapping.proofs.filling.fill_nodes.Goals as goal

abbrev none : NewNode
none = record { generation = 0; node = record { level = 0; prefix = 0; frame = 0 } }

pub loop-node-init : goal.loop-node-init
loop-node-init c = record {
  pieces = made_none (node_filled c.args.nodes.now) c.args.nodes.now c.args.pieces.now c.requires.room;
  few = c.requires.blanks;
  blanks = omega arith;
}

pub push-requires : goal.push-requires
push-requires c = made_room (node_filled c.args.nodes.now) c.args.nodes.now c.loop-node.node-index (get_or c.args.nodes.now c.loop-node.node-index none) c.args.pieces.now c.loop-node.pieces c.loop-node.invariant.pieces (slice_get-get_or c.args.nodes.now c.loop-node.node-index none c.loop-node-test.true)

pub loop-node-preserved : goal.loop-node-preserved
loop-node-preserved c = record {
  pieces = made_next (node_filled c.args.nodes.now) c.args.nodes.now c.loop-node.node-index (get_or c.args.nodes.now c.loop-node.node-index none) c.args.pieces.now c.loop-node.pieces c.push.new.self c.loop-node.invariant.pieces (slice_get-get_or c.args.nodes.now c.loop-node.node-index none c.loop-node-test.true)
      (c.push.ensures ∙ ap (λ (words : List ℕ). pushed (Fill (get_or c.args.nodes.now c.loop-node.node-index none).node.frame words) c.loop-node.pieces) (c.from_vec.ensures ∙ c.words_of_node-words.ensures.words));
  few = c.loop-node.invariant.few;
  blanks = omega (arith, c.words_of_node-words.ensures.blanks, c.loop-node.invariant.blanks);
}

pub returns : goal.returns
returns c = record { pieces = made_all (node_filled c.args.nodes.now) c.args.nodes.now c.loop-node.node-index c.args.pieces.now c.loop-node.pieces c.loop-node.invariant.pieces c.loop-node-test.false }
