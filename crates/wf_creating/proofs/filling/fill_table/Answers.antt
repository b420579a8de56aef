use Rattle.std.proofs.Common.{ℕ, List, get_or, arith, ap, ◌∙◌}
use Rattle.std.proofs.lemmas.Option.{slice_get-get_or}
use Rattle.wf_views.specs.declared.plan.Piece.TheVariants.{Fill}
use Rattle.wf_views.specs.Lists.{pushed}
use Rattle.wf_mapping.specs.declared.nodes.NewNode.{NewNode}
use Rattle.wf_mapping.proofs.MapLemmas.{made_all, made_next, made_none, made_room}
use Rattle.wf_creating.specs.Plans.{table_filled}
use Rattle.wf_creating.proofs.filling.fill_table.Goals as goal

abbrev none : NewNode
none = record { generation = 0; node = record { level = 0; prefix = 0; frame = 0 } }

pub loop-new-init : goal.loop-new-init
loop-new-init c = record {
  pieces = made_none (table_filled c.args.nodes.now c.args.text.now) c.args.nodes.now c.args.pieces.now c.requires.room;
  few = c.requires.blanks;
  blanks = omega arith;
}

pub push-requires : goal.push-requires
push-requires c = made_room (table_filled c.args.nodes.now c.args.text.now) c.args.nodes.now c.loop-new.new-index (get_or c.args.nodes.now c.loop-new.new-index none) c.args.pieces.now c.loop-new.pieces c.loop-new.invariant.pieces (slice_get-get_or c.args.nodes.now c.loop-new.new-index none c.loop-new-test.true)

pub loop-new-preserved : goal.loop-new-preserved
loop-new-preserved c = record {
  pieces = made_next (table_filled c.args.nodes.now c.args.text.now) c.args.nodes.now c.loop-new.new-index (get_or c.args.nodes.now c.loop-new.new-index none) c.args.pieces.now c.loop-new.pieces c.push.new.self c.loop-new.invariant.pieces (slice_get-get_or c.args.nodes.now c.loop-new.new-index none c.loop-new-test.true)
      (c.push.ensures ∙ ap (λ (words : List ℕ). pushed (Fill (get_or c.args.nodes.now c.loop-new.new-index none).node.frame words) c.loop-new.pieces) (c.from_vec.ensures ∙ c.words_at_birth-words.ensures.words));
  few = c.loop-new.invariant.few;
  blanks = omega (arith, c.words_at_birth-words.ensures.blanks, c.loop-new.invariant.blanks);
}

pub returns : goal.returns
returns c = made_all (table_filled c.args.nodes.now c.args.text.now) c.args.nodes.now c.loop-new.new-index c.args.pieces.now c.loop-new.pieces c.loop-new.invariant.pieces c.loop-new-test.false
