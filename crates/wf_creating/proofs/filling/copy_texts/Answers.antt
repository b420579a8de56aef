use Rattle.std.proofs.Common.{◌≡◌, ◌≤◌, ◌<◌, ◌∙◌, List, [], get_or, length, ap, arith}
use Rattle.std.proofs.lemmas.Option.{slice_get-get_or}
use Rattle.wf_outside.specs.declared.image.Jump.{Jump}
use Rattle.wf_views.specs.declared.plan.Piece.{Piece}
use Rattle.wf_views.specs.declared.plan.Piece.TheVariants.{Copy}
use Rattle.wf_views.specs.declared.view.TextAt.{TextAt}
use Rattle.wf_views.specs.Lists.{pushed}
use Rattle.wf_space.specs.Jobs.{all_pushed}
use Rattle.wf_mapping.proofs.MapLemmas.{made_all, made_next, made_none, made_room}
use Rattle.wf_creating.specs.Plans.{texts_copied}
use Rattle.wf_creating.proofs.TextLemmas.{copied_at, copied_count, map_same}
use Rattle.wf_creating.proofs.filling.copy_texts.Goals as goal

abbrev none : TextAt
none = record { page = 0; frame = 0 }

abbrev same : Piece → Piece
same piece = piece

pub loop-i-init : goal.loop-i-init
loop-i-init c =
    let n : length (texts_copied [] c.args.texts.now c.args.copies.now) ≡ length c.args.copies.now = copied_count [] c.args.texts.now c.args.copies.now c.requires.few in
    let le : length c.args.copies.now ≤ c.args.pieces.now.room = c.requires.room in
    made_none same (texts_copied [] c.args.texts.now c.args.copies.now) c.args.pieces.now (omega arith)

pub push-requires : goal.push-requires
push-requires c =
    let i = c.loop-i.i in
    let few : length c.args.copies.now ≤ length c.args.texts.now = c.requires.few in
    let lt : i < length c.args.copies.now = c.loop-i-test.true in
    let at = copied_at [] c.args.texts.now c.args.copies.now i (get_or c.args.texts.now i none) (get_or c.args.copies.now i none) (slice_get-get_or c.args.texts.now i none (omega arith)) (slice_get-get_or c.args.copies.now i none lt) in
    made_room same (texts_copied [] c.args.texts.now c.args.copies.now) i (Copy (get_or c.args.texts.now i none).frame (get_or c.args.copies.now i none).frame (get_or c.args.copies.now i none).page []) c.args.pieces.now c.loop-i.pieces c.loop-i.invariant at

pub loop-i-preserved : goal.loop-i-preserved
loop-i-preserved c =
    let i = c.loop-i.i in
    let few : length c.args.copies.now ≤ length c.args.texts.now = c.requires.few in
    let lt : i < length c.args.copies.now = c.loop-i-test.true in
    let at = copied_at [] c.args.texts.now c.args.copies.now i (get_or c.args.texts.now i none) (get_or c.args.copies.now i none) (slice_get-get_or c.args.texts.now i none (omega arith)) (slice_get-get_or c.args.copies.now i none lt) in
    made_next same (texts_copied [] c.args.texts.now c.args.copies.now) i (Copy (get_or c.args.texts.now i none).frame (get_or c.args.copies.now i none).frame (get_or c.args.copies.now i none).page []) c.args.pieces.now c.loop-i.pieces c.push.new.self c.loop-i.invariant at
    (c.push.ensures ∙ ap (λ (jumps : List Jump). pushed (Copy (get_or c.args.texts.now i none).frame (get_or c.args.copies.now i none).frame (get_or c.args.copies.now i none).page jumps) c.loop-i.pieces) (c.from_vec.ensures ∙ c.new.ensures.items))

pub returns : goal.returns
returns c =
    let n : length (texts_copied [] c.args.texts.now c.args.copies.now) ≡ length c.args.copies.now = copied_count [] c.args.texts.now c.args.copies.now c.requires.few in
    let le : length c.args.copies.now ≤ c.loop-i.i = c.loop-i-test.false in
    made_all same (texts_copied [] c.args.texts.now c.args.copies.now) c.loop-i.i c.args.pieces.now c.loop-i.pieces c.loop-i.invariant (omega arith)
    ∙ ap (λ (xs : List Piece). all_pushed xs c.args.pieces.now) (map_same (texts_copied [] c.args.texts.now c.args.copies.now))
