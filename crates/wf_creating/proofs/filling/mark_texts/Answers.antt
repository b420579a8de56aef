use Rattle.std.proofs.Common.{get_or}
use Rattle.std.proofs.lemmas.Option.{slice_get-get_or}
use Rattle.wf_views.specs.declared.view.TextAt.{TextAt}
use Rattle.wf_mapping.proofs.MapLemmas.{made_all, made_next, made_none, made_room}
use Rattle.wf_creating.specs.Plans.{text_marked}
use Rattle.wf_creating.proofs.filling.mark_texts.Goals as goal

abbrev none : TextAt
none = record { page = 0; frame = 0 }

pub loop-page-init : goal.loop-page-init
loop-page-init c = made_none text_marked c.args.text.now c.args.changes.now c.requires

pub push-requires : goal.push-requires
push-requires c = made_room text_marked c.args.text.now c.loop-page.page-index (get_or c.args.text.now c.loop-page.page-index none) c.args.changes.now c.loop-page.changes c.loop-page.invariant (slice_get-get_or c.args.text.now c.loop-page.page-index none c.loop-page-test.true)

pub loop-page-preserved : goal.loop-page-preserved
loop-page-preserved c = made_next text_marked c.args.text.now c.loop-page.page-index (get_or c.args.text.now c.loop-page.page-index none) c.args.changes.now c.loop-page.changes c.push.new.self c.loop-page.invariant (slice_get-get_or c.args.text.now c.loop-page.page-index none c.loop-page-test.true) c.push.ensures

pub returns : goal.returns
returns c = made_all text_marked c.args.text.now c.loop-page.page-index c.args.changes.now c.loop-page.changes c.loop-page.invariant c.loop-page-test.false
