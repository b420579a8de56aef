use Rattle.std.proofs.Common.{false, get_or}
use Rattle.std.proofs.lemmas.Option.{slice_get-get_or}
use Rattle.wf_views.specs.declared.pages.PageAt.{PageAt}
use Rattle.wf_mapping.specs.Plans.{page_live}
use Rattle.wf_mapping.proofs.MapLemmas.{made_all, made_next, made_none, made_room}
use Rattle.wf_mapping.proofs.filling.make_pages_live.Goals as goal

abbrev none : PageAt
none = record { page = 0; write = false; frame = 0; going = false; ending = false }

pub loop-page-init : goal.loop-page-init
loop-page-init c = made_none page_live c.args.pages.now c.args.pieces.now c.requires

pub push-requires : goal.push-requires
push-requires c = made_room page_live c.args.pages.now c.loop-page.page-index (get_or c.args.pages.now c.loop-page.page-index none) c.args.pieces.now c.loop-page.pieces c.loop-page.invariant (slice_get-get_or c.args.pages.now c.loop-page.page-index none c.loop-page-test.true)

pub loop-page-preserved : goal.loop-page-preserved
loop-page-preserved c = made_next page_live c.args.pages.now c.loop-page.page-index (get_or c.args.pages.now c.loop-page.page-index none) c.args.pieces.now c.loop-page.pieces c.push.new.self c.loop-page.invariant (slice_get-get_or c.args.pages.now c.loop-page.page-index none c.loop-page-test.true) c.push.ensures

pub returns : goal.returns
returns c = made_all page_live c.args.pages.now c.loop-page.page-index c.args.pieces.now c.loop-page.pieces c.loop-page.invariant c.loop-page-test.false
