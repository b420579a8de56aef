use Rattle.std.proofs.Common.{ℕ, List, false, get_or, arith, ap, ◌∙◌}
use Rattle.std.proofs.lemmas.Option.{slice_get-get_or}
use Rattle.wf_views.specs.declared.pages.PageAt.{PageAt}
use Rattle.wf_mapping.specs.Plans.{page_filled}
use Rattle.wf_views.specs.declared.plan.Piece.TheVariants.{Fill}
use Rattle.wf_views.specs.Lists.{pushed}
use Rattle.wf_mapping.proofs.MapLemmas.{made_all, made_next, made_none, made_room}
use Rattle.wf_mapping.proofs.filling.fill_pages.Goals as goal

abbrev none : PageAt
none = record { page = 0; write = false; frame = 0; going = false; ending = false }

pub loop-page-init : goal.loop-page-init
loop-page-init c = record {
  pieces = made_none page_filled c.args.pages.now c.args.pieces.now c.requires.room;
  few = c.requires.blanks;
  blanks = omega arith;
}

pub push-requires : goal.push-requires
push-requires c = made_room page_filled c.args.pages.now c.loop-page.page-index (get_or c.args.pages.now c.loop-page.page-index none) c.args.pieces.now c.loop-page.pieces c.loop-page.invariant.pieces (slice_get-get_or c.args.pages.now c.loop-page.page-index none c.loop-page-test.true)

pub loop-page-preserved : goal.loop-page-preserved
loop-page-preserved c = record {
  pieces = made_next page_filled c.args.pages.now c.loop-page.page-index (get_or c.args.pages.now c.loop-page.page-index none) c.args.pieces.now c.loop-page.pieces c.push.new.self c.loop-page.invariant.pieces (slice_get-get_or c.args.pages.now c.loop-page.page-index none c.loop-page-test.true)
      (c.push.ensures ∙ ap (λ (words : List ℕ). pushed (Fill (get_or c.args.pages.now c.loop-page.page-index none).frame words) c.loop-page.pieces) (c.from_vec.ensures ∙ c.take-words.ensures.page));
  few = c.loop-page.invariant.few;
  blanks = omega (arith, c.take-words.ensures.rest, c.loop-page.invariant.blanks);
}

pub returns-clause-pieces : goal.returns-clause-pieces
returns-clause-pieces c = made_all page_filled c.args.pages.now c.loop-page.page-index c.args.pieces.now c.loop-page.pieces c.loop-page.invariant.pieces c.loop-page-test.false
