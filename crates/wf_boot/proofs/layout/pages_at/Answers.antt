use Rattle.std.proofs.Common.{◌≡◌, ◌+◌, ◌∙◌, None, Some, drop, refl, sym, ap, subst}
use Rattle.std.proofs.lemmas.Option.{slice_get-get_or}
use Rattle.wf_views.specs.declared.pages.PageAt.{PageAt}
use Rattle.wf_views.specs.Pages.{page_added}
use Rattle.wf_views.specs.Pages as pages
use Rattle.wf_boot.proofs.PageLemmas.{absent, added_next, all_added, drop_next, has_room}
use Rattle.wf_boot.proofs.layout.pages_at.Goals as goal

pub add-requires-clause-absent : goal.add-requires-clause-absent
add-requires-clause-absent c =
    subst (λ (p : PageAt). pages.page_at c.loop-i.made p.page ≡ None) (sym c.page_at.ensures)
    (absent c.args.first c.args.pages.now c.loop-i.i c.loop-i.made c.index-pages-i.result (drop (c.loop-i.i + 1) c.args.pages.now) (c.args.first + c.loop-i.i) c.loop-i.invariant (drop_next c.args.pages.now c.loop-i.i c.index-pages-i.result (slice_get-get_or c.args.pages.now c.loop-i.i c.index-pages-i.result c.loop-i-test.true ∙ ap Some (sym c.index-pages-i.is))) refl c.requires.rising)

pub add-requires-clause-room : goal.add-requires-clause-room
add-requires-clause-room c =
    has_room c.args.first c.args.pages.now c.loop-i.i c.loop-i.made c.index-pages-i.result (drop (c.loop-i.i + 1) c.args.pages.now) (c.args.first + c.loop-i.i) c.loop-i.invariant (drop_next c.args.pages.now c.loop-i.i c.index-pages-i.result (slice_get-get_or c.args.pages.now c.loop-i.i c.index-pages-i.result c.loop-i-test.true ∙ ap Some (sym c.index-pages-i.is))) refl c.requires.rising

pub loop-i-preserved : goal.loop-i-preserved
loop-i-preserved c =
    added_next c.args.first c.args.pages.now c.loop-i.i c.loop-i.made c.index-pages-i.result (drop (c.loop-i.i + 1) c.args.pages.now) (c.args.first + c.loop-i.i) c.loop-i.invariant (drop_next c.args.pages.now c.loop-i.i c.index-pages-i.result (slice_get-get_or c.args.pages.now c.loop-i.i c.index-pages-i.result c.loop-i-test.true ∙ ap Some (sym c.index-pages-i.is))) refl c.requires.rising
    c.add.new.self (c.loop-i.i + 1) refl refl (c.add.ensures ∙ ap (λ (p : PageAt). page_added p c.loop-i.made) c.page_at.ensures)

pub returns : goal.returns
returns c = all_added c.args.first c.args.pages.now c.loop-i.i c.loop-i.made c.loop-i.invariant c.loop-i-test.false
