use Rattle.std.proofs.Common.{◌+◌, ◌++◌, ◌∷◌, ◌∙◌, ℕ, Some, [], drop, refl, sym, ap}
use Rattle.std.proofs.lemmas.Option.{slice_get-get_or}
use Rattle.wf_outside.specs.Pages.{PageValue}
use Rattle.wf_views.specs.declared.view.TextAt.{TextAt}
use Rattle.wf_start.specs.Layout.{text_from}
use Rattle.wf_start.proofs.FirstLemmas.{from_next}
use Rattle.wf_boot.proofs.PageLemmas.{drop_next}
use Rattle.wf_boot.proofs.layout.text_at.Goals as goal

abbrev made : ℕ → PageValue → TextAt
made frame page = record { page = page.number; frame = frame }

pub loop-i-preserved : goal.loop-i-preserved
loop-i-preserved c =
    let page : PageValue = c.index-pages-i.result in
    from_next made c.args.first c.loop-i.i (c.args.first + c.loop-i.i) c.loop-i.text.items c.push.new.self.items (text_from c.args.first c.args.pages.now) page (drop c.loop-i.i c.args.pages.now) (drop (c.loop-i.i + 1) c.args.pages.now)
    (drop_next c.args.pages.now c.loop-i.i page (slice_get-get_or c.args.pages.now c.loop-i.i page c.loop-i-test.true ∙ ap Some (sym c.index-pages-i.is))) refl (c.in_ok-push.ensures.items ∙ ap (λ (t : TextAt). c.loop-i.text.items ++ t ∷ []) c.text_in.ensures) c.loop-i.invariant
