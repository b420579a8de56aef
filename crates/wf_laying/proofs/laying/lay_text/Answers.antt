use Rattle.std.proofs.Common.{◌+◌, ◌∙◌, Some, refl, sym, ap}
use Rattle.std.proofs.lemmas.Option.{slice_get-get_or}
use Rattle.wf_outside.specs.Pages.{PageValue}
use Rattle.wf_laying.proofs.LayLemmas.{all_laid, next_so_far, none_so_far}
use Rattle.wf_laying.proofs.laying.lay_text.Goals as goal

pub loop-i-init : goal.loop-i-init
loop-i-init c = none_so_far (λ (page : PageValue). page.words) c.args.words.now c.args.first c.args.pages.now

pub loop-i-preserved : goal.loop-i-preserved
loop-i-preserved c =
    let page : PageValue = c.index-pages-i.result in
    next_so_far (λ (page : PageValue). page.words) c.args.words.now c.loop-i.words c.fill_frame.new.words c.args.first (c.args.first + c.loop-i.i) c.loop-i.i (c.loop-i.i + 1) c.args.pages.now page _ c.loop-i.invariant refl refl c.loop-i-test.true c.requires.few
    (slice_get-get_or c.args.pages.now c.loop-i.i page c.loop-i-test.true ∙ ap Some (sym c.index-pages-i.is)) (c.deref.ensures.value ∙ ap (λ (p : PageValue). p.words) c.page.view_is) c.fill_frame.ensures

pub returns : goal.returns
returns c = all_laid (λ (page : PageValue). page.words) c.args.words.now c.loop-i.words c.args.first c.args.pages.now c.loop-i.i c.loop-i.invariant c.loop-i-test.false
