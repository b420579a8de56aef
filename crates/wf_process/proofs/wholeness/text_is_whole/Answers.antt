use Rattle.std.proofs.Common.{List, subst, sym}
use Rattle.std.specs.List.{AllByRecursion}
use Rattle.wf_outside.specs.Pages.{IsPage, PageValue}
use Rattle.wf_process.proofs.ImageLemmas.{next}
use Rattle.wf_process.proofs.wholeness.text_is_whole.Goals as goal

pub loop-page-preserved : goal.loop-page-preserved
loop-page-preserved c rest =
    let here = next c.args.pages.now c.loop-page.page-index c.page-item.result c.loop-page-test.true c.page-item.is in
    c.loop-page.invariant (subst (λ (xs : List PageValue). AllByRecursion (λ page. IsPage page.number page.words) xs) (sym here) (c.text_page_is_whole.ensures, rest))
