use Rattle.std.proofs.Common.{drop}
use Rattle.std.specs.List.{AllByRecursion}
use Rattle.wf_outside.specs.Pages.{IsPage}
use Rattle.wf_process.proofs.wholeness.text_is_whole.Given as goal

abbrev pub invariant-loop-page : goal.invariant-loop-page
invariant-loop-page l =
    AllByRecursion (λ page. IsPage page.number page.words) (drop l.page-index l.pages)
    → AllByRecursion (λ page. IsPage page.number page.words) l.pages
