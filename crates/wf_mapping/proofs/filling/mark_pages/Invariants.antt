use Rattle.wf_mapping.specs.Plans.{page_marked}
use Rattle.wf_mapping.proofs.MapLemmas.{AreMade}
use Rattle.wf_mapping.proofs.filling.mark_pages.Given as goal

abbrev pub invariant-loop-page : goal.invariant-loop-page
invariant-loop-page l = AreMade page_marked l.pages l.page-index l.fn.changes l.changes
