use Rattle.wf_views.specs.declared.plan.Change.TheVariants.{Page}
use Rattle.wf_mapping.proofs.MapLemmas.{AreMade}
use Rattle.wf_mapping.proofs.filling.note_pages.Given as goal

abbrev pub invariant-loop-page : goal.invariant-loop-page
invariant-loop-page l = AreMade Page l.pages l.page-index l.fn.changes l.changes
