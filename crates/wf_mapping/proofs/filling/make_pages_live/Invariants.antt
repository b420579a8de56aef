use Rattle.wf_mapping.specs.Plans.{page_live}
use Rattle.wf_mapping.proofs.MapLemmas.{AreMade}
use Rattle.wf_mapping.proofs.filling.make_pages_live.Given as goal

abbrev pub invariant-loop-page : goal.invariant-loop-page
invariant-loop-page l = AreMade page_live l.pages l.page-index l.fn.pieces l.pieces
