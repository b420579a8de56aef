use Rattle.wf_mapping.proofs.MapLemmas.{AreMade}
use Rattle.wf_creating.specs.Plans.{text_marked}
use Rattle.wf_creating.proofs.filling.mark_texts.Given as goal

abbrev pub invariant-loop-page : goal.invariant-loop-page
invariant-loop-page l = AreMade text_marked l.text l.page-index l.fn.changes l.changes
