use Rattle.wf_created.proofs.MayLemmas.{births_may}
use Rattle.wf_created.proofs.laws.births_may_be.Goals as goal

pub returns : goal.returns
returns c = births_may
