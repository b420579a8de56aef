use Rattle.wf_laws.proofs.RefusalLemmas.{migrates}
use Rattle.wf_laws.proofs.refusals.migrates_are_refused_inside.Goals as goal

pub returns : goal.returns
returns c = migrates
