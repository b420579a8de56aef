use Rattle.wf_laws.proofs.RefusalLemmas.{quiesces}
use Rattle.wf_laws.proofs.refusals.quiesces_are_refused_inside.Goals as goal

pub returns : goal.returns
returns c = quiesces
