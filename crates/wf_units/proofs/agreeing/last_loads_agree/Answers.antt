use Rattle.wf_units.proofs.AgreeLemmas.{last_loads}
use Rattle.wf_units.proofs.agreeing.last_loads_agree.Goals as goal

pub returns : goal.returns
returns c = last_loads
