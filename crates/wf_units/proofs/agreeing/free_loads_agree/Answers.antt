use Rattle.wf_units.proofs.AgreeLemmas.{free_loads}
use Rattle.wf_units.proofs.agreeing.free_loads_agree.Goals as goal

pub returns : goal.returns
returns c = free_loads
