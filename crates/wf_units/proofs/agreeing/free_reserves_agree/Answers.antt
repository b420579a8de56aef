use Rattle.wf_units.proofs.AgreeLemmas.{free_reserves}
use Rattle.wf_units.proofs.agreeing.free_reserves_agree.Goals as goal

pub returns : goal.returns
returns c = free_reserves
