use Rattle.wf_units.proofs.AgreeLemmas.{last_reserves}
use Rattle.wf_units.proofs.agreeing.last_reserves_agree.Goals as goal

pub returns : goal.returns
returns c = last_reserves
