use Rattle.wf_residents.proofs.HartLemmas.{stop_standing}
use Rattle.wf_residents.proofs.laws.stop_stands.Goals as goal

pub returns : goal.returns
returns c = stop_standing
