use Rattle.wf_residents.proofs.DeadLemmas.{dead_standing}
use Rattle.wf_residents.proofs.laws.dead_stands.Goals as goal

pub returns : goal.returns
returns c = dead_standing
