use Rattle.wf_residents.proofs.AgreeLemmas.{residents_low}
use Rattle.wf_residents.proofs.laws.deletions_can_be_planned.Goals as goal

pub returns : goal.returns
returns c = residents_low
