use Rattle.wf_residents.proofs.AgainLemmas.{leaves_again}
use Rattle.wf_residents.proofs.laws.leaves_can_be_used_again.Goals as goal

pub returns : goal.returns
returns c = leaves_again
