use Rattle.wf_residents.proofs.EndViewLemmas.{dead_may}
use Rattle.wf_residents.proofs.laws.deletions_can_be_made.Goals as goal

pub returns : goal.returns
returns c = dead_may
