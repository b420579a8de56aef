use Rattle.wf_residents.proofs.AgreeLemmas.{deletion_same}
use Rattle.wf_residents.proofs.laws.deletion_refusals_agree.Goals as goal

pub returns : goal.returns
returns c = deletion_same
