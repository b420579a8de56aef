use Rattle.wf_residents.proofs.AgreeLemmas.{migration_same}
use Rattle.wf_residents.proofs.laws.migration_refusals_agree.Goals as goal

pub returns : goal.returns
returns c = migration_same
