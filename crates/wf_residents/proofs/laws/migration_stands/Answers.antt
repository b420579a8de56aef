use Rattle.wf_residents.proofs.MoveLemmas.{move_standing}
use Rattle.wf_residents.proofs.laws.migration_stands.Goals as goal

pub returns : goal.returns
returns c = move_standing
