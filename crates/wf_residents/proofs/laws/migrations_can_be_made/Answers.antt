use Rattle.wf_residents.proofs.MoveLemmas.{move_may}
use Rattle.wf_residents.proofs.laws.migrations_can_be_made.Goals as goal

pub returns : goal.returns
returns c = move_may
