use Rattle.wf_created.proofs.StandLemmas.{create_standing}
use Rattle.wf_created.proofs.laws.create_stands.Goals as goal

pub returns : goal.returns
returns c = create_standing
