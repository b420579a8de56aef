use Rattle.wf_space.proofs.GoingLemmas.{going_standing}
use Rattle.wf_space.proofs.laws.going_stands.Goals as goal

pub returns : goal.returns
returns c = going_standing
