use Rattle.wf_start.proofs.ViewLemmas.{first_stand}
use Rattle.wf_start.proofs.laws.first_stand.Goals as goal

pub returns : goal.returns
returns c = first_stand
