use Rattle.wf_start.proofs.StayLemmas.{homes_kept}
use Rattle.wf_start.proofs.laws.homes_stay.Goals as goal

pub returns : goal.returns
returns c = homes_kept
