use Rattle.wf_mapped.proofs.AllowedLemmas.{asked_again}
use Rattle.wf_mapped.proofs.laws.maps_can_be_asked_again.Goals as goal

pub returns : goal.returns
returns c = asked_again
