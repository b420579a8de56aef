use Rattle.wf_mapped.proofs.AllowedLemmas.{may_be_done}
use Rattle.wf_mapped.proofs.laws.maps_may_be_done.Goals as goal

pub returns : goal.returns
returns c = may_be_done
