use Rattle.wf_mapped.proofs.MayLemmas.{map_can}
use Rattle.wf_mapped.proofs.laws.maps_can_be_carried_out.Goals as goal

pub returns : goal.returns
returns c = map_can
