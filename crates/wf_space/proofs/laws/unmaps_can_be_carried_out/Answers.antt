use Rattle.wf_space.proofs.MayLemmas.{unmap_may}
use Rattle.wf_space.proofs.laws.unmaps_can_be_carried_out.Goals as goal

pub returns : goal.returns
returns c = unmap_may
