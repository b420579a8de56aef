use Rattle.wf_space.proofs.UnmapLemmas.{unmap_standing}
use Rattle.wf_space.proofs.laws.unmap_stands.Goals as goal

pub returns : goal.returns
returns c = unmap_standing
