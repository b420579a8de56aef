use Rattle.wf_mapped.proofs.StandLemmas.{map_standing}
use Rattle.wf_mapped.proofs.laws.map_stands.Goals as goal

pub returns : goal.returns
returns c = map_standing
