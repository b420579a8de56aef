use Rattle.wf_homes.proofs.SmallestLemmas.{smallest_stands}
use Rattle.wf_homes.proofs.laws.smallest_start_stands.Goals as goal

pub returns : goal.returns
returns c = smallest_stands
