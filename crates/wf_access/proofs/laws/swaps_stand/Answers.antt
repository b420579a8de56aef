use Rattle.wf_access.proofs.WholeLemmas.{swaps_stand_for}
use Rattle.wf_access.proofs.laws.swaps_stand.Goals as goal

pub returns : goal.returns
returns c = swaps_stand_for
