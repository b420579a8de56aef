use Rattle.wf_space.proofs.ClearLemmas.{clear_standing}
use Rattle.wf_space.proofs.laws.cleared_stand.Goals as goal

pub returns : goal.returns
returns c = clear_standing
