use Rattle.wf_space.proofs.AlikeLemmas.{harts_stand_for}
use Rattle.wf_space.proofs.laws.harts_stand.Goals as goal

pub returns : goal.returns
returns c = harts_stand_for
