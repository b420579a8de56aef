use Rattle.wf_access.proofs.WholeLemmas.{last_looks_stand_for}
use Rattle.wf_access.proofs.laws.last_looks_stand.Goals as goal

pub returns : goal.returns
returns c = last_looks_stand_for
