use Rattle.wf_access.proofs.WholeLemmas.{puts_stand_for}
use Rattle.wf_access.proofs.laws.puts_stand.Goals as goal

pub returns : goal.returns
returns c = puts_stand_for
