use Rattle.wf_start.proofs.FirstLemmas.{come_first}
use Rattle.wf_start.proofs.laws.homes_come_first.Goals as goal

pub returns : goal.returns
returns c = come_first
