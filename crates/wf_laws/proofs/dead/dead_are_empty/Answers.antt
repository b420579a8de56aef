use Rattle.wf_laws.proofs.DeadLemmas.{empty_at}
use Rattle.wf_laws.proofs.dead.dead_are_empty.Goals as goal

pub returns : goal.returns
returns c = empty_at
