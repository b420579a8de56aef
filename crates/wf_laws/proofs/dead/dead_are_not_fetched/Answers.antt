use Rattle.wf_laws.proofs.DeadLemmas.{unfetched}
use Rattle.wf_laws.proofs.dead.dead_are_not_fetched.Goals as goal

pub returns : goal.returns
returns c = unfetched
