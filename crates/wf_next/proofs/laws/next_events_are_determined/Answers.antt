use Rattle.wf_next.proofs.DeterminedLemmas.{next_determined}
use Rattle.wf_next.proofs.laws.next_events_are_determined.Goals as goal

pub returns : goal.returns
returns c = next_determined
