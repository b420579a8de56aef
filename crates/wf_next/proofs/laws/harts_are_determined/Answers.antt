use Rattle.wf_next.proofs.DeterminedLemmas.{determined}
use Rattle.wf_next.proofs.laws.harts_are_determined.Goals as goal

pub returns : goal.returns
returns c = determined
