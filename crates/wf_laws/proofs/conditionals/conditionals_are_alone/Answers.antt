use Rattle.wf_laws.proofs.ReservationLemmas.{between}
use Rattle.wf_laws.proofs.conditionals.conditionals_are_alone.Goals as goal

pub returns : goal.returns
returns c = between
