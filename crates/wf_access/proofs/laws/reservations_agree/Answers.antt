use Rattle.wf_access.proofs.ReservationLemmas.{reservations_agree_for}
use Rattle.wf_access.proofs.laws.reservations_agree.Goals as goal

pub returns : goal.returns
returns c = reservations_agree_for
