use Rattle.wf_access.proofs.ReservationLemmas.{reservations_stay_for}
use Rattle.wf_access.proofs.laws.reservations_stay.Goals as goal

pub returns : goal.returns
returns c = reservations_stay_for
