use Rattle.wf_access.proofs.ReservationLemmas.{reserves_are_kept_for}
use Rattle.wf_access.proofs.laws.reserves_are_kept.Goals as goal

pub returns : goal.returns
returns c = reserves_are_kept_for
