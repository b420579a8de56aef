use Rattle.wf_residents.proofs.HartLemmas.{room_standing}
use Rattle.wf_residents.proofs.laws.resident_room_stands.Goals as goal

pub returns : goal.returns
returns c = room_standing
