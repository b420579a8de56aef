use Rattle.wf_mapped.proofs.RoomLemmas.{room_made}
use Rattle.wf_mapped.proofs.laws.room_is_made.Goals as goal

pub returns : goal.returns
returns c = room_made
