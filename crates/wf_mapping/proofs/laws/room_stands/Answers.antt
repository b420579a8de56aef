use Rattle.wf_mapping.proofs.RoomLemmas.{room_alike}
use Rattle.wf_mapping.proofs.laws.room_stands.Goals as goal

pub returns : goal.returns
returns c = room_alike
