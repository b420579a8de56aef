use Rattle.wf_creating.proofs.RoomLemmas.{birth_room_alike}
use Rattle.wf_creating.proofs.laws.birth_room_stands.Goals as goal

pub returns : goal.returns
returns c = birth_room_alike
