use Rattle.wf_created.proofs.MayLemmas.{room_made}
use Rattle.wf_created.proofs.laws.birth_room_is_made.Goals as goal

pub returns : goal.returns
returns c = room_made
