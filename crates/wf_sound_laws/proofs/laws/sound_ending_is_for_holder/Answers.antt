use Rattle.wf_sound_laws.proofs.SoundLemmas.{endings}
use Rattle.wf_sound_laws.proofs.laws.sound_ending_is_for_holder.Goals as goal

pub returns : goal.returns
returns c = endings
