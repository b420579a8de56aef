use Rattle.wf_sound_laws.proofs.SoundLemmas.{determined}
use Rattle.wf_sound_laws.proofs.laws.sound_harts_are_determined.Goals as goal

pub returns : goal.returns
returns c = determined c.entries_keep_sound.ensures
