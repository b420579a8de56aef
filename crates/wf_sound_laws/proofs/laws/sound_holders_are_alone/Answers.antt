use Rattle.wf_sound_laws.proofs.SoundLemmas.{alone_in}
use Rattle.wf_sound_laws.proofs.laws.sound_holders_are_alone.Goals as goal

pub returns : goal.returns
returns c = alone_in c.entries_keep_sound.ensures
