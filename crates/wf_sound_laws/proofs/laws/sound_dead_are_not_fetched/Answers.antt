use Rattle.wf_sound_laws.proofs.SoundLemmas.{dead_unfetched}
use Rattle.wf_sound_laws.proofs.laws.sound_dead_are_not_fetched.Goals as goal

pub returns : goal.returns
returns c = dead_unfetched
