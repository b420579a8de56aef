use Rattle.wf_sound.proofs.MadeLemmas.{sound_within}
use Rattle.wf_sound.proofs.laws.sound_is_within_limits.Goals as goal

pub returns : goal.returns
returns c = sound_within
