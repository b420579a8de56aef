use Rattle.wf_sound_laws.proofs.SoundLemmas.{conditionals}
use Rattle.wf_sound_laws.proofs.laws.sound_conditionals_are_alone.Goals as goal

pub returns : goal.returns
returns c = conditionals
