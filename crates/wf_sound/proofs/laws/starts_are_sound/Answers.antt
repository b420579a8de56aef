use Rattle.wf_sound.proofs.StartLemmas.{start_sound}
use Rattle.wf_sound.proofs.laws.starts_are_sound.Goals as goal

pub returns : goal.returns
returns c = start_sound
