use Rattle.wf_sound.proofs.SoundLemmas.{entry_keeps}
use Rattle.wf_sound.proofs.laws.entries_keep_sound.Goals as goal

pub returns : goal.returns
returns c = entry_keeps
