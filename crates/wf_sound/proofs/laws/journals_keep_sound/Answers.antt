use Rattle.wf_sound.proofs.SoundLemmas.{journal_keeps}
use Rattle.wf_sound.proofs.laws.journals_keep_sound.Goals as goal

pub returns : goal.returns
returns c = journal_keeps
