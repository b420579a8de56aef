use Rattle.wf_sound_laws.proofs.SoundLemmas.{swap_reads}
use Rattle.wf_sound_laws.proofs.laws.sound_swaps_are_latest.Goals as goal

pub returns : goal.returns
returns c = swap_reads (λ word inst. (c.words_are_rows.ensures.row word inst).0) c.entries_keep_sound.ensures
