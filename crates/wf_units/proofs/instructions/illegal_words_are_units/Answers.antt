use Rattle.wf_units.proofs.PlainLemmas.{illegal_unit}
use Rattle.wf_units.proofs.instructions.illegal_words_are_units.Goals as goal

pub returns : goal.returns
returns c = illegal_unit c.journals_keep_sound.ensures
