use Rattle.wf_units.proofs.PlainLemmas.{lost_unit}
use Rattle.wf_units.proofs.instructions.lost_fetches_are_units.Goals as goal

pub returns : goal.returns
returns c = lost_unit c.journals_keep_sound.ensures
