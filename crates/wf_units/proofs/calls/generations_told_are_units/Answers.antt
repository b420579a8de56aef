use Rattle.wf_units.proofs.RequestLemmas.{told_unit}
use Rattle.wf_units.proofs.calls.generations_told_are_units.Goals as goal

pub returns : goal.returns
returns c = told_unit c.entries_keep_sound.ensures c.journals_keep_sound.ensures
