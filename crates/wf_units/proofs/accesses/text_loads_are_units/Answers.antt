use Rattle.wf_units.proofs.AccessLemmas.{text_load_unit}
use Rattle.wf_units.proofs.accesses.text_loads_are_units.Goals as goal

pub returns : goal.returns
returns c = text_load_unit c.journals_keep_sound.ensures
