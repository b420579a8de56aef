use Rattle.wf_units.proofs.WriteLemmas.{store_unit}
use Rattle.wf_units.proofs.accesses.stores_are_units.Goals as goal

pub returns : goal.returns
returns c = store_unit c.journals_keep_sound.ensures
