use Rattle.wf_units.proofs.AccessLemmas.{reserve_unit}
use Rattle.wf_units.proofs.accesses.reserves_are_units.Goals as goal

pub returns : goal.returns
returns c = reserve_unit c.journals_keep_sound.ensures
