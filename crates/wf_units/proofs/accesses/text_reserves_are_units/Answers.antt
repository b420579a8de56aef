use Rattle.wf_units.proofs.AccessLemmas.{text_reserve_unit}
use Rattle.wf_units.proofs.accesses.text_reserves_are_units.Goals as goal

pub returns : goal.returns
returns c = text_reserve_unit c.journals_keep_sound.ensures
