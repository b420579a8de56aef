use Rattle.wf_units.proofs.WriteLemmas.{swap_unit}
use Rattle.wf_units.proofs.accesses.swaps_are_units.Goals as goal

pub returns : goal.returns
returns c = swap_unit c.journals_keep_sound.ensures
