use Rattle.wf_units.proofs.WriteLemmas.{conditional_unit}
use Rattle.wf_units.proofs.accesses.conditionals_are_units.Goals as goal

pub returns : goal.returns
returns c = conditional_unit c.journals_keep_sound.ensures
