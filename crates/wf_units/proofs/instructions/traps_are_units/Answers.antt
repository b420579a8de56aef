use Rattle.wf_units.proofs.PlainLemmas.{wanted_trap_unit}
use Rattle.wf_units.proofs.instructions.traps_are_units.Goals as goal

pub returns : goal.returns
returns c = wanted_trap_unit c.journals_keep_sound.ensures
