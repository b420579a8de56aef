use Rattle.wf_units.proofs.AskLemmas.{fault_unit}
use Rattle.wf_units.proofs.instructions.faults_are_units.Goals as goal

pub returns : goal.returns
returns c = fault_unit c.journals_keep_sound.ensures
