use Rattle.wf_units.proofs.PlainLemmas.{run_unit}
use Rattle.wf_units.proofs.instructions.runs_are_units.Goals as goal

pub returns : goal.returns
returns c = run_unit c.journals_keep_sound.ensures
