use Rattle.wf_units.proofs.AccessLemmas.{load_unit}
use Rattle.wf_units.proofs.accesses.loads_are_units.Goals as goal

pub returns : goal.returns
returns c = load_unit c.journals_keep_sound.ensures
