use Rattle.wf_units.proofs.RequestLemmas.{quiesce_unit}
use Rattle.wf_units.proofs.calls.quiesces_are_units.Goals as goal

pub returns : goal.returns
returns c = quiesce_unit c.entries_keep_sound.ensures c.journals_keep_sound.ensures
