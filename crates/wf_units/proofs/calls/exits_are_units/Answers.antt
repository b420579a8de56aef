use Rattle.wf_units.proofs.RequestLemmas.{exit_unit}
use Rattle.wf_units.proofs.calls.exits_are_units.Goals as goal

pub returns : goal.returns
returns c = exit_unit c.entries_keep_sound.ensures c.journals_keep_sound.ensures
