use Rattle.wf_units.proofs.RequestLemmas.{clone_unit}
use Rattle.wf_units.proofs.calls.clones_are_units.Goals as goal

pub returns : goal.returns
returns c = clone_unit c.entries_keep_sound.ensures c.journals_keep_sound.ensures
