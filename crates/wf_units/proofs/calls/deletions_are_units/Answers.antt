use Rattle.wf_units.proofs.RequestLemmas.{deletion_unit}
use Rattle.wf_units.proofs.calls.deletions_are_units.Goals as goal

pub returns : goal.returns
returns c = deletion_unit c.entries_keep_sound.ensures c.journals_keep_sound.ensures
