use Rattle.wf_units.proofs.RequestLemmas.{unmap_unit}
use Rattle.wf_units.proofs.calls.unmaps_are_units.Goals as goal

pub returns : goal.returns
returns c = unmap_unit c.entries_keep_sound.ensures c.journals_keep_sound.ensures
