use Rattle.wf_units.proofs.RequestLemmas.{map_unit}
use Rattle.wf_units.proofs.calls.maps_are_units.Goals as goal

pub returns : goal.returns
returns c = map_unit c.entries_keep_sound.ensures c.journals_keep_sound.ensures
