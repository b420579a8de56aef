use Rattle.wf_units.proofs.RequestLemmas.{byte_unit}
use Rattle.wf_units.proofs.calls.bytes_put_are_units.Goals as goal

pub returns : goal.returns
returns c = byte_unit c.entries_keep_sound.ensures c.journals_keep_sound.ensures
