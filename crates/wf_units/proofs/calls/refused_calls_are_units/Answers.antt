use Rattle.wf_units.proofs.RequestLemmas.{refused_unit}
use Rattle.wf_units.proofs.calls.refused_calls_are_units.Goals as goal

pub returns : goal.returns
returns c = refused_unit c.entries_keep_sound.ensures c.journals_keep_sound.ensures
