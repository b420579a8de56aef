use Rattle.wf_units.proofs.RequestLemmas.{migration_unit}
use Rattle.wf_units.proofs.calls.migrations_are_units.Goals as goal

pub returns : goal.returns
returns c = migration_unit c.entries_keep_sound.ensures c.journals_keep_sound.ensures
