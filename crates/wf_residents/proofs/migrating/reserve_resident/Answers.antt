use Rattle.wf_residents.proofs.RoomLemmas.{none_roomy}
use Rattle.wf_residents.proofs.migrating.reserve_resident.Goals as goal

pub returns-in_default-clause-ok : goal.returns-in_default-clause-ok
returns-in_default-clause-ok c = none_roomy c.args.records.now c.args.generation (c.live_number.ensures.none c.in_default.is)
