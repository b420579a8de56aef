use Rattle.wf_space.proofs.CountLemmas.{unmap_room}
use Rattle.wf_space.proofs.planning.prepare_unmap.Goals as goal

pub returns-in-Some-clause-room : goal.returns-in-Some-clause-room
returns-in-Some-clause-room c = unmap_room c.args.records.now c.args.va c.args.pages c.in-Some.pieces c.plan_with.result c.in-Some.ensures c.plan_with.ensures.pieces c.plan_with.ensures.changes
