use Rattle.std.proofs.Common.{ap}
use Rattle.wf_views.specs.declared.records.Records.{Records}
use Rattle.wf_views.specs.Views.{ViewsValue}
use Rattle.wf_space.proofs.RoomLemmas.{room_made}
use Rattle.wf_space.proofs.planning.prepare_sync.Goals as goal

pub returns-clause-room : goal.returns-clause-room
returns-clause-room c =
    room_made c.args.records.now (record c.args.records.now { views = c.reserve_met.new.self }) c.args.generation c.args.page c.in_ok-plan.plan c.requires
    (ap (λ (v : ViewsValue). let q : Records = record c.args.records.now { views = v } in q) c.in_ok-reserve_met.ensures.ok) c.in_ok-plan.ensures.pieces c.in_ok-plan.ensures.changes
