use Rattle.std.proofs.Common.{◌≤◌}
use Rattle.wf_space.proofs.CountLemmas.{going_room, leave_room}
use Rattle.wf_space.proofs.planning.plan_unmap.Goals as goal

pub leave_pages-requires-clause-room : goal.leave_pages-requires-clause-room
leave_pages-requires-clause-room c = rw c.clear_pages.ensures (leave_room c.args.records.now c.args.va c.args.pages c.args.plan.now.pieces.room c.requires.room.pieces)

pub set_going-requires-clause-room : goal.set_going-requires-clause-room
set_going-requires-clause-room c = (let k : c.args.pages ≤ c.args.plan.now.changes.room = going_room c.args.records.now c.args.va c.args.pages c.args.plan.now c.requires.room in k)
