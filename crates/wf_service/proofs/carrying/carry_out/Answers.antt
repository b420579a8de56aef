use Rattle.std.proofs.Common.{false, rules}
use Rattle.wf_flat.specs.declared.event.Event.TheVariants.{Gone}
use Rattle.wf_service.proofs.GoingLemmas.{ends_calls, ends_light, inside_of, leaves_light, leaves_worn, light_adds}
use Rattle.wf_service.proofs.carrying.carry_out.Goals as goal

pub let_go-requires-clause-room : goal.let_go-requires-clause-room
let_go-requires-clause-room c = leaves_worn c.args.flat.now c.args.hart c.in-Leaves.page c.first_of.result c.args.todo.now c.first_of.ensures c.in-Leaves.is c.requires.left

pub returns-in-Leaves-clause-adds : goal.returns-in-Leaves-clause-adds
returns-in-Leaves-clause-adds c =
    light_adds c.args.flat.now c.let_go.new.flat c.args.hart c.args.todo.now (Gone c.in-Leaves.page false) c.args.journal.now.items c.append.new.journal.items
    (leaves_light c.entries_keep_sound.ensures c.args.flat.now c.let_go.new.flat c.args.hart c.in-Leaves.page c.first_of.result c.args.todo.now c.first_of.ensures c.in-Leaves.is c.let_go.ensures c.requires.left) c.append.ensures.items

pub returns-in-Leaves-clause-left : goal.returns-in-Leaves-clause-left
returns-in-Leaves-clause-left c =
    (leaves_light c.entries_keep_sound.ensures c.args.flat.now c.let_go.new.flat c.args.hart c.in-Leaves.page c.first_of.result c.args.todo.now c.first_of.ensures c.in-Leaves.is c.let_go.ensures c.requires.left).todo_then

pub returns-in-Leaves-clause-harts : goal.returns-in-Leaves-clause-harts
returns-in-Leaves-clause-harts c =
    (leaves_light c.entries_keep_sound.ensures c.args.flat.now c.let_go.new.flat c.args.hart c.in-Leaves.page c.first_of.result c.args.todo.now c.first_of.ensures c.in-Leaves.is c.let_go.ensures c.requires.left).harts

pub returns-in-Exactly-clause-adds : goal.returns-in-Exactly-clause-adds
returns-in-Exactly-clause-adds c =
    light_adds c.args.flat.now c.end_call.new.flat c.args.hart c.args.todo.now c.in-Exactly.event c.args.journal.now.items c.append-in-Exactly.new.journal.items
    (ends_light c.entries_keep_sound.ensures c.args.flat.now c.end_call.new.flat c.args.hart c.in-Exactly.event c.first_of.result c.args.todo.now c.first_of.ensures c.in-Exactly.is c.end_call.ensures c.requires.left) c.append-in-Exactly.ensures.items

pub returns-in-Exactly-clause-left : goal.returns-in-Exactly-clause-left
returns-in-Exactly-clause-left c =
    (ends_light c.entries_keep_sound.ensures c.args.flat.now c.end_call.new.flat c.args.hart c.in-Exactly.event c.first_of.result c.args.todo.now c.first_of.ensures c.in-Exactly.is c.end_call.ensures c.requires.left).todo_then
