use Rattle.std.proofs.Common.{rules}
use Rattle.wf_service.proofs.BeginLemmas.{call_begun, first_can, taken_back, whole_work}
use Rattle.wf_service.proofs.beginning.begin.Goals as goal

pub change-requires : goal.change-requires
change-requires c =
    first_can c.allowed_can_be_made.ensures c.args.deltas.now c.args.flat.now c.args.hart c.args.word c.in_ok-todo.todo.items c.first_event.result c.requires c.in_ok-todo.ensures (search rules)

pub returns-clause-begun : goal.returns-clause-begun
returns-clause-begun c = record {
  event = c.first_event.result;
  first = search rules;
  whole = whole_work c.args.deltas.now c.args.flat.now c.args.hart c.args.word c.in_ok-todo.todo.items c.requires c.in_ok-todo.ensures;
  changed = search rules;
}
