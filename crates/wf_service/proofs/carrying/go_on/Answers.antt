use Rattle.std.proofs.Common.{rules, arith, ◌∙◌, drop}
use Rattle.wf_service.proofs.GoingLemmas.{adds_last, adds_next, take_rest, todo_next}
use Rattle.wf_service.proofs.carrying.go_on.Goals as goal

pub loop-i-preserved : goal.loop-i-preserved
loop-i-preserved c = record {
  room = search rules;
  todo = todo_next c.carry_out.new.flat c.args.hart c.loop-i.i c.args.todo.now _ (take_rest c.args.todo.now c.loop-i.i) c.carry_out.ensures.left;
  adds = λ m before a.
      adds_next c.loop-i.flat c.carry_out.new.flat c.args.hart c.loop-i.i c.args.todo.now _ c.loop-i.journal.items c.carry_out.new.journal.items m before (take_rest c.args.todo.now c.loop-i.i) (c.carry_out.ensures.adds m before) (c.loop-i.invariant.adds m before a);
  harts = c.carry_out.ensures.harts ∙ c.loop-i.invariant.harts;
}

pub returns-clause-adds : goal.returns-clause-adds
returns-clause-adds c =
    adds_last c.args.flat.now c.loop-i.flat c.args.hart c.loop-i.i c.args.todo.now c.args.journal.now.items c.loop-i.journal.items (search rules) c.loop-i.invariant.adds
