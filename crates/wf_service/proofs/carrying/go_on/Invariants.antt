use Rattle.std.proofs.Common.{◌≡◌, ◌≤◌, ◌+◌, List, drop, length, vec_len, vec_capacity}
use Rattle.wf_flat.specs.declared.event.Entry.{Entry as FlatEntry}
use Rattle.wf_legal.specs.Legal.{Moment}
use Rattle.wf_service.specs.Adding.{Adds}
use Rattle.wf_service.specs.Calling.{HasToDo, IsPartOf, moment_with}
use Rattle.wf_service.proofs.carrying.go_on.Given as goal

abbrev pub invariant-loop-i : goal.invariant-loop-i
invariant-loop-i l = record {
  room : vec_len l.journal + length l.todo ≤ vec_capacity l.journal + l.i;
  todo : HasToDo l.flat l.hart (drop l.i l.todo);
  adds : (m : Moment) (before : List FlatEntry)
      → Adds m before (moment_with m.deltas l.fn.flat (drop 1 l.todo)) l.fn.journal.items (IsPartOf l.hart (drop 1 l.todo))
      → Adds m before (moment_with m.deltas l.flat (drop l.i l.todo)) l.journal.items (IsPartOf l.hart (drop l.i l.todo));
  harts : length l.flat.harts ≡ length l.fn.flat.harts;
}
