use Rattle.std.proofs.Common.{◌≡◌, ◌++◌, ◌∷◌, ◌+◌, map, take, vec_len, vec_capacity}
use Rattle.wf_flat.specs.declared.event.Event.TheVariants.{Enter}
use Rattle.wf_request.specs.Requesting.{by_kernel, event_of}
use Rattle.wf_request.proofs.serving.write_all.Given as goal

abbrev pub invariant-loop-next : goal.invariant-loop-next
invariant-loop-next l = record {
  items : l.journal.items ≡ l.fn.journal.items ++ by_kernel Enter ∷ map (λ next. by_kernel (event_of next)) (take l.next-index l.todo);
  len : vec_len l.journal ≡ vec_len l.fn.journal + 1 + l.next-index;
  capacity : vec_capacity l.journal ≡ vec_capacity l.fn.journal;
}
