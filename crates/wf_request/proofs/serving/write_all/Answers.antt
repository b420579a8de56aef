use Rattle.std.proofs.Common.{◌++◌, ◌∷◌, List, map, ap, ◌∙◌, arith}
use Rattle.std.proofs.lemmas.List.{take_all}
use Rattle.wf_flat.specs.declared.event.Event.TheVariants.{Enter}
use Rattle.wf_verdict.specs.declared.work.Todo.{Todo}
use Rattle.wf_request.specs.Requesting.{by_kernel, event_of}
use Rattle.wf_request.proofs.serving.write_all.Goals as goal

pub returns : goal.returns
returns c =
    c.loop-next.invariant.items
    ∙ ap (λ (done : List Todo). c.args.journal.now.items ++ by_kernel Enter ∷ map (λ next. by_kernel (event_of next)) done) (take_all c.loop-next.next-index c.args.todo.now (omega arith))
