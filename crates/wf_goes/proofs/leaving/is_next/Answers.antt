use Rattle.std.proofs.Common.{◌∙◌, Some, ap, sym}
use Rattle.wf_verdict.specs.declared.work.Todo.{Todo}
use Rattle.wf_goes.proofs.SameLemmas.{events_decide}
use Rattle.wf_goes.proofs.NextLemmas.{next_is}
use Rattle.wf_goes.proofs.leaving.is_next.Goals as goal

pub returns-in-Exactly : goal.returns-in-Exactly
returns-in-Exactly c = λ todo e.
    let next = c.in-Exactly.next in
    next_is c.args.flat.now todo next c.args.event c.eq.result
    (sym (c.in-Some.is ∙ ap (λ (t : Todo). Some t) c.in-Exactly.is) ∙ e)
    (events_decide c.args.event next c.eq.result c.eq.ensures)
