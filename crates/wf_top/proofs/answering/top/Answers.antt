use Rattle.std.proofs.Common.{◌≡◌, ◌∙◌, ap, ℕ, List, Some, Err, rules}
use Rattle.wf_outside.specs.Files.{HasRisen}
use Rattle.wf_top.proofs.TopLemmas.{answer_by, complete_by}
use Rattle.wf_top.proofs.answering.top.Goals as goal

pub returns-clause-complete : goal.returns-clause-complete
returns-clause-complete g c =
    let command : Some c.in-Ok-Some.command ≡ c.in-Ok-Some.field-0 = search rules in
    complete_by c.answers_are_determined.ensures.answers c.args.words.now (g.S.Shelf.holds c.args.shelf.now) c.in-Ok-Some.command c.in-Err-put_output.status
    (λ (name : List ℕ). HasRisen (g.S.Shelf.faults c.args.shelf.now name) (g.S.Shelf.faults c.put_output.new.shelf name))
    (HasRisen (g.K.Sink.faults c.args.sink.now) (g.K.Sink.faults c.put_output.new.sink))
    (command ∙ c.in-Ok-Some.ensures.value) c.in-Err-put_output.ensures.cause (λ e. c.in-Err-put_output.ensures.needed (ap Err e)) (λ e. c.in-Err-put_output.ensures.sink (ap Err e))

pub returns-clause-answer : goal.returns-clause-answer
returns-clause-answer g c =
    let command : Some c.in-Ok-Some.command ≡ c.in-Ok-Some.field-0 = search rules in
    answer_by c.answers_are_determined.ensures.answers c.args.words.now (g.S.Shelf.holds c.args.shelf.now) c.in-Ok-Some.command c.in-Err-put_output.status (command ∙ c.in-Ok-Some.ensures.value)
    c.in-Err-put_output.ensures.cause
