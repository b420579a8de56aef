use Rattle.wf_top.proofs.LawLemmas.{answers_are_one, outputs_are_called_for, outputs_are_one}
use Rattle.wf_top.proofs.laws.answers_are_determined.Goals as goal

pub returns-clause-answers : goal.returns-clause-answers
returns-clause-answers c =
    answers_are_one c.answers_are_determined.ensures.answers c.checks_are_determined.ensures.answers

pub returns-clause-outputs : goal.returns-clause-outputs
returns-clause-outputs c = outputs_are_one c.harts_are_determined.ensures c.answers_are_determined.ensures.reports c.checks_are_determined.ensures.counts

pub returns-clause-called : goal.returns-clause-called
returns-clause-called c = outputs_are_called_for c.answers_are_determined.ensures.called c.checks_are_determined.ensures.called
