use Rattle.wf_run.proofs.LawLemmas.{answers_are_one, reports_are_called_for, reports_are_one}
use Rattle.wf_run.proofs.laws.answers_are_determined.Goals as goal

pub returns-clause-answers : goal.returns-clause-answers
returns-clause-answers c = answers_are_one

pub returns-clause-reports : goal.returns-clause-reports
returns-clause-reports c = reports_are_one c.runs_are_determined.ensures.reports

pub returns-clause-called : goal.returns-clause-called
returns-clause-called c = reports_are_called_for
