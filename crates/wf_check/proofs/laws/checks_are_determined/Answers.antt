use Rattle.wf_check.proofs.OneLemmas.{accepted_are_called_for, checks_are_one, counts_are_one}
use Rattle.wf_check.proofs.laws.checks_are_determined.Goals as goal

pub returns-clause-answers : goal.returns-clause-answers
returns-clause-answers c = checks_are_one

pub returns-clause-counts : goal.returns-clause-counts
returns-clause-counts c = counts_are_one

pub returns-clause-called : goal.returns-clause-called
returns-clause-called c = accepted_are_called_for
