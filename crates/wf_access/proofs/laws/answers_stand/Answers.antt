use Rattle.wf_access.proofs.WholeLemmas.{answers_stand_for, looks_and_misses}
use Rattle.wf_access.proofs.laws.answers_stand.Goals as goal

pub returns-clause-stand : goal.returns-clause-stand
returns-clause-stand c = answers_stand_for

pub returns-clause-answers : goal.returns-clause-answers
returns-clause-answers c = looks_and_misses
