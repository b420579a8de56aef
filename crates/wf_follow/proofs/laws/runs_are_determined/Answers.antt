use Rattle.wf_follow.proofs.FollowLemmas.{reports_are_one, units_are_whole}
use Rattle.wf_follow.proofs.laws.runs_are_determined.Goals as goal

pub returns-clause-reports : goal.returns-clause-reports
returns-clause-reports c = reports_are_one c.harts_are_determined.ensures

pub returns-clause-whole : goal.returns-clause-whole
returns-clause-whole c = units_are_whole c.harts_are_determined.ensures
