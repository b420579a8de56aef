use Rattle.wf_space.proofs.JobLemmas.{can_plan}
use Rattle.wf_space.proofs.laws.jobs_can_be_planned.Goals as goal

pub returns : goal.returns
returns c = can_plan
