use Rattle.wf_driver.proofs.ServingLemmas.{meets_now}
use Rattle.wf_driver.proofs.meeting.meet.Goals as goal

pub returns-in-Some-clause-met : goal.returns-in-Some-clause-met
returns-in-Some-clause-met c = meets_now c.args.flat.now c.sync.new.flat c.args.hart c.generation_of-generation.result c.args.page c.generation_of-generation.ensures c.sync.ensures.same.harts c.sync.ensures.met
