use Rattle.wf_space.specs.declared.job.Job.TheVariants.{Sync}
use Rattle.wf_space.proofs.JobLemmas.{room_alike}
use Rattle.wf_space.proofs.RoomLemmas.{can_after}
use Rattle.wf_space.proofs.space.Space.sync.Goals as goal

pub fill-requires-clause-can : goal.fill-requires-clause-can
fill-requires-clause-can c = can_after c.args.self.now.records c.prepare.new.records c.args.generation c.args.page c.requires c.in_ok-plan.ensures.made

pub returns-clause-alike : goal.returns-clause-alike
returns-clause-alike c = room_alike c.args.self.now.records c.prepare.new.records (Sync c.args.generation c.args.page) c.in_ok-plan.ensures.made
