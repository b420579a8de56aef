use Rattle.wf_driver.proofs.StepLemmas.{idle_made}
use Rattle.wf_driver.proofs.stepping.idle.Goals as goal

pub returns : goal.returns
returns c = λ deltas. idle_made deltas c.args.flat.now c.args.journal.now.items c.append.new.journal.items c.args.hart c.requires.rests.no_one c.requires.ready c.append.ensures.items
