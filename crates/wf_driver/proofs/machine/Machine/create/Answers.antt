use Rattle.std.proofs.lemmas.Result.{on_ok_weaker}
use Rattle.wf_driver.proofs.MadeLemmas.{create_obeyed}
use Rattle.wf_driver.proofs.machine.Machine.create.Goals as goal

pub returns-clause-ok : goal.returns-clause-ok
returns-clause-ok c = on_ok_weaker c.call.result (λ d. create_obeyed c.args.generation c.args.self.now c.call.new.self d) c.call.ensures.ok
