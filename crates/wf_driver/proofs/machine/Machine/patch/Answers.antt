use Rattle.std.proofs.lemmas.Result.{on_ok_weaker}
use Rattle.wf_driver.proofs.MadeLemmas.{patch_obeyed}
use Rattle.wf_driver.proofs.machine.Machine.patch.Goals as goal

pub returns-clause-ok : goal.returns-clause-ok
returns-clause-ok c = on_ok_weaker c.call.result (λ d. patch_obeyed c.args.index c.args.self.now c.call.new.self d) c.call.ensures.ok
