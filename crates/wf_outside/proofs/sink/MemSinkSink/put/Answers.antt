use Rattle.std.proofs.Common.{◌/◌, length, arith}
use Rattle.std.proofs.lemmas.Grind.{common_steps}
use Rattle.wf_outside.proofs.SinkLemmas.{front_came, all_came}
use Rattle.wf_outside.proofs.sink.MemSinkSink.put.Goals as goal

pub returns-then-contains-clause-prefix : goal.returns-then-contains-clause-prefix
returns-then-contains-clause-prefix c =
    front_came _ _ _ (length c.args.bytes.now / 2) (omega arith) (grind (arith, common_steps))

pub returns-clause-prefix : goal.returns-clause-prefix
returns-clause-prefix c = all_came _ _ _ (grind (arith, common_steps))
