use Rattle.wf_created.proofs.MayLemmas.{can_carry}
use Rattle.wf_created.proofs.laws.births_can_be_carried_out.Goals as goal

pub returns : goal.returns
returns c = can_carry
