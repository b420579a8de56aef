use Rattle.wf_laws.proofs.EndingLemmas.{for_holder}
use Rattle.wf_laws.proofs.holders.ending_is_for_holder.Goals as goal

pub returns : goal.returns
returns c = for_holder
