use Rattle.wf_laws.proofs.TouchLemmas.{alone}
use Rattle.wf_laws.proofs.holders.holders_are_alone.Goals as goal

pub returns : goal.returns
returns c = alone
