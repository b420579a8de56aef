use Rattle.wf_laws.proofs.TouchLemmas.{untouched}
use Rattle.wf_laws.proofs.holders.gone_is_untouched.Goals as goal

pub returns : goal.returns
returns c = untouched
