use Rattle.wf_creating.proofs.RefusalLemmas.{birth_refused}
use Rattle.wf_creating.proofs.laws.create_refusals_agree.Goals as goal

pub returns : goal.returns
returns c = birth_refused
