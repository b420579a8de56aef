use Rattle.wf_space.proofs.RefusalLemmas.{refusals_same}
use Rattle.wf_space.proofs.laws.refusals_agree.Goals as goal

pub returns : goal.returns
returns c = refusals_same
