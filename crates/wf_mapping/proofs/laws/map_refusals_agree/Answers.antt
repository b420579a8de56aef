use Rattle.wf_mapping.proofs.AgreeLemmas.{refusals_same}
use Rattle.wf_mapping.proofs.laws.map_refusals_agree.Goals as goal

pub returns : goal.returns
returns c = refusals_same
