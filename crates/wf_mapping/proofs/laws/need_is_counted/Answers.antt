use Rattle.wf_mapping.proofs.NeedLemmas.{need_counted}
use Rattle.wf_mapping.proofs.laws.need_is_counted.Goals as goal

pub returns : goal.returns
returns c = need_counted
