use Rattle.wf_creating.proofs.LaidLemmas.{birth_counted}
use Rattle.wf_creating.proofs.laws.birth_need_is_counted.Goals as goal

pub returns : goal.returns
returns c = birth_counted
