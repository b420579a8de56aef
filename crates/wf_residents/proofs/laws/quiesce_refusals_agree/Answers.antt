use Rattle.wf_residents.proofs.NewestLemmas.{quiesce_same}
use Rattle.wf_residents.proofs.laws.quiesce_refusals_agree.Goals as goal

pub returns : goal.returns
returns c = quiesce_same
