use Rattle.wf_residents.proofs.NewestLemmas.{newest_same}
use Rattle.wf_residents.proofs.laws.newest_agrees.Goals as goal

pub returns : goal.returns
returns c = newest_same
