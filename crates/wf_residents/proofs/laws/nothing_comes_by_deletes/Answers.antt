use Rattle.wf_residents.proofs.EndLemmas.{nothing_comes}
use Rattle.wf_residents.proofs.laws.nothing_comes_by_deletes.Goals as goal

pub returns : goal.returns
returns c = nothing_comes
