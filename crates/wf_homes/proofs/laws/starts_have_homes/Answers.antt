use Rattle.wf_homes.proofs.StartLemmas.{start_housed}
use Rattle.wf_homes.proofs.laws.starts_have_homes.Goals as goal

pub returns : goal.returns
returns c = start_housed
