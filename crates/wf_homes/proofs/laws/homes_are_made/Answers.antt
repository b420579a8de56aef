use Rattle.wf_homes.proofs.HomeLemmas.{homes_made}
use Rattle.wf_homes.proofs.laws.homes_are_made.Goals as goal

pub returns : goal.returns
returns c = homes_made
