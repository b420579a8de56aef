use Rattle.wf_homes.proofs.GoneLemmas.{given_up}
use Rattle.wf_homes.proofs.laws.homes_are_given_up.Goals as goal

pub returns : goal.returns
returns c = given_up
