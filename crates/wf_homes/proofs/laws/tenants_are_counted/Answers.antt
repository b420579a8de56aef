use Rattle.wf_homes.proofs.CountLemmas.{tenants_counted}
use Rattle.wf_homes.proofs.laws.tenants_are_counted.Goals as goal

pub returns : goal.returns
returns c = tenants_counted
