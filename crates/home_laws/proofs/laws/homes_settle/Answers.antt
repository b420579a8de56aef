use Rattle.home_laws.proofs.SettleLemmas.{settled}
use Rattle.home_laws.proofs.laws.homes_settle.Goals as goal

pub returns : goal.returns
returns c = settled
