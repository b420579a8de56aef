use Rattle.home_laws.proofs.StayLemmas.{stay}
use Rattle.home_laws.proofs.laws.homes_stay.Goals as goal

pub returns : goal.returns
returns c = stay
