use Rattle.wf_units.proofs.AgreeLemmas.{stores}
use Rattle.wf_units.proofs.agreeing.stores_agree.Goals as goal

pub returns : goal.returns
returns c = λ deltas s h hart word inst va width value low page. stores deltas s h hart word inst va width value page low
