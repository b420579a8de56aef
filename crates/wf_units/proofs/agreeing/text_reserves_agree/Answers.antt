use Rattle.wf_units.proofs.AgreeLemmas.{text_reserves}
use Rattle.wf_units.proofs.agreeing.text_reserves_agree.Goals as goal

pub returns : goal.returns
returns c = λ deltas s h hart word inst va width value page. text_reserves deltas s h hart word inst va width value page
