use Rattle.wf_units.proofs.AgreeLemmas.{text_loads}
use Rattle.wf_units.proofs.agreeing.text_loads_agree.Goals as goal

pub returns : goal.returns
returns c = text_loads
