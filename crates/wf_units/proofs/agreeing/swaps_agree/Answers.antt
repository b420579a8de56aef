use Rattle.wf_units.proofs.AgreeLemmas.{swaps}
use Rattle.wf_units.proofs.agreeing.swaps_agree.Goals as goal

pub returns : goal.returns
returns c = λ deltas s h hart word inst va width value old new op page. swaps deltas s h hart word inst va width value page old new op
