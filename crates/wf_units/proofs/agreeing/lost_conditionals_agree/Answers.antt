use Rattle.wf_units.proofs.AgreeLemmas.{lost_conditionals}
use Rattle.wf_units.proofs.agreeing.lost_conditionals_agree.Goals as goal

pub returns : goal.returns
returns c = lost_conditionals
