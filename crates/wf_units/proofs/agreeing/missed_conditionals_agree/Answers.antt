use Rattle.wf_units.proofs.AgreeLemmas.{missed_conditionals}
use Rattle.wf_units.proofs.agreeing.missed_conditionals_agree.Goals as goal

pub returns : goal.returns
returns c = missed_conditionals
