use Rattle.wf_units.proofs.AgreeLemmas.{conditionals}
use Rattle.wf_units.proofs.agreeing.conditionals_agree.Goals as goal

pub returns : goal.returns
returns c = λ deltas s h hart word inst va width value low page. conditionals deltas s h hart word inst va width value page low
