use Rattle.wf_units.proofs.WriteLemmas.{missed_conditional_unit}
use Rattle.wf_units.proofs.accesses.missed_conditionals_are_units.Goals as goal

pub returns : goal.returns
returns c = λ deltas s h hart word inst va width value page f. missed_conditional_unit deltas s h hart word inst va width value f c.journals_keep_sound.ensures page
