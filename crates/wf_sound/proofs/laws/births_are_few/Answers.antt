use Rattle.wf_sound.proofs.BirthLemmas.{few_over}
use Rattle.wf_sound.proofs.laws.births_are_few.Goals as goal

pub returns : goal.returns
returns c = few_over
