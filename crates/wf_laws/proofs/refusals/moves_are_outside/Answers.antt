use Rattle.wf_laws.proofs.RefusalLemmas.{moves}
use Rattle.wf_laws.proofs.refusals.moves_are_outside.Goals as goal

pub returns : goal.returns
returns c = moves
