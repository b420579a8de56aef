use Rattle.wf_effects.proofs.OrderLemmas.{dead_ordered}
use Rattle.wf_effects.proofs.living.generation_dead.Goals as goal

pub returns-clause-ordered : goal.returns-clause-ordered
returns-clause-ordered c = rw c.drop_generation.ensures (dead_ordered c.args.flat.now c.args.generation c.requires)
