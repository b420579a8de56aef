use Rattle.wf_effects.proofs.OrderLemmas.{going_ordered}
use Rattle.wf_effects.proofs.pages.pages_going.Goals as goal

pub returns-clause-ordered : goal.returns-clause-ordered
returns-clause-ordered c = rw c.go_in.ensures (going_ordered c.args.flat.now c.args.first c.args.n c.requires.ordered)
