use Rattle.wf_effects.proofs.OrderLemmas.{ending_ordered}
use Rattle.wf_effects.proofs.pages.page_ending.Goals as goal

pub returns-clause-ordered : goal.returns-clause-ordered
returns-clause-ordered c = rw c.end_page.ensures (ending_ordered c.args.flat.now c.args.page c.requires)
