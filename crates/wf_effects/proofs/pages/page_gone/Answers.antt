use Rattle.wf_effects.proofs.OrderLemmas.{gone_ordered}
use Rattle.wf_effects.proofs.pages.page_gone.Goals as goal

pub returns-clause-ordered : goal.returns-clause-ordered
returns-clause-ordered c = rw c.drop_page.ensures (gone_ordered c.args.flat.now c.args.page c.args.worn c.requires.ordered)
