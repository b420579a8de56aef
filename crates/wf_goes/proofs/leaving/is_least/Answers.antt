use Rattle.std.proofs.Common.{◌∙◌, refl, sym}
use Rattle.wf_goes.proofs.NextLemmas.{least_first, least_none}
use Rattle.wf_goes.proofs.leaving.is_least.Goals as goal

pub returns-in-Some : goal.returns-in-Some
returns-in-Some c = least_first c.args.page c.in-Some.first c.args.owed.now c.first.ensures.rising (sym c.in-Some.is ∙ c.first.ensures.first)

pub returns-in-None : goal.returns-in-None
returns-in-None c = (λ t. least_none c.args.page c.args.owed.now (sym c.in-None.is ∙ c.first.ensures.first), λ all. refl)
