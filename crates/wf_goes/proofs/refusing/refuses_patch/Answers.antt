use Rattle.std.proofs.Common.{◌∙◌, sym, below_more}
use Rattle.std.proofs.lemmas.Bool.{false≢true}
use Rattle.wf_goes.proofs.refusing.refuses_patch.Goals as goal

pub loop-patch-preserved : goal.loop-patch-preserved
loop-patch-preserved c = below_more _ _ c.loop-patch.invariant (λ e. false≢true (sym c.if-branch.false ∙ c.in_ok-is_refused.ensures.1 e))
