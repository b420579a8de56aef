use Rattle.wf_space.proofs.GiveLemmas.{AreLeft}
use Rattle.wf_space.proofs.changing.give_text.Given as goal

abbrev pub invariant-loop-page : goal.invariant-loop-page
invariant-loop-page l = AreLeft (λ x. x.frame) l.fn.frames l.frames l.text l.page-index
