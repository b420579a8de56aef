use Rattle.wf_outside.specs.Pages.{PageValue}
use Rattle.wf_laying.proofs.LayLemmas.{AreSoFar}
use Rattle.wf_laying.proofs.laying.lay_text.Given as goal

abbrev pub invariant-loop-i : goal.invariant-loop-i
invariant-loop-i l = AreSoFar (λ (page : PageValue). page.words) l.fn.words l.words l.first l.pages l.i
