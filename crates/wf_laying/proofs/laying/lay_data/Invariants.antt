use Rattle.wf_flat.specs.State.{PageState}
use Rattle.wf_laying.proofs.LayLemmas.{AreSoFar}
use Rattle.wf_laying.proofs.laying.lay_data.Given as goal

abbrev pub invariant-loop-i : goal.invariant-loop-i
invariant-loop-i l = AreSoFar (λ (page : PageState). page.words) l.fn.words l.words l.first l.pages l.i
