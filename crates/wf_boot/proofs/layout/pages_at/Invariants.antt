use Rattle.wf_boot.proofs.PageLemmas.{AreAdded}
use Rattle.wf_boot.proofs.layout.pages_at.Given as goal

abbrev pub invariant-loop-i : goal.invariant-loop-i
invariant-loop-i l = AreAdded l.first l.pages l.i l.made
