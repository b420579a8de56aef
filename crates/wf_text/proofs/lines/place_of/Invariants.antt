use Rattle.wf_text.proofs.LineLemmas.{IsSearched}
use Rattle.wf_text.proofs.lines.place_of.Given as goal

abbrev pub invariant-loop-place : goal.invariant-loop-place
invariant-loop-place l = IsSearched l.mark l.bytes l.place
