use Rattle.std.proofs.Common.{◌≡◌}
use Rattle.wf_effects.specs.Effects.{going_in}
use Rattle.wf_effects.proofs.FrontLemmas.{changed_to}
use Rattle.wf_effects.proofs.pages.go_all.Given as goal

abbrev pub invariant-loop-i : goal.invariant-loop-i
invariant-loop-i l = l.pages ≡ changed_to (going_in l.first l.n) l.i l.fn.pages
