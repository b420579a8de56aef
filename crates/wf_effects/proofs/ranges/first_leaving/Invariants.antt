use Rattle.std.proofs.Common.{◌≡◌, drop}
use Rattle.wf_effects.specs.Ranges.{first_leaving}
use Rattle.wf_effects.proofs.ranges.first_leaving.Given as goal

abbrev pub invariant-loop-page : goal.invariant-loop-page
invariant-loop-page l = first_leaving l.flat (drop l.page-index l.pages) ≡ first_leaving l.flat l.pages
