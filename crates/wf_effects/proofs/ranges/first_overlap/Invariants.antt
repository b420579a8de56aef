use Rattle.std.proofs.Common.{◌≡◌, drop}
use Rattle.wf_effects.specs.Ranges.{first_overlap}
use Rattle.wf_effects.proofs.ranges.first_overlap.Given as goal

abbrev pub invariant-loop-page : goal.invariant-loop-page
invariant-loop-page l = first_overlap l.flat (drop l.page-index l.pages) ≡ first_overlap l.flat l.pages
