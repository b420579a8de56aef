use Rattle.std.proofs.Common.{◌≡◌, drop}
use Rattle.wf_effects.specs.Ranges.{first_absent}
use Rattle.wf_effects.proofs.ranges.first_absent.Given as goal

abbrev pub invariant-loop-page : goal.invariant-loop-page
invariant-loop-page l = first_absent l.flat (drop l.page-index l.pages) ≡ first_absent l.flat l.pages
