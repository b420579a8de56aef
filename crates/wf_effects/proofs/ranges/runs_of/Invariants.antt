use Rattle.std.proofs.Common.{◌≡◌, [], drop}
use Rattle.std.specs.List.{fold}
use Rattle.wf_effects.specs.Ranges.{with_behind}
use Rattle.wf_effects.proofs.ranges.runs_of.Given as goal

abbrev pub invariant-loop-page : goal.invariant-loop-page
invariant-loop-page l = fold with_behind l.runs.items (drop l.page-index l.pages) ≡ fold with_behind [] l.pages
