use Rattle.std.proofs.Common.{◌≡◌, ◌++◌, drop, map}
use Rattle.std.specs.List.{filter}
use Rattle.wf_views.specs.Pages.{page_number}
use Rattle.wf_mapping.specs.Refusals.{stays}
use Rattle.wf_creating.proofs.parents.numbers_here.Given as goal

abbrev pub invariant-loop-page : goal.invariant-loop-page
invariant-loop-page l = l.numbers.items ++ map page_number (filter stays (drop l.page-index l.page-items)) ≡ map page_number (filter stays l.page-items)
