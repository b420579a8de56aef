use Rattle.std.proofs.Common.{◌≡◌, ◌++◌, drop, map}
use Rattle.wf_homes.specs.Kept.{text_page}
use Rattle.wf_creating.proofs.parents.text_numbers.Given as goal

abbrev pub invariant-loop-page : goal.invariant-loop-page
invariant-loop-page l = l.numbers.items ++ map text_page (drop l.page-index l.text) ≡ map text_page l.text
