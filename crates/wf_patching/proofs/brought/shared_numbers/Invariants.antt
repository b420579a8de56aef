use Rattle.std.proofs.Common.{◌≡◌, ◌++◌, drop}
use Rattle.wf_outside.specs.Images.{data_numbers}
use Rattle.wf_patching.proofs.brought.shared_numbers.Given as goal

abbrev pub invariant-loop-page : goal.invariant-loop-page
invariant-loop-page l = l.numbers.items ++ data_numbers (drop l.page-index l.pages) ≡ data_numbers l.pages
