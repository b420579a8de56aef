use Rattle.std.proofs.Common.{◌≡◌, ◌++◌, take}
use Rattle.wf_outside.specs.Images.{data_numbers}
use Rattle.wf_effects.proofs.deltas.push_data.Given as goal

abbrev pub invariant-loop-page : goal.invariant-loop-page
invariant-loop-page l = l.numbers.items ≡ l.fn.numbers.items ++ data_numbers (take l.page-index l.pages)
