use Rattle.std.proofs.Common.{◌≡◌, ◌++◌, take}
use Rattle.wf_outside.specs.Images.{text_numbers}
use Rattle.wf_effects.proofs.deltas.push_text.Given as goal

abbrev pub invariant-loop-page : goal.invariant-loop-page
invariant-loop-page l = l.numbers.items ≡ l.fn.numbers.items ++ text_numbers (take l.page-index l.pages)
