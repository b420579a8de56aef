use Rattle.std.proofs.Common.{◌≡◌, ◌++◌, drop}
use Rattle.wf_outside.specs.Images.{text_numbers}
use Rattle.wf_patching.proofs.brought.push_private.Given as goal

abbrev pub invariant-loop-page : goal.invariant-loop-page
invariant-loop-page l = l.numbers.items ++ text_numbers (drop l.page-index l.pages) ≡ l.fn.numbers.items ++ text_numbers l.pages
