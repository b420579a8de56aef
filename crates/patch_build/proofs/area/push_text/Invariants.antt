use Rattle.std.proofs.Common.{◌≡◌, ◌++◌, drop}
use Rattle.wf_outside.specs.Images.{text_numbers}
use Rattle.patch_build.proofs.area.push_text.Given as goal

-- the numbers of the pages that are left come behind those so far
abbrev pub invariant-loop-page : goal.invariant-loop-page
invariant-loop-page l = l.numbers.items ++ text_numbers (drop l.page-index l.pages) ≡ l.fn.numbers.items ++ text_numbers l.pages
