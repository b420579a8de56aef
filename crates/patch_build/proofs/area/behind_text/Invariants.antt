use Rattle.std.proofs.Common.{◌≡◌, drop, max}
use Rattle.wf_outside.specs.Images.{text_numbers}
use Rattle.patch_build.specs.Fits.{page_behind}
use Rattle.patch_build.proofs.area.behind_text.Given as goal

-- the page behind those so far and those that are left is the one behind all
abbrev pub invariant-loop-page : goal.invariant-loop-page
invariant-loop-page l = max l.next (page_behind (text_numbers (drop l.page-index l.pages))) ≡ page_behind (text_numbers l.pages)
