use Rattle.std.proofs.Common.{◌≡◌, map}
use Rattle.std.specs.List.{range_with_len}
use Rattle.patch_build.specs.Pages.{page_of_text}
use Rattle.patch_build.proofs.paging.text_pages.Given as goal

-- the pages so far
abbrev pub invariant-loop-k : goal.invariant-loop-k
invariant-loop-k l = l.pages.items ≡ map (page_of_text l.bytes l.first) (range_with_len 0 l.k)
