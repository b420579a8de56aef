use Rattle.std.proofs.Common.{◌≡◌, ◌++◌, map}
use Rattle.std.specs.List.{range_with_len}
use Rattle.patch_build.specs.Pages.{page_of_data}
use Rattle.patch_build.proofs.paging.push_data.Given as goal

-- the pages so far
abbrev pub invariant-loop-k : goal.invariant-loop-k
invariant-loop-k l = l.pages.items ≡ l.fn.pages.items ++ map (page_of_data l.bytes l.first l.write) (range_with_len 0 l.k)
