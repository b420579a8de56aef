use Rattle.std.proofs.Common.{◌≡◌, ◌++◌, take}
use Rattle.std.specs.List.{flat_map}
use Rattle.wf_journal.specs.Finals.{page_lines}
use Rattle.wf_journal.proofs.finals.append_pages.Given as goal

abbrev pub invariant-loop-page : goal.invariant-loop-page
invariant-loop-page l = l.lines.items ≡ l.fn.lines.items ++ flat_map page_lines (take l.page-index l.pages)
