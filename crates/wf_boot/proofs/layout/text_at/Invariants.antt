use Rattle.std.proofs.Common.{◌≡◌, ◌++◌, ◌+◌, drop}
use Rattle.wf_start.specs.Layout.{text_from}
use Rattle.wf_boot.proofs.layout.text_at.Given as goal

abbrev pub invariant-loop-i : goal.invariant-loop-i
invariant-loop-i l = l.text.items ++ text_from (l.first + l.i) (drop l.i l.pages) ≡ text_from l.first l.pages
