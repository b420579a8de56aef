use Rattle.std.proofs.Common.{◌≡◌, ◌++◌, drop}
use Rattle.wf_journal.specs.Finals.{harts_from}
use Rattle.wf_journal.proofs.finals.append_harts.Given as goal

abbrev pub invariant-loop-number : goal.invariant-loop-number
invariant-loop-number l = l.lines.items ++ harts_from l.number (drop l.number l.harts) ≡ l.fn.lines.items ++ harts_from 0 l.harts
