use Rattle.std.proofs.Common.{◌≡◌, ◌++◌, take}
use Rattle.wf_journal.specs.Headers.{joined}
use Rattle.wf_journal.proofs.headers.push_lines.Given as goal

abbrev pub invariant-loop-text : goal.invariant-loop-text
invariant-loop-text l = l.out.items ≡ l.fn.out.items ++ joined (take l.text-index l.lines)
