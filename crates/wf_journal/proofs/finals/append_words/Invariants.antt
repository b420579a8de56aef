use Rattle.std.proofs.Common.{◌≡◌, ◌++◌, ◌+◌, ◌*◌, drop}
use Rattle.wf_journal.specs.Finals.{word_lines}
use Rattle.wf_journal.proofs.finals.append_words.Given as goal

abbrev pub invariant-loop-place : goal.invariant-loop-place
invariant-loop-place l = l.lines.items ++ word_lines (l.va + 8 * l.place) (drop l.place l.words) ≡ l.fn.lines.items ++ word_lines l.va l.words
