use Rattle.std.proofs.Common.{◌≡◌, ◌+◌, ◌*◌, arith, append_assoc, append-nil}
use Rattle.wf_journal.proofs.LineLemmas.{word_lines-drop, word_lines-end}
use Rattle.wf_journal.proofs.finals.append_words.Goals as goal

pub loop-place-preserved : goal.loop-place-preserved
loop-place-preserved c =
    let next : c.args.va + 8 * (c.loop-place.place + 1) ≡ c.args.va + 8 * c.loop-place.place + 8 = omega arith in
    let more = word_lines-drop c.args.words.now (c.args.va + 8 * c.loop-place.place) c.loop-place.place 0 c.loop-place-test.true in
    rw (next, c.in_ok-append_word.ensures, append_assoc, ← more) c.loop-place.invariant

pub returns : goal.returns
returns c =
    let none = word_lines-end c.args.words.now (c.args.va + 8 * c.loop-place.place) c.loop-place.place c.loop-place-test.false in
    rw (none, append-nil) at c.loop-place.invariant
