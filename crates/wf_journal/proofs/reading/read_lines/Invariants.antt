use Rattle.std.proofs.Common.{◌≡◌, length}
use Rattle.wf_journal.specs.Journals.{so_far, started}
use Rattle.wf_journal.proofs.JournalLemmas.{IsReadSoFar}
use Rattle.wf_journal.proofs.reading.read_lines.Given as goal

abbrev pub invariant-loop-rest : goal.invariant-loop-rest
invariant-loop-rest l =
    IsReadSoFar (started l.harts l.frames) l.bytes (so_far l.journal l.body) l.number l.rest
    × (l.journal.harts ≡ l.harts) × (l.journal.frames ≡ l.frames)

abbrev pub decreases-loop-rest : goal.decreases-loop-rest
decreases-loop-rest l = length l.rest
