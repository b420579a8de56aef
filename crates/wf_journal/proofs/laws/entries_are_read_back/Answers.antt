use Rattle.wf_journal.proofs.EventLemmas.{entry_again, entries_apart}
use Rattle.wf_journal.proofs.TextLemmas.{entry_is}
use Rattle.wf_journal.proofs.laws.entries_are_read_back.Goals as goal

pub returns-clause-again : goal.returns-clause-again
returns-clause-again c = entry_again

pub returns-clause-apart : goal.returns-clause-apart
returns-clause-apart c = entries_apart

pub returns-clause-written : goal.returns-clause-written
returns-clause-written c = λ harts line entry e. let w = entry_is harts line entry e in (w.sized, w.spelled)
