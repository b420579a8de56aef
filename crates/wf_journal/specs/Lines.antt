-- The lines of entries.
use Rattle.std.specs.Prelude.{ℕ, List}
use Rattle.wf_flat.specs.declared.event.Entry.{Entry}
use Rattle.wf_journal.specs.Entries.{entry_bytes}
use Rattle.wf_journal.specs.Headers.{line}

-- the line of an entry
abbrev pub entry_line : Entry → List ℕ
entry_line entry = line (entry_bytes entry)
