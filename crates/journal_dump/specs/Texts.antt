-- The text that is printed of a journal.
use Rattle.std.specs.Prelude.{ℕ, List, ◌++◌}
use Rattle.std.specs.List.{flat_map}
use Rattle.wf_journal.specs.Headers.{header_lines, joined}
use Rattle.wf_journal.specs.Journals.{JournalValue}
use Rattle.wf_journal.specs.Lines.{entry_line}

-- the first lines, the entries and the final lines of a journal
abbrev pub journal_text : JournalValue → List ℕ
journal_text journal =
    joined (header_lines journal.harts journal.frames journal.patches)
    ++ flat_map entry_line journal.entries ++ joined journal.end
