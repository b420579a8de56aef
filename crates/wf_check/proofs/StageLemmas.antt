-- The stages of a check that read one file.
use Rattle.std.proofs.Common.{◌≡◌, ◌⊎◌, ℕ, List, Option, Result, Ok, Err, refl, ap, ◌∙◌, inl, inr}
use Rattle.std.specs.Prelude.{IfSome}
use Rattle.wf_outside.specs.Files.{File, first_bytes}
use Rattle.wf_flat.proofs.ListLemmas.{if_some_more}
use Rattle.wf_journal.specs.Journals.{JournalValue, journal_of}
use Rattle.wf_status.specs.declared.status.Status.{Status}
use Rattle.wf_status.specs.declared.status.Status.TheVariants.{Journal, Limit, Memory, Shelf}
use Rattle.wf_status.specs.declared.status.LimitKind.TheVariants as limits
use Rattle.wf_fetch.specs.Fetching.{IsReadStatus}
use Rattle.wf_fetch.specs.Held.{HoldsWithin, max_journal}
use Rattle.wf_fetch.specs.Stages.{◌>>=◌, IsReadFault}
use Rattle.elf_link.specs.Results.{or_told}
use Rattle.wf_fetch.proofs.StageLemmas.{bytes_long, bytes_read, limit_same, refused}
use Rattle.wf_check.specs.Stages.{journal_stage}

-- ---- the journal of a file

abbrev in_text : List ℕ → Result JournalValue Status
in_text bytes = or_told (λ line. Journal line) (journal_of bytes)

journal_after : (held : Option (List ℕ)) (bytes : List ℕ) → HoldsWithin max_journal held (λ b. b ≡ bytes) → journal_stage held ≡ in_text bytes
journal_after held bytes h = ap (λ (r : Result (List ℕ) Status). r >>= in_text) (bytes_read max_journal held bytes h)

journal_read : (held : Option (List ℕ)) (bytes : List ℕ) (journal : JournalValue) → HoldsWithin max_journal held (λ b. b ≡ bytes) → journal_of bytes ≡ Ok journal → journal_stage held ≡ Ok journal
journal_read held bytes journal h e = journal_after held bytes h ∙ ap (λ (r : Result JournalValue ℕ). or_told (λ line. Journal line) r) e

journal_faulty : (held : Option (List ℕ)) (bytes : List ℕ) (line : ℕ) → HoldsWithin max_journal held (λ b. b ≡ bytes) → journal_of bytes ≡ Err line → journal_stage held ≡ Err (Journal line)
journal_faulty held bytes line h e = journal_after held bytes h ∙ ap (λ (r : Result JournalValue ℕ). or_told (λ line. Journal line) r) e

read_cause : (held : Option (List ℕ)) (status : Status) → IsReadStatus max_journal held status → IsReadFault status ⊎ (journal_stage held ≡ Err status)
read_cause held Shelf h = inl (inl refl)
read_cause held Memory h = inl (inr refl)
read_cause held (Limit limits.File number most) h =
    inr (ap (λ (r : Result (List ℕ) Status). r >>= in_text) (bytes_long max_journal held h.2) ∙ ap (λ (s : Status). refused {A = JournalValue} s) (limit_same max_journal number most h.0 h.1))
read_cause held other h = absurd h

-- ---- the same of a file of a shelf

pub found_journal : (holds : Option (List File)) (name bytes : List ℕ) (journal : JournalValue)
    → IfSome holds (λ files. HoldsWithin max_journal (first_bytes name files) (λ held. held ≡ bytes)) → journal_of bytes ≡ Ok journal
    → IfSome holds (λ files. journal_stage (first_bytes name files) ≡ Ok journal)
found_journal holds name bytes journal h e =
    if_some_more holds (λ (files : List File). HoldsWithin max_journal (first_bytes name files) (λ held. held ≡ bytes)) (λ (files : List File). journal_stage (first_bytes name files) ≡ Ok journal)
    (λ files d. journal_read (first_bytes name files) bytes journal d e) h

pub found_line : (holds : Option (List File)) (name bytes : List ℕ) (line : ℕ)
    → IfSome holds (λ files. HoldsWithin max_journal (first_bytes name files) (λ held. held ≡ bytes)) → journal_of bytes ≡ Err line
    → IfSome holds (λ files. IsReadFault (Journal line) ⊎ (journal_stage (first_bytes name files) ≡ Err (Journal line)))
found_line holds name bytes line h e =
    if_some_more holds (λ (files : List File). HoldsWithin max_journal (first_bytes name files) (λ held. held ≡ bytes))
    (λ (files : List File). IsReadFault (Journal line) ⊎ (journal_stage (first_bytes name files) ≡ Err (Journal line)))
    (λ files d. inr (journal_faulty (first_bytes name files) bytes line d e)) h

pub found_none : (holds : Option (List File)) (name : List ℕ) (status : Status) → IfSome holds (λ files. IsReadStatus max_journal (first_bytes name files) status)
    → IfSome holds (λ files. IsReadFault status ⊎ (journal_stage (first_bytes name files) ≡ Err status))
found_none holds name status h =
    if_some_more holds (λ (files : List File). IsReadStatus max_journal (first_bytes name files) status)
    (λ (files : List File). IsReadFault status ⊎ (journal_stage (first_bytes name files) ≡ Err status))
    (λ files d. read_cause (first_bytes name files) status d) h
