-- What the files of a check call for.
use Rattle.std.specs.Prelude.{ℕ, List, Option, Result, Ok, Err, ◌≡◌, ◌≢◌, ◌⊎◌, length}
use Rattle.wf_outside.specs.Images.{ImageValue}
use Rattle.wf_flat.specs.declared.event.Event.{Event}
use Rattle.wf_legal.specs.Legal.{IsLegal, Moment, at_rest, end_of}
use Rattle.wf_replay.specs.Replayed.{IsFirstIllegal}
use Rattle.wf_journal.specs.Finals.{final_lines}
use Rattle.wf_journal.specs.Journals.{JournalValue}
use Rattle.wf_status.specs.declared.entries.EntryRule.{EntryRule}
use Rattle.wf_status.specs.declared.entries.EntryRule.TheVariants.{Final}
use Rattle.wf_status.specs.declared.status.Status.{Status}
use Rattle.wf_status.specs.declared.status.Status.TheVariants as status
use Rattle.wf_patches.specs.Needed as patches
use Rattle.wf_check.specs.Rules.{rule_of}
use Rattle.wf_fetch.specs.Stages.{image_stage}
use Rattle.wf_check.specs.Stages.{CheckedFilesValue, boot_for, files_stage, journal_stage}

-- the moment at the start of a journal's run, with the patches that it names
abbrev pub start_for : CheckedFilesValue → Moment
start_for files = at_rest files.deltas (boot_for files)

-- the final lines of a journal are those of the machine behind its entries
abbrev pub IsFinal : CheckedFilesValue → Type 0
IsFinal files =
    files.journal.end ≡ final_lines (end_of (start_for files) files.journal.entries).flat

-- the machine allows each entry of a journal, and its final lines are those of the end
pub record IsRight (files : CheckedFilesValue) : Type 0 where
  pub legal : IsLegal (start_for files) files.journal.entries
  pub final : IsFinal files

-- an entry of this rule is the first that the machine does not allow
pub record HasIllegal (files : CheckedFilesValue) (index : ℕ) (rule : EntryRule) : Type 0 where
  pub event : Event
  pub first : IsFirstIllegal (start_for files) files.journal.entries index event
  pub named : rule ≡ rule_of event

-- the machine allows each entry, but the final lines, behind all of them, are not those of the end
pub record HasOtherEnd (files : CheckedFilesValue) (index : ℕ) (rule : EntryRule) : Type 0 where
  pub legal : IsLegal (start_for files) files.journal.entries
  pub other : IsFinal files → ⊥
  pub behind : index ≡ length files.journal.entries
  pub named : rule ≡ Final

-- what files with frames enough call for: that all is right; or the first entry that is not
-- allowed, or other final lines
abbrev pub FilesCallFor : CheckedFilesValue → Status → Type 0
FilesCallFor files status.Done = IsRight files
FilesCallFor files (status.Illegal index rule) =
    HasIllegal files index rule ⊎ HasOtherEnd files index rule
FilesCallFor files answer = ⊥

-- what the stages call for: the answer of the first that fails; else what the files call for
abbrev pub StagesCallFor : Result CheckedFilesValue Status → Status → Type 0
StagesCallFor (Err failed) answer = answer ≡ failed
StagesCallFor (Ok files) answer = FilesCallFor files answer

-- What is held calls for this answer to a check of the journal of one name against the image of
-- another, where no read or put fails and memory suffices.
abbrev pub CheckCallsFor : (List ℕ → Option (List ℕ)) → List ℕ → List ℕ → Status → Type 0
CheckCallsFor held image journal answer = StagesCallFor (files_stage held image journal) answer

-- what is held under the names is an image and a journal of so many entries, in which all is right
pub record IsAccepted (held : List ℕ → Option (List ℕ)) (image journal : List ℕ) (count : ℕ)
    : Type 0 where
  pub files : CheckedFilesValue
  pub is : files_stage held image journal ≡ Ok files
  pub right : IsRight files
  pub counted : count ≡ length files.journal.entries

-- there is an image, with P
pub record OfImage (held : Option (List ℕ)) (P : ImageValue → Type 0) : Type 0 where
  pub image : ImageValue
  pub is : image_stage held ≡ Ok image
  pub fits : P image

-- there is a journal, with P
pub record OfJournal (held : Option (List ℕ)) (P : JournalValue → Type 0) : Type 0 where
  pub journal : JournalValue
  pub is : journal_stage held ≡ Ok journal
  pub fits : P journal

-- P of the name of a needed file of a check: of the image; of the journal, where there is an image;
-- of one that is read for the patches that the journal names, where there are both
abbrev pub OfNeeded : (List ℕ → Option (List ℕ)) → List ℕ → List ℕ → (List ℕ → Type 0) → Type 0
OfNeeded held image_name journal_name P =
    P image_name
    ⊎ OfImage (held image_name)
    (λ image. P journal_name
    ⊎ OfJournal (held journal_name)
    (λ journal. patches.OfNeeded held image journal.patches P))

-- what a check may answer where it finds no right journal, and nothing is known of what is held
abbrev pub MayCheck : Status → Type 0
MayCheck answer =
    (answer ≢ status.Done) × (answer ≢ status.Words) × (answer ≢ status.Sink)
