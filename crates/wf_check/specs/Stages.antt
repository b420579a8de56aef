-- The stages of a check before its first entry: what its files hold, or the answer of the first
-- stage that fails.
use Rattle.std.specs.Prelude.{ℕ, List, Option, Result, Ok, Err, if◌then◌else◌, nat_lt}
use Rattle.wf_outside.specs.declared.sizes.TheConstants.{MOST_WRITES, MOST_BIRTHS}
use Rattle.wf_outside.specs.Images.{DeltaValue, ImageValue}
use Rattle.wf_outside.specs.Pages.{LimitsValue}
use Rattle.wf_flat.specs.Boot.{boot_of}
use Rattle.wf_flat.specs.Counts.{used_of}
use Rattle.wf_flat.specs.State.{FlatState}
use Rattle.wf_journal.specs.Journals.{JournalValue, journal_of}
use Rattle.wf_status.specs.declared.status.LimitKind.TheVariants.{Frames}
use Rattle.wf_status.specs.declared.status.Status.{Status}
use Rattle.wf_status.specs.declared.status.Status.TheVariants.{Journal, Limit}
use Rattle.wf_fetch.specs.Held.{max_journal}
use Rattle.wf_fetch.specs.Stages.{◌>>=◌, bytes_within, image_stage}
use Rattle.elf_link.specs.Results.{or_told}
use Rattle.wf_patches.specs.Stages.{patches_stage}

-- the journal of a file, or the first line that may not stand where it does
abbrev pub journal_stage : Option (List ℕ) → Result JournalValue Status
journal_stage held = do
  bytes ← bytes_within max_journal held
  or_told (λ line. Journal line) (journal_of bytes)

-- what the files of a check mean: an image, a journal, and what the patches that it names bring
pub record CheckedFilesValue : Type 0 where
  pub image : ImageValue
  pub journal : JournalValue
  pub deltas : List DeltaValue

-- what is held under the names of an image and of a journal means this, or the answer of the first
-- stage that fails, in this order: image, journal, patches
abbrev pub held_stage : (List ℕ → Option (List ℕ)) → List ℕ → List ℕ
    → Result CheckedFilesValue Status
held_stage held image_name journal_name = do
  image ← image_stage (held image_name)
  journal ← journal_stage (held journal_name)
  deltas ← patches_stage held image journal.patches
  Ok (record { image = image; journal = journal; deltas = deltas })

-- the sizes of the machine of a journal's run: its frames, and the whole range of both counts
abbrev pub limits_of : JournalValue → LimitsValue
limits_of journal =
    record { frames = journal.frames; last_writes = MOST_WRITES; last_birth = MOST_BIRTHS }

-- the state at the start of a journal's run: its harts at the start of the image
abbrev pub boot_for : CheckedFilesValue → FlatState
boot_for files = boot_of files.image files.journal.harts (limits_of files.journal)

-- files whose image has frames enough at the start of the journal's run
abbrev pub frames_stage : CheckedFilesValue → Result CheckedFilesValue Status
frames_stage files =
    if nat_lt files.journal.frames (used_of (boot_for files))
    then Err (Limit Frames (used_of (boot_for files)) files.journal.frames)
    else Ok files

-- what a check replays, or the answer of the first stage that fails, in this order: image, journal,
-- patches, frames
abbrev pub files_stage : (List ℕ → Option (List ℕ)) → List ℕ → List ℕ
    → Result CheckedFilesValue Status
files_stage held image_name journal_name = do
  files ← held_stage held image_name journal_name
  frames_stage files
