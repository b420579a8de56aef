-- The stages of a check, one after another, and what its files call for.
use Rattle.std.proofs.Common.{◌≡◌, ◌<◌, ◌≤◌, ◌⊎◌, ℕ, List, Bool, cond, Option, Some, None, Result, Ok, Err, length, refl, sym, ap, subst, ◌∙◌, inl, inr}
use Rattle.std.specs.Prelude.{IfOk, IfSome, OnOk}
use Rattle.wf_outside.specs.Files.{File, first_bytes}
use Rattle.wf_outside.specs.Images.{DeltaValue, ImageValue}
use Rattle.wf_flat.specs.Counts.{used_of}
use Rattle.wf_flat.proofs.ListLemmas.{if_some_more}
use Rattle.wf_journal.specs.Journals.{JournalValue}
use Rattle.wf_status.specs.declared.status.Status.{Status}
use Rattle.wf_status.specs.declared.status.Status.TheVariants.{Limit, Memory}
use Rattle.wf_status.specs.declared.status.LimitKind.TheVariants as limits
use Rattle.wf_fetch.specs.Fetching.{IsImageStatus}
use Rattle.wf_fetch.specs.Held.{HoldsBytes}
use Rattle.wf_fetch.specs.Loaded.{loaded}
use Rattle.wf_fetch.specs.Stages.{◌>>=◌, IsReadFault}
use Rattle.wf_patches.specs.Needed.{held_in}
use Rattle.wf_patches.specs.Stages.{patches_stage}
use Rattle.wf_fetch.specs.Stages.{image_stage}
use Rattle.wf_check.specs.Stages.{CheckedFilesValue, boot_for, files_stage, frames_stage, held_stage, journal_stage}
use Rattle.wf_check.specs.Checking.{CheckCallsFor, IsAccepted, IsRight, StagesCallFor}
use Rattle.wf_fetch.proofs.StageLemmas.{given, image_cause, image_found, less, not_less, refused}

-- ---- the stages behind each

abbrev pub Held : Type 0
Held = List ℕ → Option (List ℕ)

abbrev pub files_of : ImageValue → JournalValue → List DeltaValue → CheckedFilesValue
files_of image journal deltas = record { image = image; journal = journal; deltas = deltas }

abbrev with_deltas : ImageValue → JournalValue → List DeltaValue → Result CheckedFilesValue Status
with_deltas image journal deltas = Ok (record { image = image; journal = journal; deltas = deltas })

abbrev after_journal : Held → ImageValue → JournalValue → Result CheckedFilesValue Status
after_journal held image journal = patches_stage held image journal.patches >>= with_deltas image journal

abbrev after_image : Held → List ℕ → ImageValue → Result CheckedFilesValue Status
after_image held journal_name image = journal_stage (held journal_name) >>= after_journal held image

image_fails : (held : Held) (image_name journal_name : List ℕ) (status : Status) → image_stage (held image_name) ≡ Err status → held_stage held image_name journal_name ≡ Err status
image_fails held image_name journal_name status e = ap (λ (r : Result ImageValue Status). r >>= after_image held journal_name) e

journal_fails : (held : Held) (image_name journal_name : List ℕ) (image : ImageValue) (status : Status) → image_stage (held image_name) ≡ Ok image
    → journal_stage (held journal_name) ≡ Err status → held_stage held image_name journal_name ≡ Err status
journal_fails held image_name journal_name image status a e =
    ap (λ (r : Result ImageValue Status). r >>= after_image held journal_name) a ∙ ap (λ (r : Result JournalValue Status). r >>= after_journal held image) e

patches_after : (held : Held) (image_name journal_name : List ℕ) (image : ImageValue) (journal : JournalValue) → image_stage (held image_name) ≡ Ok image
    → journal_stage (held journal_name) ≡ Ok journal → held_stage held image_name journal_name ≡ after_journal held image journal
patches_after held image_name journal_name image journal a b =
    ap (λ (r : Result ImageValue Status). r >>= after_image held journal_name) a ∙ ap (λ (r : Result JournalValue Status). r >>= after_journal held image) b

patches_fail : (held : Held) (image_name journal_name : List ℕ) (image : ImageValue) (journal : JournalValue) (status : Status) → image_stage (held image_name) ≡ Ok image
    → journal_stage (held journal_name) ≡ Ok journal → patches_stage held image journal.patches ≡ Err status → held_stage held image_name journal_name ≡ Err status
patches_fail held image_name journal_name image journal status a b e =
    patches_after held image_name journal_name image journal a b ∙ ap (λ (r : Result (List DeltaValue) Status). r >>= with_deltas image journal) e

files_found : (held : Held) (image_name journal_name : List ℕ) (image : ImageValue) (journal : JournalValue) (deltas : List DeltaValue) → image_stage (held image_name) ≡ Ok image
    → journal_stage (held journal_name) ≡ Ok journal → patches_stage held image journal.patches ≡ Ok deltas → held_stage held image_name journal_name ≡ Ok (files_of image journal deltas)
files_found held image_name journal_name image journal deltas a b e =
    patches_after held image_name journal_name image journal a b ∙ ap (λ (r : Result (List DeltaValue) Status). r >>= with_deltas image journal) e

held_fails : (held : Held) (image_name journal_name : List ℕ) (status : Status) → held_stage held image_name journal_name ≡ Err status → files_stage held image_name journal_name ≡ Err status
held_fails held image_name journal_name status e = ap (λ (r : Result CheckedFilesValue Status). r >>= frames_stage) e

files_after : (held : Held) (image_name journal_name : List ℕ) (files : CheckedFilesValue) → held_stage held image_name journal_name ≡ Ok files → files_stage held image_name journal_name ≡ frames_stage files
files_after held image_name journal_name files e = ap (λ (r : Result CheckedFilesValue Status). r >>= frames_stage) e

-- ---- the frames

pub frames_fit : (files : CheckedFilesValue) → used_of (boot_for files) ≤ files.journal.frames → frames_stage files ≡ Ok files
frames_fit files h =
    ap (λ (b : Bool). cond b (refused {A = CheckedFilesValue} (Limit limits.Frames (used_of (boot_for files)) files.journal.frames)) (given files))
    (not_less files.journal.frames (used_of (boot_for files)) h)

frames_lack : (files : CheckedFilesValue) → files.journal.frames < used_of (boot_for files) → frames_stage files ≡ Err (Limit limits.Frames (used_of (boot_for files)) files.journal.frames)
frames_lack files h =
    ap (λ (b : Bool). cond b (refused {A = CheckedFilesValue} (Limit limits.Frames (used_of (boot_for files)) files.journal.frames)) (given files))
    (less files.journal.frames (used_of (boot_for files)) h)

pub frames_told : (files : CheckedFilesValue) (number most : ℕ) → (number ≡ used_of (boot_for files)) × (most ≡ files.journal.frames) × (most < number)
    → frames_stage files ≡ Err (Limit limits.Frames number most)
frames_told files number most h =
    let more : files.journal.frames < number = subst (λ (k : ℕ). k < number) h.1 h.2 in
    frames_lack files (subst (λ (k : ℕ). files.journal.frames < k) h.0 more)
    ∙ ap (λ (n : ℕ). refused {A = CheckedFilesValue} (Limit limits.Frames n files.journal.frames)) (sym h.0)
    ∙ ap (λ (m : ℕ). refused {A = CheckedFilesValue} (Limit limits.Frames number m)) (sym h.1)

-- ---- what the files call for

held_calls : (held : Held) (image_name journal_name : List ℕ) (status : Status)
    → IsReadFault status ⊎ (held_stage held image_name journal_name ≡ Err status) → IsReadFault status ⊎ CheckCallsFor held image_name journal_name status
held_calls held image_name journal_name status h = elim h [
  | inl fault ↦ inl fault
  | inr e ↦ inr (subst (λ (r : Result CheckedFilesValue Status). StagesCallFor r status) (sym (held_fails held image_name journal_name status e)) refl)
]

files_call : (held : Held) (image_name journal_name : List ℕ) (files : CheckedFilesValue) (status : Status) → held_stage held image_name journal_name ≡ Ok files
    → (status ≡ Memory) ⊎ StagesCallFor (frames_stage files) status → IsReadFault status ⊎ CheckCallsFor held image_name journal_name status
files_call held image_name journal_name files status e h = elim h [
  | inl none ↦ inl (inr none)
  | inr calls ↦ inr (subst (λ (r : Result CheckedFilesValue Status). StagesCallFor r status) (sym (files_after held image_name journal_name files e)) calls)
]

accepted : (held : Held) (image_name journal_name : List ℕ) (files : CheckedFilesValue) (count : ℕ) → held_stage held image_name journal_name ≡ Ok files → used_of (boot_for files) ≤ files.journal.frames
    → IsRight files → count ≡ length files.journal.entries → IsAccepted held image_name journal_name count
accepted held image_name journal_name files count e fits right counted =
    record { files = files; is = files_after held image_name journal_name files e ∙ frames_fit files fits; right = right; counted = counted }

-- ---- the same of files of a shelf

both : {A : Type 0} (o : Option A) (P Q R : A → Type 0) → ((x : A) → P x → Q x → R x) → IfSome o P → IfSome o Q → IfSome o R
both None P Q R more p q = tt
both (Some x) P Q R more p q = more x p q

abbrev pub HasImage : Option (List File) → List ℕ → ImageValue → Type 0
HasImage holds name image = IfSome holds (λ files. HoldsBytes (first_bytes name files) (λ bytes. loaded bytes ≡ Some image))

abbrev pub HasJournal : Option (List File) → List ℕ → JournalValue → Type 0
HasJournal holds name journal = IfSome holds (λ files. journal_stage (first_bytes name files) ≡ Ok journal)

-- an answer is that of the stages, or a fault of a read
abbrev pub IsTold : Option (List File) → List ℕ → List ℕ → Status → Type 0
IsTold holds image_name journal_name status = IfSome holds (λ files. IsReadFault status ⊎ (held_stage (held_in files) image_name journal_name ≡ Err status))

-- an answer is what the files call for, or a fault of a read
abbrev pub IsAnswered : Option (List File) → List ℕ → List ℕ → Status → Type 0
IsAnswered holds image_name journal_name status = IfSome holds (λ files. IsReadFault status ⊎ CheckCallsFor (held_in files) image_name journal_name status)

-- files are held
abbrev pub HasFiles : Option (List File) → List ℕ → List ℕ → CheckedFilesValue → Type 0
HasFiles holds image_name journal_name made = IfSome holds (λ files. held_stage (held_in files) image_name journal_name ≡ Ok made)

fault_or : (status : Status) (A B : Type 0) → (A → B) → IsReadFault status ⊎ A → IsReadFault status ⊎ B
fault_or status A B more h = elim h [ inl fault ↦ inl fault | inr a ↦ inr (more a) ]

pub image_told : (holds : Option (List File)) (image_name journal_name : List ℕ) (status : Status)
    → IfSome holds (λ files. IsImageStatus (first_bytes image_name files) status) → IsTold holds image_name journal_name status
image_told holds image_name journal_name status h =
    if_some_more holds (λ (files : List File). IsImageStatus (first_bytes image_name files) status)
    (λ (files : List File). IsReadFault status ⊎ (held_stage (held_in files) image_name journal_name ≡ Err status))
    (λ files d. fault_or status (image_stage (first_bytes image_name files) ≡ Err status) (held_stage (held_in files) image_name journal_name ≡ Err status)
    (λ e. image_fails (held_in files) image_name journal_name status e) (image_cause (first_bytes image_name files) status d)) h

pub journal_told : (holds : Option (List File)) (image_name journal_name : List ℕ) (image : ImageValue) (status : Status) → HasImage holds image_name image
    → IfSome holds (λ files. IsReadFault status ⊎ (journal_stage (first_bytes journal_name files) ≡ Err status)) → IsTold holds image_name journal_name status
journal_told holds image_name journal_name image status p q =
    both holds (λ (files : List File). HoldsBytes (first_bytes image_name files) (λ bytes. loaded bytes ≡ Some image))
    (λ (files : List File). IsReadFault status ⊎ (journal_stage (first_bytes journal_name files) ≡ Err status))
    (λ (files : List File). IsReadFault status ⊎ (held_stage (held_in files) image_name journal_name ≡ Err status))
    (λ files d e. fault_or status (journal_stage (first_bytes journal_name files) ≡ Err status) (held_stage (held_in files) image_name journal_name ≡ Err status)
    (λ f. journal_fails (held_in files) image_name journal_name image status (image_found (first_bytes image_name files) image d) f) e) p q

-- an image and a journal are held
abbrev HasBoth : Option (List File) → List ℕ → List ℕ → ImageValue → JournalValue → Type 0
HasBoth holds image_name journal_name image journal =
    IfSome holds (λ files. (image_stage (first_bytes image_name files) ≡ Ok image) × (journal_stage (first_bytes journal_name files) ≡ Ok journal))

has_both : (holds : Option (List File)) (image_name journal_name : List ℕ) (image : ImageValue) (journal : JournalValue) → HasImage holds image_name image
    → HasJournal holds journal_name journal → HasBoth holds image_name journal_name image journal
has_both holds image_name journal_name image journal p q =
    both holds (λ (files : List File). HoldsBytes (first_bytes image_name files) (λ bytes. loaded bytes ≡ Some image))
    (λ (files : List File). journal_stage (first_bytes journal_name files) ≡ Ok journal)
    (λ (files : List File). (image_stage (first_bytes image_name files) ≡ Ok image) × (journal_stage (first_bytes journal_name files) ≡ Ok journal))
    (λ files d e. (image_found (first_bytes image_name files) image d, e)) p q

pub patches_told : (holds : Option (List File)) (image_name journal_name : List ℕ) (image : ImageValue) (journal : JournalValue) (status : Status) → HasImage holds image_name image
    → HasJournal holds journal_name journal → IfSome holds (λ files. IsReadFault status ⊎ (patches_stage (held_in files) image journal.patches ≡ Err status))
    → IsTold holds image_name journal_name status
patches_told holds image_name journal_name image journal status p q r =
    both holds (λ (files : List File). (image_stage (first_bytes image_name files) ≡ Ok image) × (journal_stage (first_bytes journal_name files) ≡ Ok journal))
    (λ (files : List File). IsReadFault status ⊎ (patches_stage (held_in files) image journal.patches ≡ Err status))
    (λ (files : List File). IsReadFault status ⊎ (held_stage (held_in files) image_name journal_name ≡ Err status))
    (λ files d e. fault_or status (patches_stage (held_in files) image journal.patches ≡ Err status) (held_stage (held_in files) image_name journal_name ≡ Err status)
    (λ f. patches_fail (held_in files) image_name journal_name image journal status d.0 d.1 f) e) (has_both holds image_name journal_name image journal p q) r

pub files_held : (holds : Option (List File)) (image_name journal_name : List ℕ) (image : ImageValue) (journal : JournalValue) (deltas : List DeltaValue) → HasImage holds image_name image
    → HasJournal holds journal_name journal → IfSome holds (λ files. patches_stage (held_in files) image journal.patches ≡ Ok deltas)
    → HasFiles holds image_name journal_name (files_of image journal deltas)
files_held holds image_name journal_name image journal deltas p q r =
    both holds (λ (files : List File). (image_stage (first_bytes image_name files) ≡ Ok image) × (journal_stage (first_bytes journal_name files) ≡ Ok journal))
    (λ (files : List File). patches_stage (held_in files) image journal.patches ≡ Ok deltas)
    (λ (files : List File). held_stage (held_in files) image_name journal_name ≡ Ok (files_of image journal deltas))
    (λ files d e. files_found (held_in files) image_name journal_name image journal deltas d.0 d.1 e) (has_both holds image_name journal_name image journal p q) r

pub told_answer : (holds : Option (List File)) (image_name journal_name : List ℕ) (status : Status) → IsTold holds image_name journal_name status → IsAnswered holds image_name journal_name status
told_answer holds image_name journal_name status h =
    if_some_more holds (λ (files : List File). IsReadFault status ⊎ (held_stage (held_in files) image_name journal_name ≡ Err status))
    (λ (files : List File). IsReadFault status ⊎ CheckCallsFor (held_in files) image_name journal_name status)
    (λ files d. held_calls (held_in files) image_name journal_name status d) h

pub files_answer : (holds : Option (List File)) (image_name journal_name : List ℕ) (made : CheckedFilesValue) (status : Status) → HasFiles holds image_name journal_name made
    → (status ≡ Memory) ⊎ StagesCallFor (frames_stage made) status → IsAnswered holds image_name journal_name status
files_answer holds image_name journal_name made status p h =
    if_some_more holds (λ (files : List File). held_stage (held_in files) image_name journal_name ≡ Ok made)
    (λ (files : List File). IsReadFault status ⊎ CheckCallsFor (held_in files) image_name journal_name status)
    (λ files d. files_call (held_in files) image_name journal_name made status d h) p

pub files_accepted : (holds : Option (List File)) (image_name journal_name : List ℕ) (made : CheckedFilesValue) (count : ℕ) → HasFiles holds image_name journal_name made
    → used_of (boot_for made) ≤ made.journal.frames → IsRight made → count ≡ length made.journal.entries
    → IfSome holds (λ files. IsAccepted (held_in files) image_name journal_name count)
files_accepted holds image_name journal_name made count p fits right counted =
    if_some_more holds (λ (files : List File). held_stage (held_in files) image_name journal_name ≡ Ok made)
    (λ (files : List File). IsAccepted (held_in files) image_name journal_name count)
    (λ files d. accepted (held_in files) image_name journal_name made count d fits right counted) p

-- what holds of a result, by what holds where there is one
pub ok_more : {A : Type 0} (r : Result A Status) (F : Type 0) (P Q : A → Type 0) → (F → (x : A) → P x → Q x) → OnOk r F → IfOk r P → IfOk r Q
ok_more (Ok x) F P Q more f p = more f x p
ok_more (Err status) F P Q more f p = tt
