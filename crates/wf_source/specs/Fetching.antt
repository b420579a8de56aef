-- Why a source gives no file.
use Rattle.std.specs.Prelude.{◌≡◌, ℕ, List, Option}
use Rattle.elf_write.specs.declared.module.Form.{Form}
use Rattle.rv_asm.specs.Assembled.{assembled}
use Rattle.wf_status.specs.declared.status.Status.{Status}
use Rattle.wf_status.specs.declared.status.Status.TheVariants.{Source, Shelf, Memory, Limit}
use Rattle.wf_status.specs.declared.status.LimitKind.TheVariants.{File}
use Rattle.wf_fetch.specs.Held.{HoldsBytes}
use Rattle.wf_fetch.specs.Fetching.{IsLimit}
use Rattle.wf_source.specs.Sources.{status_of}

-- the statuses of a source's bytes for a file of this form, and when they come
abbrev pub IsFileStatus : Form → List ℕ → Status → Type 0
IsFileStatus form source Memory = Unit {0}
IsFileStatus form source (Source rule line) =
    status_of (assembled form source) ≡ Source rule line
IsFileStatus form source status = ⊥

-- the statuses of a source for a file of this form, and what they say of what is held
abbrev pub IsSourceStatus : Form → Option (List ℕ) → Status → Type 0
IsSourceStatus form held Shelf = Unit {0}
IsSourceStatus form held Memory = Unit {0}
IsSourceStatus form held (Limit File number most) = IsLimit held number most
IsSourceStatus form held (Source rule line) =
    HoldsBytes held (λ bytes. IsFileStatus form bytes (Source rule line))
IsSourceStatus form held status = ⊥

-- what the fetch of a file may answer where nothing is known of what is held
abbrev pub MayFetchFile : Status → Type 0
MayFetchFile Shelf = Unit {0}
MayFetchFile Memory = Unit {0}
MayFetchFile (Limit File number most) = Unit {0}
MayFetchFile (Source rule line) = Unit {0}
MayFetchFile status = ⊥
