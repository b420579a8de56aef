-- Stages of what files mean: each goes on with what the one before gave, and the first that fails
-- answers.
use Rattle.std.specs.Prelude.{◌≡◌, ◌+◌, ◌⊎◌, ℕ, List, Option, Some, None, Result, Ok, Err, if◌then◌else◌, length, nat_lt}
use Rattle.wf_outside.specs.Images.{ImageValue}
use Rattle.elf_load.specs.Loaded.{image_of}
use Rattle.wf_status.specs.declared.rules.ImageRule.{ImageRule}
use Rattle.wf_status.specs.declared.status.Status.{Status}
use Rattle.wf_status.specs.declared.status.Status.TheVariants.{Image, Limit, Memory, Shelf}
use Rattle.wf_status.specs.declared.status.LimitKind.TheVariants.{File}
use Rattle.wf_fetch.specs.Held.{max_file}
use Rattle.wf_fetch.specs.Loaded.{elf_of, image_fault}

-- a stage goes on with what another gave
infixl 10 ◌>>=◌
abbrev pub ◌>>=◌ : {A B : Type 0} → Result A Status → (A → Result B Status) → Result B Status
(Ok x) >>= f = f x
(Err status) >>= f = Err status

-- the bytes of a file that is held, and has at most so many; the read of one that is not held fails
abbrev pub bytes_within : ℕ → Option (List ℕ) → Result (List ℕ) Status
bytes_within most None = Err Shelf
bytes_within most (Some bytes) =
    if nat_lt most (length bytes) then Err (Limit File (most + 1) most) else Ok bytes

-- the bytes of a file that is held, and not longer than a file may be
abbrev pub bytes_stage : Option (List ℕ) → Result (List ℕ) Status
bytes_stage held = bytes_within max_file held

-- an image, or the first rule that its bytes break, with its place
abbrev pub unless_broken : Option (ImageRule × ℕ) → ImageValue → Result ImageValue Status
unless_broken None image = Ok image
unless_broken (Some fault) image = Err (Image fault.0 fault.1)

-- the image of a file
abbrev pub image_stage : Option (List ℕ) → Result ImageValue Status
image_stage held = do
  bytes ← bytes_stage held
  unless_broken (image_fault bytes) (image_of (elf_of bytes))

-- a read failed, or memory ran out
abbrev pub IsReadFault : Status → Type 0
IsReadFault answer = (answer ≡ Shelf) ⊎ (answer ≡ Memory)
