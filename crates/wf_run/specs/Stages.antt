-- The stages of a run before its first unit: what its files hold, or the answer of the first stage
-- that fails.
use Rattle.std.specs.Prelude.{ℕ, List, Option, Some, None, Result, Ok, Err, if◌then◌else◌, nat_lt}
use Rattle.wf_outside.specs.declared.sizes.TheConstants.{MOST_WRITES, MOST_BIRTHS}
use Rattle.wf_outside.specs.Images.{DeltaValue, ImageValue}
use Rattle.wf_outside.specs.Pages.{LimitsValue}
use Rattle.wf_flat.specs.Boot.{boot_of}
use Rattle.wf_flat.specs.Counts.{used_of}
use Rattle.wf_script.specs.declared.command.ScriptFault.{ScriptFault}
use Rattle.wf_script.specs.declared.command.ScriptFault.TheVariants as faults
use Rattle.wf_script.specs.Commands.{ScriptValue}
use Rattle.wf_script.specs.Reading.{script_of}
use Rattle.wf_status.specs.declared.status.Status.{Status}
use Rattle.wf_status.specs.declared.status.Status.TheVariants.{Limit, Memory, Script, Unbuilt}
use Rattle.wf_status.specs.declared.status.LimitKind.TheVariants.{Frames, Patches, Units}
use Rattle.wf_status.specs.declared.status.Unbuilt.TheVariants as unbuilt
use Rattle.wf_fetch.specs.Stages.{◌>>=◌, bytes_stage, image_stage}
use Rattle.wf_patches.specs.Stages.{patches_stage}
use Rattle.wf_follow.specs.Unbuilt.{first_unbuilt}
use Rattle.wf_usage.specs.declared.sizes.Sizes.{Sizes}

-- the sizes of the machine of a run: its frames, and the whole range of both counts
abbrev pub limits_of : Sizes → LimitsValue
limits_of sizes =
    record { frames = sizes.frames; last_writes = MOST_WRITES; last_birth = MOST_BIRTHS }

-- the answer for a script that is not read
abbrev pub fault_status : ScriptFault → Status
fault_status (faults.At line column) = Script line column
fault_status (faults.Units number) = Limit Units number 1000000
fault_status (faults.Patches number) = Limit Patches number 64
fault_status faults.Memory = Memory

-- a script that was read, or the answer for its first fault
abbrev pub read_stage : Result ScriptValue ScriptFault → Result ScriptValue Status
read_stage (Ok script) = Ok script
read_stage (Err fault) = Err (fault_status fault)

-- a script, or the line of its first command that is not built
abbrev pub unless_unbuilt : Option ℕ → ScriptValue → Result ScriptValue Status
unless_unbuilt None script = Ok script
unless_unbuilt (Some line) script = Err (Unbuilt (unbuilt.Script line))

-- the script of a file, for a run with so many harts
abbrev pub script_stage : ℕ → Option (List ℕ) → Result ScriptValue Status
script_stage harts held = do
  bytes ← bytes_stage held
  script ← read_stage (script_of harts bytes)
  unless_unbuilt (first_unbuilt script.commands script.lines) script

-- what the files of a run mean: its image, its script, and what the patches of the script bring
pub record RunFilesValue : Type 0 where
  pub image : ImageValue
  pub script : ScriptValue
  pub deltas : List DeltaValue

-- what is held under the names of an image and of a script means this, or the answer of the first
-- stage that fails, in this order: image, script, patches
abbrev pub held_stage : Sizes → (List ℕ → Option (List ℕ)) → List ℕ → List ℕ
    → Result RunFilesValue Status
held_stage sizes held image_name script_name = do
  image ← image_stage (held image_name)
  script ← script_stage sizes.harts (held script_name)
  deltas ← patches_stage held image script.patches
  Ok (record { image = image; script = script; deltas = deltas })

-- how many frames the start of a run uses
abbrev pub frames_used : Sizes → ImageValue → ℕ
frames_used sizes image = used_of (boot_of image sizes.harts (limits_of sizes))

-- files whose image has frames enough at its start
abbrev pub frames_stage : Sizes → RunFilesValue → Result RunFilesValue Status
frames_stage sizes files =
    if nat_lt sizes.frames (frames_used sizes files.image)
    then Err (Limit Frames (frames_used sizes files.image) sizes.frames)
    else Ok files

-- what a run starts from, or the answer of the first stage that fails, in this order: image,
-- script, patches, frames
abbrev pub files_stage : Sizes → (List ℕ → Option (List ℕ)) → List ℕ → List ℕ
    → Result RunFilesValue Status
files_stage sizes held image_name script_name = do
  files ← held_stage sizes held image_name script_name
  frames_stage sizes files
