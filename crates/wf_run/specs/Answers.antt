-- What the files of a run call for.
use Rattle.std.specs.Prelude.{ℕ, List, Option, Result, Ok, Err, ◌≡◌, ◌≢◌, ◌⊎◌}
use Rattle.wf_outside.specs.Images.{DeltaValue, ImageValue}
use Rattle.wf_script.specs.Commands.{ScriptValue}
use Rattle.wf_status.specs.declared.status.Status.{Status}
use Rattle.wf_status.specs.declared.status.Status.TheVariants.{Done, Sink, Words}
use Rattle.wf_patches.specs.Needed as patches
use Rattle.wf_legal.specs.Legal.{IsLegal, Moment, end_of}
use Rattle.wf_follow.specs.Places.{Place, place_at}
use Rattle.wf_follow.specs.Follows.{Follows}
use Rattle.wf_follow.specs.Runs.{IsRun, start_of}
use Rattle.wf_driver.specs.Machines.{MachineValue, moment_of}
use Rattle.wf_usage.specs.declared.sizes.Sizes.{Sizes}
use Rattle.wf_fetch.specs.Stages.{image_stage}
use Rattle.wf_run.specs.Stages.{RunFilesValue, files_stage, limits_of, script_stage}

-- the moment at the start of a run
abbrev pub start_for : Sizes → List DeltaValue → ImageValue → Moment
start_for sizes deltas image = start_of deltas image sizes.harts (limits_of sizes)

-- what the stages of a run call for: the answer of the first that fails; else that it is done
abbrev pub stages_answer : Result RunFilesValue Status → Status
stages_answer (Err answer) = answer
stages_answer (Ok files) = Done

-- What is held calls for this answer to a run of the script of one name on the image of another,
-- where no read or put fails and memory suffices.
abbrev pub CallsFor : Sizes → (List ℕ → Option (List ℕ)) → List ℕ → List ℕ → Status → Type 0
CallsFor sizes held image script answer =
    answer ≡ stages_answer (files_stage sizes held image script)

-- A machine made one run of the flat machine, from its start on: of one journal, which is legal and
-- follows the script command by command, with the listings.
pub record HasRun (sizes : Sizes) (files : RunFilesValue) (machine : MachineValue) : Type 0 where
  pub place : Place
  pub legal : IsLegal (start_for sizes files.deltas files.image) machine.entries
  pub follows : Follows files.script.commands
      (place_at (start_for sizes files.deltas files.image)) machine.entries machine.listings
      place
  pub reached : moment_of machine
      ≡ end_of (start_for sizes files.deltas files.image) machine.entries

-- what is held under the names is that of a run, which has this script and which a machine made
pub record HoldsRun (sizes : Sizes) (held : List ℕ → Option (List ℕ))
    (image_name script_name : List ℕ) (script : ScriptValue) (machine : MachineValue)
    : Type 0 where
  pub files : RunFilesValue
  pub is : files_stage sizes held image_name script_name ≡ Ok files
  pub script_is : script ≡ files.script
  pub made : HasRun sizes files machine

-- what is held under the names is that of a run with this report
pub record HoldsReport (sizes : Sizes) (held : List ℕ → Option (List ℕ)) (image script : List ℕ)
    (text : List ℕ) : Type 0 where
  pub files : RunFilesValue
  pub is : files_stage sizes held image script ≡ Ok files
  pub run : IsRun (start_for sizes files.deltas files.image) files.script text

-- there is an image, with P
pub record OfImage (held : Option (List ℕ)) (P : ImageValue → Type 0) : Type 0 where
  pub image : ImageValue
  pub is : image_stage held ≡ Ok image
  pub fits : P image

-- there is a script, for a run with so many harts, with P
pub record OfScript (harts : ℕ) (held : Option (List ℕ)) (P : ScriptValue → Type 0)
    : Type 0 where
  pub script : ScriptValue
  pub is : script_stage harts held ≡ Ok script
  pub fits : P script

-- P of the name of a needed file of a run: of the image; of the script, where there is an image; of
-- one that is read for its patches, where there are both
abbrev pub OfNeeded : Sizes → (List ℕ → Option (List ℕ)) → List ℕ → List ℕ → (List ℕ → Type 0)
    → Type 0
OfNeeded sizes held image_name script_name P =
    P image_name
    ⊎ OfImage (held image_name)
    (λ image. P script_name
    ⊎ OfScript sizes.harts (held script_name)
    (λ script. patches.OfNeeded held image script.patches P))

-- what a run may answer where it has no report, and nothing is known of what is held
abbrev pub MayFail : Status → Type 0
MayFail answer = (answer ≢ Done) × (answer ≢ Words) × (answer ≢ Sink)
