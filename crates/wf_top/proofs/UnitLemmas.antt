-- The script of the files of a run has few units.
use Rattle.std.proofs.Common.{◌≡◌, ℕ, List, Bool, true, false, cond, Option, Some, None, Result, Ok, Err, subst}
use Rattle.std.specs.Prelude.{IfOk, nat_lt}
use Rattle.wf_outside.specs.Images.{DeltaValue, ImageValue}
use Rattle.wf_script.specs.declared.command.ScriptFault.{ScriptFault}
use Rattle.wf_script.specs.Commands.{ScriptValue}
use Rattle.wf_script.specs.Reading.{script_of}
use Rattle.wf_status.specs.declared.status.Status.{Status}
use Rattle.wf_status.specs.declared.status.Status.TheVariants.{Limit}
use Rattle.wf_status.specs.declared.status.LimitKind.TheVariants.{Frames}
use Rattle.wf_fetch.specs.Stages.{◌>>=◌, bytes_stage}
use Rattle.wf_patches.specs.Stages.{patches_stage}
use Rattle.wf_follow.specs.Unbuilt.{first_unbuilt}
use Rattle.wf_usage.specs.declared.sizes.Sizes.{Sizes}
use Rattle.wf_fetch.specs.Stages.{image_stage}
use Rattle.wf_run.specs.Stages.{RunFilesValue, files_stage, frames_stage, frames_used, held_stage, read_stage, script_stage, unless_unbuilt}
use Rattle.wf_top.proofs.ScriptLemmas.{HasFewUnits, read_few}

-- a stage goes on with what another gave
onward : {A B : Type 0} (P : A → Type 0) (Q : B → Type 0) (r : Result A Status) (f : A → Result B Status) → IfOk r P → ((x : A) → P x → IfOk (f x) Q) → IfOk (r >>= f) Q
onward P Q (Ok x) f p more = more x p
onward P Q (Err status) f p more = tt

-- a stage whatever another gave
whatever : {A B : Type 0} (Q : B → Type 0) (r : Result A Status) (f : A → Result B Status) → ((x : A) → IfOk (f x) Q) → IfOk (r >>= f) Q
whatever Q (Ok x) f more = more x
whatever Q (Err status) f more = tt

staged : (r : Result ScriptValue ScriptFault) → IfOk r HasFewUnits → IfOk (read_stage r) HasFewUnits
staged (Ok script) few = few
staged (Err fault) few = tt

unless : (line : Option ℕ) (script : ScriptValue) → HasFewUnits script → IfOk (unless_unbuilt line script) HasFewUnits
unless None script few = few
unless (Some line) script few = tt

script_few : (harts : ℕ) (held : Option (List ℕ)) → IfOk (script_stage harts held) HasFewUnits
script_few harts held =
    whatever HasFewUnits (bytes_stage held) (λ bytes. read_stage (script_of harts bytes) >>= λ script. unless_unbuilt (first_unbuilt script.commands script.lines) script)
    (λ bytes. onward HasFewUnits HasFewUnits (read_stage (script_of harts bytes)) (λ script. unless_unbuilt (first_unbuilt script.commands script.lines) script) (staged (script_of harts bytes) (read_few harts bytes))
    (λ script few. unless (first_unbuilt script.commands script.lines) script few))

abbrev AreFew : RunFilesValue → Type 0
AreFew files = HasFewUnits files.script

abbrev passed : RunFilesValue → Result RunFilesValue Status
passed files = Ok files

abbrev refused : Status → Result RunFilesValue Status
refused status = Err status

framed : (many : Bool) (status : Status) (files : RunFilesValue) → AreFew files → IfOk (cond many (refused status) (passed files)) AreFew
framed true status files few = tt
framed false status files few = few

abbrev with_deltas : ImageValue → ScriptValue → List DeltaValue → Result RunFilesValue Status
with_deltas image script deltas = Ok (record { image = image; script = script; deltas = deltas })

held_few : (sizes : Sizes) (held : List ℕ → Option (List ℕ)) (image_name script_name : List ℕ) → IfOk (held_stage sizes held image_name script_name) AreFew
held_few sizes held image_name script_name =
    whatever AreFew (image_stage (held image_name)) (λ image. script_stage sizes.harts (held script_name) >>= λ script. patches_stage held image script.patches >>= with_deltas image script)
    (λ image. onward HasFewUnits AreFew (script_stage sizes.harts (held script_name)) (λ script. patches_stage held image script.patches >>= with_deltas image script) (script_few sizes.harts (held script_name))
    (λ script few. whatever AreFew (patches_stage held image script.patches) (with_deltas image script) (λ deltas. few)))

stages_few : (sizes : Sizes) (held : List ℕ → Option (List ℕ)) (image_name script_name : List ℕ) → IfOk (files_stage sizes held image_name script_name) AreFew
stages_few sizes held image_name script_name =
    onward AreFew AreFew (held_stage sizes held image_name script_name) (frames_stage sizes) (held_few sizes held image_name script_name)
    (λ files few. framed (nat_lt sizes.frames (frames_used sizes files.image)) (Limit Frames (frames_used sizes files.image) sizes.frames) files few)

pub files_few : (sizes : Sizes) (held : List ℕ → Option (List ℕ)) (image_name script_name : List ℕ) (files : RunFilesValue) → files_stage sizes held image_name script_name ≡ Ok files → HasFewUnits files.script
files_few sizes held image_name script_name files e = subst (λ (r : Result RunFilesValue Status). IfOk r AreFew) e (stages_few sizes held image_name script_name)
