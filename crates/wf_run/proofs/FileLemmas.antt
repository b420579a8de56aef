-- The stages of a run, one after another, and what its files call for.
use Rattle.std.proofs.Common.{◌≡◌, ◌<◌, ◌≤◌, ◌⊎◌, ℕ, List, Bool, true, false, cond, Option, Some, None, Result, Ok, Err, refl, sym, ap, subst, ◌∙◌, inl, inr}
use Rattle.std.specs.Prelude.{IfOk, IfSome, OnOk}
use Rattle.wf_outside.specs.Files.{File, first_bytes}
use Rattle.wf_outside.specs.Images.{DeltaValue, ImageValue}
use Rattle.wf_flat.proofs.ListLemmas.{if_some_more}
use Rattle.wf_script.specs.Commands.{ScriptValue}
use Rattle.wf_status.specs.declared.status.Status.{Status}
use Rattle.wf_status.specs.declared.status.Status.TheVariants.{Limit, Memory}
use Rattle.wf_status.specs.declared.status.LimitKind.TheVariants as limits
use Rattle.wf_fetch.specs.Fetching.{IsImageStatus}
use Rattle.wf_fetch.specs.Held.{HoldsBytes}
use Rattle.wf_fetch.specs.Loaded.{loaded}
use Rattle.wf_fetch.specs.Stages.{◌>>=◌, IsReadFault}
use Rattle.wf_patches.specs.Needed.{held_in}
use Rattle.wf_patches.specs.Stages.{patches_stage}
use Rattle.wf_follow.specs.Unbuilt.{AreBuilt}
use Rattle.wf_driver.specs.Machines.{MachineValue}
use Rattle.wf_usage.specs.declared.sizes.Sizes.{Sizes}
use Rattle.wf_fetch.specs.Stages.{image_stage}
use Rattle.wf_run.specs.Stages.{RunFilesValue, files_stage, frames_stage, frames_used, held_stage, script_stage}
use Rattle.wf_run.specs.Answers.{CallsFor, HasRun, HoldsRun, stages_answer}
use Rattle.wf_run.specs.Following.{IsStartStatus}
use Rattle.wf_fetch.proofs.StageLemmas.{bind_ok, given, image_cause, image_found, less, not_less, refused}
use Rattle.wf_run.proofs.StageLemmas.{stage_built}

-- ---- the stages behind each

abbrev pub Held : Type 0
Held = List ℕ → Option (List ℕ)

abbrev pub files_of : ImageValue → ScriptValue → List DeltaValue → RunFilesValue
files_of image script deltas = record { image = image; script = script; deltas = deltas }

abbrev with_deltas : ImageValue → ScriptValue → List DeltaValue → Result RunFilesValue Status
with_deltas image script deltas = Ok (record { image = image; script = script; deltas = deltas })

abbrev after_script : Held → ImageValue → ScriptValue → Result RunFilesValue Status
after_script held image script = patches_stage held image script.patches >>= with_deltas image script

abbrev after_image : Sizes → Held → List ℕ → ImageValue → Result RunFilesValue Status
after_image sizes held script_name image = script_stage sizes.harts (held script_name) >>= after_script held image

image_fails : (sizes : Sizes) (held : Held) (image_name script_name : List ℕ) (status : Status) → image_stage (held image_name) ≡ Err status
    → held_stage sizes held image_name script_name ≡ Err status
image_fails sizes held image_name script_name status e = ap (λ (r : Result ImageValue Status). r >>= after_image sizes held script_name) e

script_fails : (sizes : Sizes) (held : Held) (image_name script_name : List ℕ) (image : ImageValue) (status : Status) → image_stage (held image_name) ≡ Ok image
    → script_stage sizes.harts (held script_name) ≡ Err status → held_stage sizes held image_name script_name ≡ Err status
script_fails sizes held image_name script_name image status a e =
    ap (λ (r : Result ImageValue Status). r >>= after_image sizes held script_name) a ∙ ap (λ (r : Result ScriptValue Status). r >>= after_script held image) e

patches_after : (sizes : Sizes) (held : Held) (image_name script_name : List ℕ) (image : ImageValue) (script : ScriptValue) → image_stage (held image_name) ≡ Ok image
    → script_stage sizes.harts (held script_name) ≡ Ok script → held_stage sizes held image_name script_name ≡ after_script held image script
patches_after sizes held image_name script_name image script a b =
    ap (λ (r : Result ImageValue Status). r >>= after_image sizes held script_name) a ∙ ap (λ (r : Result ScriptValue Status). r >>= after_script held image) b

patches_fail : (sizes : Sizes) (held : Held) (image_name script_name : List ℕ) (image : ImageValue) (script : ScriptValue) (status : Status) → image_stage (held image_name) ≡ Ok image
    → script_stage sizes.harts (held script_name) ≡ Ok script → patches_stage held image script.patches ≡ Err status → held_stage sizes held image_name script_name ≡ Err status
patches_fail sizes held image_name script_name image script status a b e =
    patches_after sizes held image_name script_name image script a b ∙ ap (λ (r : Result (List DeltaValue) Status). r >>= with_deltas image script) e

files_found : (sizes : Sizes) (held : Held) (image_name script_name : List ℕ) (image : ImageValue) (script : ScriptValue) (deltas : List DeltaValue) → image_stage (held image_name) ≡ Ok image
    → script_stage sizes.harts (held script_name) ≡ Ok script → patches_stage held image script.patches ≡ Ok deltas → held_stage sizes held image_name script_name ≡ Ok (files_of image script deltas)
files_found sizes held image_name script_name image script deltas a b e =
    patches_after sizes held image_name script_name image script a b ∙ ap (λ (r : Result (List DeltaValue) Status). r >>= with_deltas image script) e

held_fails : (sizes : Sizes) (held : Held) (image_name script_name : List ℕ) (status : Status) → held_stage sizes held image_name script_name ≡ Err status
    → files_stage sizes held image_name script_name ≡ Err status
held_fails sizes held image_name script_name status e = ap (λ (r : Result RunFilesValue Status). r >>= frames_stage sizes) e

frames_fit : (sizes : Sizes) (files : RunFilesValue) → frames_used sizes files.image ≤ sizes.frames → frames_stage sizes files ≡ Ok files
frames_fit sizes files h =
    ap (λ (b : Bool). cond b (refused {A = RunFilesValue} (Limit limits.Frames (frames_used sizes files.image) sizes.frames)) (given files)) (not_less sizes.frames (frames_used sizes files.image) h)

frames_lack : (sizes : Sizes) (files : RunFilesValue) → sizes.frames < frames_used sizes files.image
    → frames_stage sizes files ≡ Err (Limit limits.Frames (frames_used sizes files.image) sizes.frames)
frames_lack sizes files h =
    ap (λ (b : Bool). cond b (refused {A = RunFilesValue} (Limit limits.Frames (frames_used sizes files.image) sizes.frames)) (given files)) (less sizes.frames (frames_used sizes files.image) h)

frames_told : (sizes : Sizes) (files : RunFilesValue) (number most : ℕ) → (number ≡ frames_used sizes files.image) × (most ≡ sizes.frames) × (most < number)
    → frames_stage sizes files ≡ Err (Limit limits.Frames number most)
frames_told sizes files number most h =
    let more : sizes.frames < number = subst (λ (k : ℕ). k < number) h.1 h.2 in
    frames_lack sizes files (subst (λ (k : ℕ). sizes.frames < k) h.0 more)
    ∙ ap (λ (n : ℕ). refused {A = RunFilesValue} (Limit limits.Frames n sizes.frames)) (sym h.0)
    ∙ ap (λ (m : ℕ). refused {A = RunFilesValue} (Limit limits.Frames number m)) (sym h.1)

files_after : (sizes : Sizes) (held : Held) (image_name script_name : List ℕ) (files : RunFilesValue) → held_stage sizes held image_name script_name ≡ Ok files
    → files_stage sizes held image_name script_name ≡ frames_stage sizes files
files_after sizes held image_name script_name files e = ap (λ (r : Result RunFilesValue Status). r >>= frames_stage sizes) e

files_pass : (sizes : Sizes) (held : Held) (image_name script_name : List ℕ) (files : RunFilesValue) → held_stage sizes held image_name script_name ≡ Ok files
    → frames_used sizes files.image ≤ sizes.frames → files_stage sizes held image_name script_name ≡ Ok files
files_pass sizes held image_name script_name files e fits = files_after sizes held image_name script_name files e ∙ frames_fit sizes files fits

-- the commands of files that pass are built
frames_same : (b : Bool) (status : Status) (files made : RunFilesValue) → cond b (refused {A = RunFilesValue} status) (given files) ≡ Ok made → files ≡ made
frames_same true status files made e = absurd cc
frames_same false status files made e = cc

pub files_built : (sizes : Sizes) (held : Held) (image_name script_name : List ℕ) (files : RunFilesValue) → files_stage sizes held image_name script_name ≡ Ok files → AreBuilt files.script.commands
files_built sizes held image_name script_name files e =
    let f = bind_ok (held_stage sizes held image_name script_name) (frames_stage sizes) files e in
    let same : f.0 ≡ files = frames_same _ _ f.0 files f.2 in
    let a = bind_ok (image_stage (held image_name)) (after_image sizes held script_name) f.0 f.1 in
    let b = bind_ok (script_stage sizes.harts (held script_name)) (after_script held a.0) f.0 a.2 in
    let c = bind_ok (patches_stage held a.0 b.0.patches) (with_deltas a.0 b.0) f.0 b.2 in
    let made : given (files_of a.0 b.0 c.0) ≡ given f.0 = c.2 in
    let pair : files_of a.0 b.0 c.0 ≡ f.0 = cc in
    let script : b.0 ≡ files.script = ap (λ (r : RunFilesValue). r.script) (pair ∙ same) in
    subst (λ (s : ScriptValue). AreBuilt s.commands) script (stage_built sizes.harts (held script_name) b.0 b.1)

-- ---- what the files call for

pub calls_for : (sizes : Sizes) (held : Held) (image_name script_name : List ℕ) (status : Status) → files_stage sizes held image_name script_name ≡ Err status
    → CallsFor sizes held image_name script_name status
calls_for sizes held image_name script_name status e = sym (ap stages_answer e)

held_calls : (sizes : Sizes) (held : Held) (image_name script_name : List ℕ) (status : Status)
    → IsReadFault status ⊎ (held_stage sizes held image_name script_name ≡ Err status) → IsReadFault status ⊎ CallsFor sizes held image_name script_name status
held_calls sizes held image_name script_name status h = elim h [
  | inl fault ↦ inl fault
  | inr e ↦ inr (calls_for sizes held image_name script_name status (held_fails sizes held image_name script_name status e))
]

start_calls : (sizes : Sizes) (held : Held) (image_name script_name : List ℕ) (files : RunFilesValue) (status : Status) → held_stage sizes held image_name script_name ≡ Ok files
    → IsStartStatus sizes files.image status → IsReadFault status ⊎ CallsFor sizes held image_name script_name status
start_calls sizes held image_name script_name files Memory e h = inl (inr refl)
start_calls sizes held image_name script_name files (Limit limits.Frames number most) e h =
    inr (calls_for sizes held image_name script_name (Limit limits.Frames number most)
    (files_after sizes held image_name script_name files e ∙ frames_told sizes files number most h))
start_calls sizes held image_name script_name files other e h = absurd h

-- ---- the same of files of a shelf

both : {A : Type 0} (o : Option A) (P Q R : A → Type 0) → ((x : A) → P x → Q x → R x) → IfSome o P → IfSome o Q → IfSome o R
both None P Q R more p q = tt
both (Some x) P Q R more p q = more x p q

abbrev pub HasImage : Option (List File) → List ℕ → ImageValue → Type 0
HasImage holds name image = IfSome holds (λ files. HoldsBytes (first_bytes name files) (λ bytes. loaded bytes ≡ Some image))

abbrev pub HasScript : Option (List File) → List ℕ → ℕ → ScriptValue → Type 0
HasScript holds name harts script = IfSome holds (λ files. script_stage harts (first_bytes name files) ≡ Ok script)

-- an answer is that of the stages, or a fault of a read
abbrev pub IsTold : Option (List File) → Sizes → List ℕ → List ℕ → Status → Type 0
IsTold holds sizes image_name script_name status =
    IfSome holds (λ files. IsReadFault status ⊎ (held_stage sizes (held_in files) image_name script_name ≡ Err status))

-- an answer is what the files call for, or a fault of a read
abbrev pub IsAnswered : Option (List File) → Sizes → List ℕ → List ℕ → Status → Type 0
IsAnswered holds sizes image_name script_name status =
    IfSome holds (λ files. IsReadFault status ⊎ CallsFor sizes (held_in files) image_name script_name status)

-- files are held
abbrev pub HasFiles : Option (List File) → Sizes → List ℕ → List ℕ → RunFilesValue → Type 0
HasFiles holds sizes image_name script_name made =
    IfSome holds (λ files. held_stage sizes (held_in files) image_name script_name ≡ Ok made)

fault_or : (status : Status) (A B : Type 0) → (A → B) → IsReadFault status ⊎ A → IsReadFault status ⊎ B
fault_or status A B more h = elim h [ inl fault ↦ inl fault | inr a ↦ inr (more a) ]

pub image_told : (holds : Option (List File)) (sizes : Sizes) (image_name script_name : List ℕ) (status : Status)
    → IfSome holds (λ files. IsImageStatus (first_bytes image_name files) status) → IsTold holds sizes image_name script_name status
image_told holds sizes image_name script_name status h =
    if_some_more holds (λ (files : List File). IsImageStatus (first_bytes image_name files) status)
    (λ (files : List File). IsReadFault status ⊎ (held_stage sizes (held_in files) image_name script_name ≡ Err status))
    (λ files d. fault_or status (image_stage (first_bytes image_name files) ≡ Err status) (held_stage sizes (held_in files) image_name script_name ≡ Err status)
    (λ e. image_fails sizes (held_in files) image_name script_name status e) (image_cause (first_bytes image_name files) status d)) h

pub script_told : (holds : Option (List File)) (sizes : Sizes) (image_name script_name : List ℕ) (image : ImageValue) (status : Status) → HasImage holds image_name image
    → IfSome holds (λ files. IsReadFault status ⊎ (script_stage sizes.harts (first_bytes script_name files) ≡ Err status)) → IsTold holds sizes image_name script_name status
script_told holds sizes image_name script_name image status p q =
    both holds (λ (files : List File). HoldsBytes (first_bytes image_name files) (λ bytes. loaded bytes ≡ Some image))
    (λ (files : List File). IsReadFault status ⊎ (script_stage sizes.harts (first_bytes script_name files) ≡ Err status))
    (λ (files : List File). IsReadFault status ⊎ (held_stage sizes (held_in files) image_name script_name ≡ Err status))
    (λ files d e. fault_or status (script_stage sizes.harts (first_bytes script_name files) ≡ Err status) (held_stage sizes (held_in files) image_name script_name ≡ Err status)
    (λ f. script_fails sizes (held_in files) image_name script_name image status (image_found (first_bytes image_name files) image d) f) e) p q

-- an image and a script are held
abbrev HasBoth : Option (List File) → Sizes → List ℕ → List ℕ → ImageValue → ScriptValue → Type 0
HasBoth holds sizes image_name script_name image script =
    IfSome holds (λ files. (image_stage (first_bytes image_name files) ≡ Ok image) × (script_stage sizes.harts (first_bytes script_name files) ≡ Ok script))

has_both : (holds : Option (List File)) (sizes : Sizes) (image_name script_name : List ℕ) (image : ImageValue) (script : ScriptValue) → HasImage holds image_name image
    → HasScript holds script_name sizes.harts script → HasBoth holds sizes image_name script_name image script
has_both holds sizes image_name script_name image script p q =
    both holds (λ (files : List File). HoldsBytes (first_bytes image_name files) (λ bytes. loaded bytes ≡ Some image))
    (λ (files : List File). script_stage sizes.harts (first_bytes script_name files) ≡ Ok script)
    (λ (files : List File). (image_stage (first_bytes image_name files) ≡ Ok image) × (script_stage sizes.harts (first_bytes script_name files) ≡ Ok script))
    (λ files d e. (image_found (first_bytes image_name files) image d, e)) p q

pub patches_told : (holds : Option (List File)) (sizes : Sizes) (image_name script_name : List ℕ) (image : ImageValue) (script : ScriptValue) (status : Status) → HasImage holds image_name image
    → HasScript holds script_name sizes.harts script → IfSome holds (λ files. IsReadFault status ⊎ (patches_stage (held_in files) image script.patches ≡ Err status))
    → IsTold holds sizes image_name script_name status
patches_told holds sizes image_name script_name image script status p q r =
    both holds (λ (files : List File). (image_stage (first_bytes image_name files) ≡ Ok image) × (script_stage sizes.harts (first_bytes script_name files) ≡ Ok script))
    (λ (files : List File). IsReadFault status ⊎ (patches_stage (held_in files) image script.patches ≡ Err status))
    (λ (files : List File). IsReadFault status ⊎ (held_stage sizes (held_in files) image_name script_name ≡ Err status))
    (λ files d e. fault_or status (patches_stage (held_in files) image script.patches ≡ Err status) (held_stage sizes (held_in files) image_name script_name ≡ Err status)
    (λ f. patches_fail sizes (held_in files) image_name script_name image script status d.0 d.1 f) e) (has_both holds sizes image_name script_name image script p q) r

pub files_held : (holds : Option (List File)) (sizes : Sizes) (image_name script_name : List ℕ) (image : ImageValue) (script : ScriptValue) (deltas : List DeltaValue) → HasImage holds image_name image
    → HasScript holds script_name sizes.harts script → IfSome holds (λ files. patches_stage (held_in files) image script.patches ≡ Ok deltas)
    → HasFiles holds sizes image_name script_name (files_of image script deltas)
files_held holds sizes image_name script_name image script deltas p q r =
    both holds (λ (files : List File). (image_stage (first_bytes image_name files) ≡ Ok image) × (script_stage sizes.harts (first_bytes script_name files) ≡ Ok script))
    (λ (files : List File). patches_stage (held_in files) image script.patches ≡ Ok deltas)
    (λ (files : List File). held_stage sizes (held_in files) image_name script_name ≡ Ok (files_of image script deltas))
    (λ files d e. files_found sizes (held_in files) image_name script_name image script deltas d.0 d.1 e) (has_both holds sizes image_name script_name image script p q) r

pub told_answer : (holds : Option (List File)) (sizes : Sizes) (image_name script_name : List ℕ) (status : Status) → IsTold holds sizes image_name script_name status
    → IsAnswered holds sizes image_name script_name status
told_answer holds sizes image_name script_name status h =
    if_some_more holds (λ (files : List File). IsReadFault status ⊎ (held_stage sizes (held_in files) image_name script_name ≡ Err status))
    (λ (files : List File). IsReadFault status ⊎ CallsFor sizes (held_in files) image_name script_name status)
    (λ files d. held_calls sizes (held_in files) image_name script_name status d) h

pub start_answer : (holds : Option (List File)) (sizes : Sizes) (image_name script_name : List ℕ) (made : RunFilesValue) (status : Status) → HasFiles holds sizes image_name script_name made
    → IsStartStatus sizes made.image status → IsAnswered holds sizes image_name script_name status
start_answer holds sizes image_name script_name made status p h =
    if_some_more holds (λ (files : List File). held_stage sizes (held_in files) image_name script_name ≡ Ok made)
    (λ (files : List File). IsReadFault status ⊎ CallsFor sizes (held_in files) image_name script_name status)
    (λ files d. start_calls sizes (held_in files) image_name script_name made status d h) p

pub run_held : (holds : Option (List File)) (sizes : Sizes) (image_name script_name : List ℕ) (made : RunFilesValue) (script : ScriptValue) (machine : MachineValue)
    → HasFiles holds sizes image_name script_name made → frames_used sizes made.image ≤ sizes.frames → script ≡ made.script → HasRun sizes made machine
    → IfSome holds (λ files. HoldsRun sizes (held_in files) image_name script_name script machine)
run_held holds sizes image_name script_name made script machine p fits is run =
    if_some_more holds (λ (files : List File). held_stage sizes (held_in files) image_name script_name ≡ Ok made)
    (λ (files : List File). HoldsRun sizes (held_in files) image_name script_name script machine)
    (λ files d. record { files = made; is = files_pass sizes (held_in files) image_name script_name made d fits; script_is = is; made = run }) p

-- what holds of a result, by what holds where there is one
pub ok_more : {A : Type 0} (r : Result A Status) (F : Type 0) (P Q R : A → Type 0) → (F → (x : A) → P x → Q x → R x) → OnOk r F → IfOk r P → IfOk r Q → IfOk r R
ok_more (Ok x) F P Q R more f p q = more f x p q
ok_more (Err status) F P Q R more f p q = tt
