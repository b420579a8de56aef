-- The stages of a run that read one file.
use Rattle.std.proofs.Common.{◌≡◌, ◌≤◌, ◌⊎◌, ℕ, List, false, cond, Option, Some, None, Result, Ok, Err, length, refl, sym, ap, subst, ◌∙◌, inl, inr, arith, sum_by}
use Rattle.std.specs.Prelude.{IfSome, nat_lt}
use Rattle.std.proofs.lemmas.Bool.Decides.{nat_tests}
use Rattle.wf_outside.specs.Files.{File, first_bytes}
use Rattle.wf_flat.proofs.ListLemmas.{if_some_more}
use Rattle.wf_text.proofs.NumberLemmas.{chosen}
use Rattle.wf_text.specs.Lines.{lines_of}
use Rattle.wf_script.specs.declared.command.ScriptFault.{ScriptFault}
use Rattle.wf_script.specs.declared.command.ScriptFault.TheVariants as faults
use Rattle.wf_script.specs.Commands.{IsScript, ScriptValue, units_of}
use Rattle.wf_script.specs.Reading.{IsFaultOf, empty, script_of, told, with_lines, within_limits}
use Rattle.wf_script.proofs.KeptLemmas as kept
use Rattle.wf_script.proofs.LineLemmas.{script_kept}
use Rattle.wf_status.specs.declared.status.Status.{Status}
use Rattle.wf_status.specs.declared.status.Status.TheVariants.{Limit, Memory, Shelf, Unbuilt}
use Rattle.wf_status.specs.declared.status.LimitKind.TheVariants as limits
use Rattle.wf_status.specs.declared.status.Unbuilt.TheVariants as unbuilt
use Rattle.wf_fetch.specs.Fetching.{IsReadStatus}
use Rattle.wf_fetch.specs.Held.{HoldsBytes, max_file}
use Rattle.wf_follow.specs.Unbuilt.{AreBuilt, first_unbuilt}
use Rattle.wf_fetch.specs.Stages.{◌>>=◌, IsReadFault, bytes_stage}
use Rattle.wf_fetch.proofs.StageLemmas.{bind_ok, bytes_long, bytes_read, limit_same, refused}
use Rattle.wf_run.specs.Stages.{fault_status, read_stage, script_stage, unless_unbuilt}
use Rattle.wf_run.proofs.BuiltLemmas.{all_built}

-- ---- the script of a file

abbrev in_script : ScriptValue → Result ScriptValue Status
in_script script = unless_unbuilt (first_unbuilt script.commands script.lines) script

abbrev in_text : ℕ → List ℕ → Result ScriptValue Status
in_text harts bytes = read_stage (script_of harts bytes) >>= in_script

script_after : (harts : ℕ) (held : Option (List ℕ)) (bytes : List ℕ) → HoldsBytes held (λ b. b ≡ bytes) → script_stage harts held ≡ in_text harts bytes
script_after harts held bytes h = ap (λ (r : Result (List ℕ) Status). r >>= in_text harts) (bytes_read max_file held bytes h)

script_built : (harts : ℕ) (held : Option (List ℕ)) (bytes : List ℕ) (script : ScriptValue) → HoldsBytes held (λ b. b ≡ bytes) → script_of harts bytes ≡ Ok script
    → first_unbuilt script.commands script.lines ≡ None → script_stage harts held ≡ Ok script
script_built harts held bytes script h e none =
    script_after harts held bytes h ∙ ap (λ (r : Result ScriptValue ScriptFault). read_stage r >>= in_script) e ∙ ap (λ (o : Option ℕ). unless_unbuilt o script) none

script_unbuilt : (harts : ℕ) (held : Option (List ℕ)) (bytes : List ℕ) (script : ScriptValue) (line : ℕ) → HoldsBytes held (λ b. b ≡ bytes) → script_of harts bytes ≡ Ok script
    → first_unbuilt script.commands script.lines ≡ Some line → script_stage harts held ≡ Err (Unbuilt (unbuilt.Script line))
script_unbuilt harts held bytes script line h e some =
    script_after harts held bytes h ∙ ap (λ (r : Result ScriptValue ScriptFault). read_stage r >>= in_script) e ∙ ap (λ (o : Option ℕ). unless_unbuilt o script) some

script_faulty : (harts : ℕ) (held : Option (List ℕ)) (bytes : List ℕ) (fault : ScriptFault) → HoldsBytes held (λ b. b ≡ bytes) → script_of harts bytes ≡ Err fault
    → script_stage harts held ≡ Err (fault_status fault)
script_faulty harts held bytes fault h e = script_after harts held bytes h ∙ ap (λ (r : Result ScriptValue ScriptFault). read_stage r >>= in_script) e

fault_cause : (harts : ℕ) (held : Option (List ℕ)) (bytes : List ℕ) (fault : ScriptFault) → HoldsBytes held (λ b. b ≡ bytes) → IsFaultOf fault (script_of harts bytes)
    → IsReadFault (fault_status fault) ⊎ (script_stage harts held ≡ Err (fault_status fault))
fault_cause harts held bytes faults.Memory h e = inl (inr refl)
fault_cause harts held bytes (faults.At line column) h e = inr (script_faulty harts held bytes (faults.At line column) h e)
fault_cause harts held bytes (faults.Units number) h e = inr (script_faulty harts held bytes (faults.Units number) h e)
fault_cause harts held bytes (faults.Patches number) h e = inr (script_faulty harts held bytes (faults.Patches number) h e)

read_cause : (harts : ℕ) (held : Option (List ℕ)) (status : Status) → IsReadStatus max_file held status → IsReadFault status ⊎ (script_stage harts held ≡ Err status)
read_cause harts held Shelf h = inl (inl refl)
read_cause harts held Memory h = inl (inr refl)
read_cause harts held (Limit limits.File number most) h =
    inr (ap (λ (r : Result (List ℕ) Status). r >>= in_text harts) (bytes_long max_file held h.2) ∙ ap (λ (s : Status). refused {A = ScriptValue} s) (limit_same max_file number most h.0 h.1))
read_cause harts held other h = absurd h

-- ---- the same of a file of a shelf

pub found_script : (harts : ℕ) (holds : Option (List File)) (name bytes : List ℕ) (script : ScriptValue)
    → IfSome holds (λ files. HoldsBytes (first_bytes name files) (λ held. held ≡ bytes)) → script_of harts bytes ≡ Ok script → first_unbuilt script.commands script.lines ≡ None
    → IfSome holds (λ files. script_stage harts (first_bytes name files) ≡ Ok script)
found_script harts holds name bytes script h e none =
    if_some_more holds (λ (files : List File). HoldsBytes (first_bytes name files) (λ held. held ≡ bytes)) (λ (files : List File). script_stage harts (first_bytes name files) ≡ Ok script)
    (λ files d. script_built harts (first_bytes name files) bytes script d e none) h

pub found_unbuilt : (harts : ℕ) (holds : Option (List File)) (name bytes : List ℕ) (script : ScriptValue) (line : ℕ)
    → IfSome holds (λ files. HoldsBytes (first_bytes name files) (λ held. held ≡ bytes)) → script_of harts bytes ≡ Ok script → first_unbuilt script.commands script.lines ≡ Some line
    → IfSome holds (λ files. IsReadFault (Unbuilt (unbuilt.Script line)) ⊎ (script_stage harts (first_bytes name files) ≡ Err (Unbuilt (unbuilt.Script line))))
found_unbuilt harts holds name bytes script line h e some =
    if_some_more holds (λ (files : List File). HoldsBytes (first_bytes name files) (λ held. held ≡ bytes))
    (λ (files : List File). IsReadFault (Unbuilt (unbuilt.Script line)) ⊎ (script_stage harts (first_bytes name files) ≡ Err (Unbuilt (unbuilt.Script line))))
    (λ files d. inr (script_unbuilt harts (first_bytes name files) bytes script line d e some)) h

pub found_fault : (harts : ℕ) (holds : Option (List File)) (name bytes : List ℕ) (fault : ScriptFault)
    → IfSome holds (λ files. HoldsBytes (first_bytes name files) (λ held. held ≡ bytes)) → IsFaultOf fault (script_of harts bytes)
    → IfSome holds (λ files. IsReadFault (fault_status fault) ⊎ (script_stage harts (first_bytes name files) ≡ Err (fault_status fault)))
found_fault harts holds name bytes fault h e =
    if_some_more holds (λ (files : List File). HoldsBytes (first_bytes name files) (λ held. held ≡ bytes))
    (λ (files : List File). IsReadFault (fault_status fault) ⊎ (script_stage harts (first_bytes name files) ≡ Err (fault_status fault)))
    (λ files d. fault_cause harts (first_bytes name files) bytes fault d e) h

pub found_none : (harts : ℕ) (holds : Option (List File)) (name : List ℕ) (status : Status) → IfSome holds (λ files. IsReadStatus max_file (first_bytes name files) status)
    → IfSome holds (λ files. IsReadFault status ⊎ (script_stage harts (first_bytes name files) ≡ Err status))
found_none harts holds name status h =
    if_some_more holds (λ (files : List File). IsReadStatus max_file (first_bytes name files) status)
    (λ (files : List File). IsReadFault status ⊎ (script_stage harts (first_bytes name files) ≡ Err status))
    (λ files d. read_cause harts (first_bytes name files) status d) h

-- ---- the commands of a script that is found are built

unbuilt_none : (line : Option ℕ) (script made : ScriptValue) → unless_unbuilt line script ≡ Ok made → (line ≡ None) × (script ≡ made)
unbuilt_none None script made e = (refl, cc)
unbuilt_none (Some line) script made e = absurd cc

abbrev as_read : ScriptValue → Result ScriptValue ScriptFault
as_read script = Ok script

read_ok : (r : Result ScriptValue ScriptFault) (script : ScriptValue) → read_stage r ≡ Ok script → r ≡ Ok script
read_ok (Ok made) script e = let same : made ≡ script = cc in ap as_read same
read_ok (Err fault) script e = absurd cc

-- a script was read, and none of its commands is not built
pub record IsFound (harts : ℕ) (script : ScriptValue) : Type 0 where
  pub bytes : List ℕ
  pub read : script_of harts bytes ≡ Ok script
  pub none : first_unbuilt script.commands script.lines ≡ None

stage_found : (harts : ℕ) (held : Option (List ℕ)) (script : ScriptValue) → script_stage harts held ≡ Ok script → IsFound harts script
stage_found harts held script e =
    let a = bind_ok (bytes_stage held) (in_text harts) script e in
    let b = bind_ok (read_stage (script_of harts a.0)) in_script script a.2 in
    let c = unbuilt_none (first_unbuilt b.0.commands b.0.lines) b.0 script b.2 in
    let r : script_of harts a.0 ≡ Ok b.0 = read_ok (script_of harts a.0) b.0 b.1 in
    record { bytes = a.0; read = r ∙ ap as_read c.1; none = ap (λ (s : ScriptValue). first_unbuilt s.commands s.lines) (sym c.1) ∙ c.0 }

abbrev faulty : ScriptFault → Result ScriptValue ScriptFault
faulty fault = Err fault

few : (n m : ℕ) → nat_lt n m ≡ false → m ≤ n
few n m e = grind (arith, nat_tests)

-- a script within the limits, with what that says of it
within : (script made : ScriptValue) → within_limits script ≡ Ok made → (script ≡ made) × (sum_by units_of script.commands ≤ 1000000) × (length script.patches ≤ 64)
unfolding within_limits
within script made e =
    elim (chosen (nat_lt 1000000 (sum_by units_of script.commands)) (faulty (faults.Units (told (sum_by units_of script.commands))))
    (cond (nat_lt 64 (length script.patches)) (faulty (faults.Patches (length script.patches))) (as_read script)) (as_read made) e) [
      | inl p ↦ let wrong : faulty (faults.Units (told (sum_by units_of script.commands))) ≡ as_read made = p.1 in absurd cc
      | inr p ↦ (elim (chosen (nat_lt 64 (length script.patches)) (faulty (faults.Patches (length script.patches))) (as_read script) (as_read made) p.1) [
        | inl q ↦ let wrong : faulty (faults.Patches (length script.patches)) ≡ as_read made = q.1 in absurd cc
        | inr q ↦ let same : as_read script ≡ as_read made = q.1 in (cc, few 1000000 (sum_by units_of script.commands) p.0, few 64 (length script.patches) q.0)
      ])
    ]

-- what is read keeps what a script keeps
script_is : (harts : ℕ) (bytes : List ℕ) (script : ScriptValue) → script_of harts bytes ≡ Ok script → IsScript harts script
unfolding script_of
script_is harts bytes script e =
    let a = kept.bind_ok (with_lines harts empty 1 (lines_of bytes)) within_limits script e in
    let b = within a.0 script a.2 in
    subst (IsScript harts) b.0 (script_kept harts bytes a.0 a.1 b.1 b.2)

pub stage_built : (harts : ℕ) (held : Option (List ℕ)) (script : ScriptValue) → script_stage harts held ≡ Ok script → AreBuilt script.commands
stage_built harts held script e =
    let found = stage_found harts held script e in
    let is = script_is harts found.bytes script found.read in
    all_built script.commands script.lines is.placed found.none
