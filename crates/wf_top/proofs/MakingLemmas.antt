-- The run that `make` makes, and its line.
use Rattle.std.proofs.Common.{◌≡◌, ◌≢◌, ◌∙◌, ◌⊎◌, List, ℕ, Ok, Err, sym, ap, subst, inl, inr}
use Rattle.rv_asm.specs.declared.fault.AsmFault.{AsmFault}
use Rattle.rv_asm.specs.declared.fault.AsmFault.TheVariants as fault
use Rattle.rv_asm.specs.Answers.{IsFaultOf}
use Rattle.wf_outside.specs.Files.{File}
use Rattle.wf_status.specs.declared.status.Status.{Status}
use Rattle.wf_status.specs.declared.status.Status.TheVariants.{Memory, Shelf}
use Rattle.wf_source.specs.Sources.{status_of}
use Rattle.wf_fetch.specs.Stages.{IsReadFault}
use Rattle.wf_gen.specs.Files.{made_files}
use Rattle.wf_legal.specs.Legal.{Moment}
use Rattle.wf_script.specs.Commands.{ScriptValue}
use Rattle.wf_report.specs.Reports.{report_bytes}
use Rattle.wf_driver.specs.Machines.{MachineValue}
use Rattle.wf_patches.specs.Needed.{held_in}
use Rattle.wf_usage.specs.declared.sizes.TheConstants.{USUAL}
use Rattle.wf_run.specs.Answers as runs
use Rattle.wf_run.specs.Answers.{MayFail}
use Rattle.wf_top.specs.Making.{HasLine, HasMade, ended_line, making_answer, program_name, script_name}
use Rattle.wf_top.proofs.ScriptLemmas.{HasFewUnits}
use Rattle.wf_top.proofs.UnitLemmas.{files_few}

-- its line
pub line_is : (functions : ℕ) (script : ScriptValue) (machine : MachineValue) (text : List ℕ) → HasMade functions script machine
    → text ≡ ended_line functions script machine.flat.harts → HasLine functions text
line_is functions script machine text made t = record {
  files = made.files;
  made = made.made;
  report = report_bytes made.run.files.script.patches machine.entries machine.listings machine.flat;
  has = record {
    files = made.run.files;
    is = made.run.is;
    run = record {
      entries = machine.entries;
      listings = machine.listings;
      place = made.run.made.place;
      legal = made.run.made.legal;
      follows = made.run.made.follows;
      text_is = ap (λ (m : Moment). report_bytes made.run.files.script.patches machine.entries machine.listings m.flat) made.run.made.reached;
    };
  };
  text_is =
      t ∙ ap (λ (s : ScriptValue). ended_line functions s machine.flat.harts) made.run.script_is
      ∙ ap (λ (m : Moment). ended_line functions made.run.files.script m.flat.harts) made.run.made.reached;
}

-- the units of its script are few
pub made_few : (functions : ℕ) (script : ScriptValue) (machine : MachineValue) → HasMade functions script machine → HasFewUnits script
made_few functions script machine made =
    subst HasFewUnits (sym made.run.script_is) (files_few USUAL (held_in made.files) program_name script_name made.run.files made.run.is)

-- what the run of the files is refused for is the answer to `make`
pub called_told : (functions : ℕ) (files : List File) (status : Status) → made_files functions ≡ Ok files → IsReadFault status ⊎ runs.CallsFor USUAL (held_in files) program_name script_name status
    → IsReadFault status ⊎ (status ≡ making_answer (made_files functions))
called_told functions files status made h = elim h [ inl f ↦ inl f | inr e ↦ inr (e ∙ sym (ap making_answer made)) ]

-- and so is the fault of a source
pub fault_told : (functions : ℕ) (cause : AsmFault) (status : Status) → status ≡ status_of (Err cause) → IsFaultOf cause (made_files functions)
    → IsReadFault status ⊎ (status ≡ making_answer (made_files functions))
fault_told functions fault.Memory status e f = inl (inr e)
fault_told functions (fault.At line rule) status e f = inr (e ∙ sym (ap making_answer f))

pub fault_kind : (cause : AsmFault) (status : Status) → status ≡ status_of (Err cause) → MayFail status × (status ≢ Shelf)
fault_kind fault.Memory status e = ((λ d. absurd cc, λ d. absurd cc, λ d. absurd cc), λ d. absurd cc)
fault_kind (fault.At line rule) status e = ((λ d. absurd cc, λ d. absurd cc, λ d. absurd cc), λ d. absurd cc)

-- an answer in place of a fault of reading
abbrev pub IsUnread : Status → Status → Type 0
IsUnread status result = (result ≡ Memory) ⊎ ((result ≡ status) × (status ≢ Shelf))

pub unread_told : (C : Status → Type 0) (status result : Status) → IsUnread status result → IsReadFault status ⊎ C status → IsReadFault result ⊎ C result
unread_told C status result u h = elim u [ inl e ↦ inl (inr e) | inr s ↦ subst (λ (x : Status). IsReadFault x ⊎ C x) (sym s.0) h ]
