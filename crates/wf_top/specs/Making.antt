-- The command `make`: the run of a program that is made, with patches for it, and the line that
-- says how it ended.
use Rattle.std.specs.Prelude.{ℕ, List, [], ◌∷◌, ◌++◌, Option, Some, None, Result, Ok, Err, ◌≡◌, codes, length, sum_by}
use Rattle.std.specs.Fmt.{decimal}
use Rattle.rv_asm.specs.declared.fault.AsmFault.{AsmFault}
use Rattle.wf_outside.specs.Files.{File}
use Rattle.wf_flat.specs.State.{HartState}
use Rattle.wf_flat.specs.declared.state.Life.{Life}
use Rattle.wf_flat.specs.declared.state.Life.TheVariants.{Running, Exited, Trapped}
use Rattle.wf_legal.specs.Legal.{end_of}
use Rattle.wf_script.specs.Commands.{ScriptValue, units_of}
use Rattle.wf_status.specs.declared.status.Status.{Status}
use Rattle.wf_source.specs.Sources.{status_of}
use Rattle.wf_follow.specs.Runs.{IsRun}
use Rattle.wf_driver.specs.Machines.{MachineValue}
use Rattle.wf_patches.specs.Needed.{held_in}
use Rattle.wf_gen.specs.Files.{made_files}
use Rattle.wf_usage.specs.declared.sizes.TheConstants.{USUAL}
use Rattle.wf_run.specs.Stages.{RunFilesValue, files_stage}
use Rattle.wf_run.specs.Answers.{HoldsReport, HoldsRun, stages_answer, start_for}

-- the names of the program and of the script, among the files that are made
abbrev pub program_name : List ℕ
program_name = codes "prog.elf"

-- the name of the script that `make` makes
abbrev pub script_name : List ℕ
script_name = codes "steps.txt"

-- the code with which a hart exited, where it did
abbrev pub code_in : Life → Option ℕ
code_in (Exited code) = Some code
code_in Running = None
code_in (Trapped cause value) = None

-- the code with which the first hart exited, where it did
abbrev pub exit_code : List HartState → Option ℕ
exit_code [] = None
exit_code (hart ∷ harts) = code_in hart.life

-- a code in decimal, or `-` where there is none
abbrev pub code_text : Option ℕ → List ℕ
code_text (Some code) = decimal code
code_text None = codes "-"

-- the line of so many functions, patches and units, and of this exit; a newline is 10
abbrev pub line_of : ℕ → ℕ → ℕ → List ℕ → List ℕ
line_of functions patches units exit =
    codes "functions " ++ decimal functions ++ codes " patches " ++ decimal patches
    ++ codes " units " ++ decimal units ++ codes " exit " ++ exit ++ 10 ∷ []

-- The line of a run of a program of so many functions: how many patches its script has and how many
-- units it makes, and the code with which the first of the harts exited.
abbrev pub ended_line : ℕ → ScriptValue → List HartState → List ℕ
ended_line functions script harts =
    line_of functions (length script.patches) (sum_by units_of script.commands)
    (code_text (exit_code harts))

-- the files that are made for so many functions are those of a run, which has this script and which
-- a machine made
pub record HasMade (functions : ℕ) (script : ScriptValue) (machine : MachineValue) : Type 0 where
  pub files : List File
  pub made : made_files functions ≡ Ok files
  pub run : HoldsRun USUAL (held_in files) program_name script_name script machine

-- the line of a run that has a report
abbrev pub run_line : ℕ → (files : RunFilesValue) → {report : List ℕ}
    → IsRun (start_for USUAL files.deltas files.image) files.script report → List ℕ
run_line functions files run =
    ended_line functions files.script
    (end_of (start_for USUAL files.deltas files.image) run.entries).flat.harts

-- the files that are made for so many functions are those of a run, which has a report as `run`
-- puts it, and this is the line of that run
pub record HasLine (functions : ℕ) (text : List ℕ) : Type 0 where
  pub files : List File
  pub made : made_files functions ≡ Ok files
  pub report : List ℕ
  pub has : HoldsReport USUAL (held_in files) program_name script_name report
  pub text_is : text ≡ run_line functions has.files has.run

-- The answer to `make`: that of the run of the files that are made; where a source of theirs is not
-- assembled, its first fault.
abbrev pub making_answer : Result (List File) AsmFault → Status
making_answer (Ok files) =
    stages_answer (files_stage USUAL (held_in files) program_name script_name)
making_answer (Err fault) = status_of (Err fault)
