-- Laws of commands, by their kinds.
use Rattle.std.proofs.Common.{◌≡◌, ◌≤◌, ℕ, List, Option, Some, None, Ok, length, refl, sym, ap, ◌∙◌, arith, subst, Result}
use Rattle.std.specs.Prelude.{false, nat_lt}
use Rattle.std.proofs.lemmas.Bool.Decides.{nat_tests}
use Rattle.elf_write.specs.declared.module.Form.{Form}
use Rattle.elf_write.specs.Written.{written}
use Rattle.rv_asm.specs.Assembled.{assembled}
use Rattle.wf_outside.specs.Files.{File}
use Rattle.wf_flat.specs.declared.event.Entry.{Entry}
use Rattle.wf_legal.specs.Legal.{end_of}
use Rattle.wf_next.specs.Determined.{HartsAreDetermined}
use Rattle.wf_patches.specs.Needed.{held_in}
use Rattle.wf_follow.specs.Unbuilt.{AreBuilt}
use Rattle.wf_follow.specs.Runs.{IsRun, WearsNone}
use Rattle.wf_status.specs.declared.status.Status.{Status}
use Rattle.wf_status.specs.declared.status.Status.TheVariants.{Done}
use Rattle.wf_fetch.specs.Held.{max_file}
use Rattle.wf_fetch.specs.Stages.{bytes_stage}
use Rattle.wf_source.specs.Sources.{HoldsFile, status_of}
use Rattle.wf_check.specs.Laws.{AcceptedAreCalledFor, ChecksAreOne, CountsAreOne}
use Rattle.wf_run.specs.Laws as runs
use Rattle.wf_run.specs.Stages.{RunFilesValue, files_stage}
use Rattle.wf_run.specs.Answers.{start_for}
use Rattle.wf_run.proofs.FileLemmas.{files_built}
use Rattle.wf_gen.specs.Files.{made_files}
use Rattle.wf_usage.specs.declared.command.Command.TheVariants.{Run, Check, Assemble, Make}
use Rattle.wf_usage.specs.declared.sizes.TheConstants.{USUAL}
use Rattle.wf_top.specs.Commands.{HoldsRight, right_line, source_answer}
use Rattle.wf_top.specs.Laws.{AnswersAreOne, OutputsAreCalledFor, OutputsAreOne}
use Rattle.wf_top.specs.Making.{HasLine, ended_line, making_answer, program_name, run_line, script_name}
use Rattle.wf_top.proofs.RunLemmas.{runs_same}

pub answers_are_one : runs.AnswersAreOne → ChecksAreOne → AnswersAreOne
answers_are_one run check (Run image script sizes) held one other p q = run sizes held image script one other p q
answers_are_one run check (Check image journal) held one other p q = check held image journal one other p q
answers_are_one run check (Assemble source form) held one other p q = p ∙ sym q
answers_are_one run check (Make functions) held one other p q = p ∙ sym q

-- a source that is not too long is read
short_is_read : (bytes : List ℕ) → length bytes ≤ max_file → nat_lt max_file (length bytes) ≡ false
short_is_read bytes h = grind (arith, nat_tests)

file_is_called_for : (form : Form) (held : Option (List ℕ)) (text : List ℕ) → HoldsFile form held (λ file. file ≡ text) → Done ≡ source_answer form (bytes_stage held)
file_is_called_for form None text d = absurd d.is
file_is_called_for form (Some bytes) text d =
    let read : bytes_stage (Some bytes) ≡ Ok bytes = rw (short_is_read bytes d.is.0) refl in
    sym (ap (source_answer form) read ∙ ap status_of d.is.1)

-- the line of a run that was made is called for
line_is_called_for : runs.ReportsAreCalledFor → (functions : ℕ) (text : List ℕ) → HasLine functions text → Done ≡ making_answer (made_files functions)
line_is_called_for run functions text d = run USUAL (held_in d.files) program_name script_name d.report d.has ∙ ap making_answer (sym d.made)

pub outputs_are_called_for : runs.ReportsAreCalledFor → AcceptedAreCalledFor → OutputsAreCalledFor
outputs_are_called_for run check (Run image script sizes) held text d = run sizes held image script text d
outputs_are_called_for run check (Check image journal) held text d = check held image journal d.count d.is
outputs_are_called_for run check (Assemble source form) held text d = file_is_called_for form (held source) text d
outputs_are_called_for run check (Make functions) held text d = line_is_called_for run functions text d

-- the lines of one journal
right_lines_are_one : CountsAreOne → (held : List ℕ → Option (List ℕ)) (image journal one other : List ℕ) → HoldsRight held image journal one → HoldsRight held image journal other → one ≡ other
right_lines_are_one law held image journal one other p q = p.text_is ∙ ap right_line (law held image journal p.count q.count p.is q.is) ∙ sym q.text_is

-- the modules of one source
files_are_one : (form : Form) (held : Option (List ℕ)) (one other : List ℕ) → HoldsFile form held (λ file. file ≡ one) → HoldsFile form held (λ file. file ≡ other) → one ≡ other
files_are_one form None one other p q = absurd p.is
files_are_one form (Some bytes) one other p q =
    let a : assembled form bytes ≡ Ok p.means = p.is.1 in
    let b : assembled form bytes ≡ Ok q.means = q.is.1 in
    let modules : p.means ≡ q.means = cc in
    sym p.fits ∙ ap written modules ∙ q.fits

-- the lines of two runs of one script
run_lines_are_one : HartsAreDetermined → (functions : ℕ) (files : RunFilesValue) (one other report again : List ℕ) → AreBuilt files.script.commands → (p : IsRun (start_for USUAL files.deltas files.image) files.script report) → WearsNone p
    → (q : IsRun (start_for USUAL files.deltas files.image) files.script again) → one ≡ run_line functions files p → other ≡ run_line functions files q → one ≡ other
run_lines_are_one law functions files one other report again built p none q is same =
    is ∙ ap (λ (es : List Entry). ended_line functions files.script (end_of (start_for USUAL files.deltas files.image) es).flat.harts) (runs_same law USUAL files report again built p none q) ∙ sym same

-- a run of files has this line
abbrev HasRunLine : ℕ → List ℕ → List ℕ → RunFilesValue → Type 0
HasRunLine functions report text files = (run : IsRun (start_for USUAL files.deltas files.image) files.script report) × (text ≡ run_line functions files run)

lines_are_one : HartsAreDetermined → (functions : ℕ) (one other : List ℕ) (p : HasLine functions one) → WearsNone p.has.run → HasLine functions other → one ≡ other
lines_are_one law functions one other p none q =
    let first_made : made_files functions ≡ Ok p.files = p.made in
    let second_made : made_files functions ≡ Ok q.files = q.made in
    let made : q.files ≡ p.files = cc in
    let found : Result RunFilesValue Status = files_stage USUAL (held_in p.files) program_name script_name in
    let first : found ≡ Ok p.has.files = p.has.is in
    let second : found ≡ Ok q.has.files = ap (λ (files : List File). files_stage USUAL (held_in files) program_name script_name) (sym made) ∙ q.has.is in
    let files : q.has.files ≡ p.has.files = cc in
    let again : HasRunLine functions q.report other p.has.files = subst (HasRunLine functions q.report other) files (q.has.run, q.text_is) in
    run_lines_are_one law functions p.has.files one other p.report q.report (files_built USUAL (held_in p.files) program_name script_name p.has.files p.has.is) p.has.run none again.0 p.text_is again.1

pub outputs_are_one : HartsAreDetermined → runs.ReportsAreOne → CountsAreOne → OutputsAreOne
outputs_are_one law run check (Run image script sizes) held one other p none q = run sizes held image script one other p none q
outputs_are_one law run check (Check image journal) held one other p none q = right_lines_are_one check held image journal one other p q
outputs_are_one law run check (Assemble source form) held one other p none q = files_are_one form (held source) one other p q
outputs_are_one law run check (Make functions) held one other p none q = lines_are_one law functions one other p none q
