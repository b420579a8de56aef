-- The commands: which files each reads, what it puts, and what its files call for.
use Rattle.std.specs.Prelude.{ℕ, List, [], ◌∷◌, ◌++◌, Option, Some, Result, Ok, Err, ◌≡◌, codes}
use Rattle.std.specs.Fmt.{decimal}
use Rattle.elf_write.specs.declared.module.Form.{Form}
use Rattle.rv_asm.specs.Assembled.{assembled}
use Rattle.wf_outside.specs.Files.{File}
use Rattle.wf_status.specs.declared.status.Status.{Status}
use Rattle.wf_fetch.specs.Stages.{bytes_stage}
use Rattle.wf_source.specs.Sources.{HoldsFile, status_of}
use Rattle.wf_check.specs.Checking.{CheckCallsFor, IsAccepted}
use Rattle.wf_check.specs.Checking as checks
use Rattle.wf_patches.specs.Needed.{OfSome}
use Rattle.wf_follow.specs.Runs.{WearsNone}
use Rattle.wf_run.specs.Answers.{HoldsReport}
use Rattle.wf_run.specs.Answers as runs
use Rattle.wf_gen.specs.Files.{made_files}
use Rattle.wf_usage.specs.declared.command.Command.{Command}
use Rattle.wf_usage.specs.declared.command.Command.TheVariants.{Run, Check, Assemble, Make}
use Rattle.wf_top.specs.Making.{HasLine, making_answer}

-- the line that says that so many entries are right; a newline is 10
abbrev pub right_line : ℕ → List ℕ
right_line n = codes "ok " ++ decimal n ++ 10 ∷ []

-- an image is held and a journal, in which all is right, and this line says so
pub record HoldsRight (held : List ℕ → Option (List ℕ)) (image journal : List ℕ)
    (text : List ℕ) : Type 0 where
  pub count : ℕ
  pub is : IsAccepted held image journal count
  pub text_is : text ≡ right_line count

-- the files that a command may read, where the shelf tells what it holds; `make` reads none,
-- whatever the shelf holds
abbrev pub files_for : Command → Option (List File) → Option (List File)
files_for (Run image script sizes) holds = holds
files_for (Check image journal) holds = holds
files_for (Assemble source form) holds = holds
files_for (Make functions) holds = Some []

-- What a command puts, by what is held under each name. Of a run it is the report of one run of the
-- flat machine, which follows the script.
abbrev pub IsOutput : Command → (List ℕ → Option (List ℕ)) → List ℕ → Type 0
IsOutput (Run image script sizes) held text = HoldsReport sizes held image script text
IsOutput (Check image journal) held text = HoldsRight held image journal text
IsOutput (Assemble source form) held text = HoldsFile form (held source) (λ file. file ≡ text)
IsOutput (Make functions) held text = HasLine functions text

-- the answer to an assembly of this form, by the bytes of the source's file: its first fault, or
-- that its file was put; or the answer where they are not read
abbrev pub source_answer : Form → Result (List ℕ) Status → Status
source_answer form (Ok bytes) = status_of (assembled form bytes)
source_answer form (Err answer) = answer

-- what is held under each name calls for this answer to a command, where no read or put fails and
-- memory suffices
abbrev pub CallsFor : Command → (List ℕ → Option (List ℕ)) → Status → Type 0
CallsFor (Run image script sizes) held answer = runs.CallsFor sizes held image script answer
CallsFor (Check image journal) held answer = CheckCallsFor held image journal answer
CallsFor (Assemble source form) held answer =
    answer ≡ source_answer form (bytes_stage (held source))
CallsFor (Make functions) held answer = answer ≡ making_answer (made_files functions)

-- in the run that a command tells of, if it does, no frame is worn
abbrev pub WearsNoFrame : (command : Command) (held : List ℕ → Option (List ℕ)) (text : List ℕ)
    → IsOutput command held text → Type 0
WearsNoFrame (Run image script sizes) held text output = WearsNone output.run
WearsNoFrame (Check image journal) held text output = Unit {0}
WearsNoFrame (Assemble source form) held text output = Unit {0}
WearsNoFrame (Make functions) held text output = WearsNone output.has.run

-- P of the name of a file that a command may read: for a run and a check of some name, since the
-- script or the journal names further files, and its patches too; for `make` of none
abbrev pub OfNamed : Command → (List ℕ → Type 0) → Type 0
OfNamed (Run image script sizes) P = OfSome P
OfNamed (Check image journal) P = OfSome P
OfNamed (Assemble source form) P = P source
OfNamed (Make functions) P = ⊥

-- P of the name of a needed file of a command: of the image or the source; of the script or the
-- journal where there is an image; of those that are read for the patches that it names
abbrev pub OfNeeded : Command → (List ℕ → Option (List ℕ)) → (List ℕ → Type 0) → Type 0
OfNeeded (Run image script sizes) held P = runs.OfNeeded sizes held image script P
OfNeeded (Check image journal) held P = checks.OfNeeded held image journal P
OfNeeded (Assemble source form) held P = P source
OfNeeded (Make functions) held P = ⊥
