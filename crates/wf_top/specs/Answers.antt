-- What a command answers and puts, by its words and by what the shelf holds.
use Rattle.std.specs.Prelude.{ℕ, List, Option, ◌≡◌, ◌⊎◌, IfSome}
use Rattle.wf_outside.specs.Files.{File}
use Rattle.wf_outside.specs.Puts.{Appends, AppendsPrefix}
use Rattle.wf_status.specs.declared.status.Status.{Status}
use Rattle.wf_status.specs.declared.status.Status.TheVariants.{Shelf, Sink, Memory}
use Rattle.wf_patches.specs.Needed.{held_in}
use Rattle.wf_usage.specs.declared.command.Command.{Command}
use Rattle.wf_usage.specs.Words.{asked_by}
use Rattle.wf_top.specs.Commands.{IsOutput, files_for}

-- P of the command that words ask for and of what is held, where the words are those of a command
-- and the shelf tells what it holds or the command reads no file
abbrev pub IfAsked : List (List ℕ) → Option (List File)
    → (Command → (List ℕ → Option (List ℕ)) → Type 0) → Type 0
IfAsked words holds P =
    IfSome (asked_by words)
    (λ command. IfSome (files_for command holds) (λ files. P command (held_in files)))

-- a read or a put failed, or memory ran out
abbrev pub IsFault : Status → Type 0
IsFault answer = (answer ≡ Shelf) ⊎ ((answer ≡ Sink) ⊎ (answer ≡ Memory))

-- what was put behind the output so far is what a command puts
pub record PutsOutput (command : Command) (held : List ℕ → Option (List ℕ))
    (before now : Option (List ℕ)) : Type 0 where
  pub text : List ℕ
  pub is : IsOutput command held text
  pub appended : Appends before now text

-- what was put behind the output so far is a front of what a command puts
pub record PutsFront (command : Command) (held : List ℕ → Option (List ℕ))
    (before now : Option (List ℕ)) : Type 0 where
  pub text : List ℕ
  pub is : IsOutput command held text
  pub appended : AppendsPrefix before now text
