-- What holds of all commands and files.
use Rattle.std.specs.Prelude.{ℕ, List, Option, ◌≡◌}
use Rattle.wf_status.specs.declared.status.Status.{Status}
use Rattle.wf_status.specs.declared.status.Status.TheVariants.{Done}
use Rattle.wf_usage.specs.declared.command.Command.{Command}
use Rattle.wf_top.specs.Commands.{CallsFor, IsOutput, WearsNoFrame}

-- files call for at most one answer to a command
abbrev pub AnswersAreOne : Type 0
AnswersAreOne =
    (command : Command) (held : List ℕ → Option (List ℕ)) (one other : Status)
    → CallsFor command held one → CallsFor command held other → one ≡ other

-- a command puts at most one text, where in the run of one no frame is worn
abbrev pub OutputsAreOne : Type 0
OutputsAreOne =
    (command : Command) (held : List ℕ → Option (List ℕ)) (one other : List ℕ)
    → (output : IsOutput command held one) → WearsNoFrame command held one output
    → IsOutput command held other → one ≡ other

-- where there is something to put, that is called for
abbrev pub OutputsAreCalledFor : Type 0
OutputsAreCalledFor =
    (command : Command) (held : List ℕ → Option (List ℕ)) (text : List ℕ)
    → IsOutput command held text → CallsFor command held Done
