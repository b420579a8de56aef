-- Which commands are built so far, and a command that is cut short.
use Rattle.std.specs.Prelude.{ℕ, List, [], ◌∷◌, Bool, true, false, Option, Some, None, ◌≡◌, ◌<◌, if◌then◌else◌, not}
use Rattle.std.specs.List.{AllByRecursion}
use Rattle.wf_script.specs.declared.command.Command.{Command}
use Rattle.wf_script.specs.declared.command.Command.TheVariants.{Step, Tick, Run, Patch, Create, Delete, Tables, Regs, Mem}

-- the command is built: it is none of ticks, nor one that makes a patch ready for them
abbrev pub is_built_command : Command → Bool
is_built_command (Step h n) = true
is_built_command (Run n) = true
is_built_command (Regs hart) = true
is_built_command (Mem va n) = true
is_built_command (Patch index begin) = not begin
is_built_command (Create generation) = true
is_built_command (Delete generation) = true
is_built_command (Tick actor n) = false
is_built_command (Tables generation) = true

-- the line of the first command that is not built; each command has its line
abbrev pub first_unbuilt : List Command → List ℕ → Option ℕ
first_unbuilt [] lines = None
first_unbuilt commands [] = None
first_unbuilt (command ∷ commands) (line ∷ lines) =
    if is_built_command command then first_unbuilt commands lines else Some line

-- all commands are built
abbrev pub AreBuilt : List Command → Type 0
AreBuilt commands = AllByRecursion (λ command. is_built_command command ≡ true) commands

-- a command cut short, after fewer units than it has
abbrev pub IsCut : Command → Command → Type 0
IsCut (Step h k) (Step hart n) = (h ≡ hart) × (k < n)
IsCut (Run k) (Run n) = k < n
IsCut cut command = ⊥
