-- The commands of a script, and the units of work that they count for.
use Rattle.std.specs.Prelude.{◌≡◌, ◌<◌, ◌≤◌, ◌%◌, ◌^◌, ℕ, List, length, sum_by}
use Rattle.std.specs.List.{AllByRecursion}
use Rattle.wf_flat.specs.declared.event.Actor.{Actor}
use Rattle.wf_flat.specs.declared.event.Actor.TheVariants as actor
use Rattle.wf_script.specs.declared.command.Command.{Command}
use Rattle.wf_script.specs.declared.command.Command.TheVariants.{Step, Tick, Run, Patch, Create, Delete, Tables, Regs, Mem}

-- a script, without where it lies in memory: its commands, the line of each, and the names of its
-- patches in the order of their lines
pub record ScriptValue : Type 0 where
  pub commands : List Command
  pub lines : List ℕ
  pub patches : List (List ℕ)

-- the units of a command: what it runs or lists, 1,000 for tables, else 1
abbrev pub units_of : Command → ℕ
units_of (Step hart n) = n
units_of (Tick of n) = n
units_of (Run n) = n
units_of (Patch index begin) = 1
units_of (Create generation) = 1
units_of (Delete generation) = 1
units_of (Tables generation) = 1000
units_of (Regs hart) = 1
units_of (Mem va n) = n

-- an actor of a run with so many harts
abbrev pub IsThere : ℕ → Actor → Type 0
IsThere harts (actor.Hart h) = h < harts
IsThere harts actor.Kernel = Unit {0}

-- a count of at least 1 and at most the most
abbrev pub IsCount : ℕ → ℕ → Type 0
IsCount most n = (1 ≤ n) × (n ≤ most)

-- a command that a script with so many patches may have, in a run with so many harts
abbrev pub IsCommand : ℕ → ℕ → Command → Type 0
IsCommand harts patches (Step hart n) = (hart < harts) × IsCount 1000000 n
IsCommand harts patches (Tick of n) = IsThere harts of × IsCount 1000000 n
IsCommand harts patches (Run n) = IsCount 1000000 n
IsCommand harts patches (Patch index begin) = index < patches
IsCommand harts patches (Create generation) = generation ≤ 1023
IsCommand harts patches (Delete generation) = generation ≤ 1023
IsCommand harts patches (Tables generation) = generation ≤ 1023
IsCommand harts patches (Regs hart) = hart < harts
IsCommand harts patches (Mem va n) = (va % 8 ≡ 0) × (va < 2 ^ 38) × IsCount 4096 n

-- what each script keeps, in a run with so many harts
pub record IsScript (harts : ℕ) (script : ScriptValue) : Type 0 where
  pub each : AllByRecursion (IsCommand harts (length script.patches)) script.commands
  pub placed : length script.lines ≡ length script.commands
  pub few_units : sum_by units_of script.commands ≤ 1000000
  pub few_patches : length script.patches ≤ 64
