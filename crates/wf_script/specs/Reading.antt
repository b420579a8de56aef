-- The lines of a script: words that are parted by spaces, which may also stand before the first and
-- behind the last. Lines without a word, and lines whose first word begins with `#`, are passed
-- over.
use Rattle.std.specs.Prelude.{◌≡◌, ℕ, suc, List, [], ◌∷◌, ◌++◌, ◌+◌, ◌-◌, ◌^◌, ◌==◌, ◌||◌, Bool, true, false, nat_lt, min, Option, Some, None, Result, Ok, Err, length, slice_index, sum_by, if◌then◌else◌}
use Rattle.wf_text.specs.Lines.{lines_of, before, from, unspaced, name_of}
use Rattle.wf_script.specs.declared.command.Command.{Command}
use Rattle.wf_script.specs.declared.command.Command.TheVariants as command
use Rattle.wf_script.specs.declared.command.ScriptFault.{ScriptFault}
use Rattle.wf_script.specs.declared.command.ScriptFault.TheVariants.{At, Units, Patches, Memory}
use Rattle.wf_script.specs.declared.words.Verb.{Verb}
use Rattle.wf_script.specs.declared.words.Verb.TheVariants.{Step, Tick, Run, Patch, Begin, Create, Delete, Tables, Regs, Mem}
use Rattle.wf_script.specs.Commands.{ScriptValue, units_of}
use Rattle.wf_script.specs.Words.{verb_of, begun_of, hart_of, actor_of, count_of, generation_of, address_of}

-- what comes of what was read, where there is no fault
infixl 10 ◌>>=◌
abbrev pub ◌>>=◌ : {A B E : Type 0} → Result A E → (A → Result B E) → Result B E
(Ok x) >>= f = f x
(Err e) >>= f = Err e

-- A value with what stands behind its word, or how many bytes of the line are left from that word
-- on.
abbrev pub or_left : {A : Type 0} → ℕ → List ℕ → Option A → Result (A × List ℕ) ℕ
or_left left behind None = Err left
or_left left behind (Some x) = Ok (x, behind)

-- What the next word is the text of, with what stands behind it. Where it is no such text, or no
-- word is left, the fault is told by the number of bytes of the line from there on.
unfoldable pub next : {A : Type 0} → (List ℕ → Option A) → List ℕ → Result (A × List ℕ) ℕ
next value_of rest =
    or_left (length (unspaced rest)) (from 32 (unspaced rest))
    (value_of (before 32 (unspaced rest)))

-- what a reader of a line answers, seen by view
abbrev pub Found : {X Y : Type 0} → (X → Y) → Result X ℕ → Result Y ℕ → Type 0
Found view (Ok x) read = read ≡ Ok (view x)
Found view (Err left) read = read ≡ Err left

-- A command, the name of its patch (no byte where it has none), and what stands behind it.
abbrev pub named : Command → List ℕ → List ℕ → Result (Command × List ℕ × List ℕ) ℕ
named made name rest = Ok (made, name, rest)

-- a hart and a count
unfoldable pub step_in : ℕ → List ℕ → Result (Command × List ℕ × List ℕ) ℕ
step_in harts rest = do
  hart ← next (hart_of harts) rest
  n ← next (count_of 1000000) hart.1
  named (command.Step hart.0 n.0) [] n.1

-- an actor and a count
unfoldable pub tick_in : ℕ → List ℕ → Result (Command × List ℕ × List ℕ) ℕ
tick_in harts rest = do
  actor ← next (actor_of harts) rest
  n ← next (count_of 1000000) actor.1
  named (command.Tick actor.0 n.0) [] n.1

-- a count
unfoldable pub run_in : List ℕ → Result (Command × List ℕ × List ℕ) ℕ
run_in rest = do
  n ← next (count_of 1000000) rest
  named (command.Run n.0) [] n.1

-- the name of a patch
unfoldable pub patch_in : ℕ → Bool → List ℕ → Result (Command × List ℕ × List ℕ) ℕ
patch_in index begin rest = do
  name ← next name_of rest
  named (command.Patch index begin) name.0 name.1

-- `patch` and the name of a patch
unfoldable pub begin_in : ℕ → List ℕ → Result (Command × List ℕ × List ℕ) ℕ
begin_in index rest = do
  begun ← next begun_of rest
  patch_in index true begun.1

-- a generation
unfoldable pub generation_in : (ℕ → Command) → List ℕ → Result (Command × List ℕ × List ℕ) ℕ
generation_in made rest = do
  generation ← next generation_of rest
  named (made generation.0) [] generation.1

-- a hart
unfoldable pub regs_in : ℕ → List ℕ → Result (Command × List ℕ × List ℕ) ℕ
regs_in harts rest = do
  hart ← next (hart_of harts) rest
  named (command.Regs hart.0) [] hart.1

-- an address and a count
unfoldable pub mem_in : List ℕ → Result (Command × List ℕ × List ℕ) ℕ
mem_in rest = do
  va ← next address_of rest
  n ← next (count_of 4096) va.1
  named (command.Mem va.0 n.0) [] n.1

-- what stands behind the first word
unfoldable pub arguments_in : ℕ → ℕ → Verb → List ℕ → Result (Command × List ℕ × List ℕ) ℕ
arguments_in harts index Step rest = step_in harts rest
arguments_in harts index Tick rest = tick_in harts rest
arguments_in harts index Run rest = run_in rest
arguments_in harts index Patch rest = patch_in index false rest
arguments_in harts index Begin rest = begin_in index rest
arguments_in harts index Create rest = generation_in command.Create rest
arguments_in harts index Delete rest = generation_in command.Delete rest
arguments_in harts index Tables rest = generation_in command.Tables rest
arguments_in harts index Regs rest = regs_in harts rest
arguments_in harts index Mem rest = mem_in rest

-- a command and its name, where no word is left
abbrev pub ended : Command × List ℕ × List ℕ → Result (Command × List ℕ) ℕ
ended found =
    if length (unspaced found.2) == 0 then Ok (found.0, found.1)
    else Err (length (unspaced found.2))

-- The command of a line, in a run with so many harts and behind so many patches, with the name of
-- its patch.
unfoldable pub command_in : ℕ → ℕ → List ℕ → Result (Command × List ℕ) ℕ
command_in harts index line = do
  verb ← next verb_of line
  found ← arguments_in harts index verb.0 verb.1
  ended found

-- a line without a word, or whose first word begins with `#`
abbrev pub is_passed : List ℕ → Bool
is_passed line = (length (unspaced line) == 0) || (slice_index (unspaced line) 0 == 35)

-- the names of patches, with that of one more command
abbrev pub names_with : Command → List ℕ → List (List ℕ) → List (List ℕ)
names_with (command.Patch index begin) name names = names ++ name ∷ []
names_with (command.Step hart n) name names = names
names_with (command.Tick of n) name names = names
names_with (command.Run n) name names = names
names_with (command.Create generation) name names = names
names_with (command.Delete generation) name names = names
names_with (command.Tables generation) name names = names
names_with (command.Regs hart) name names = names
names_with (command.Mem va n) name names = names

-- a script with one more command, on the line of this number
abbrev pub with_command : ScriptValue → ℕ → Command × List ℕ → ScriptValue
with_command script number found = record {
  commands = script.commands ++ found.0 ∷ [];
  lines = script.lines ++ number ∷ [];
  patches = names_with found.0 found.1 script.patches;
}

-- A script with one more line, or the place of its first wrong word: columns count from 1, and
-- where a word is missing the column is one past the line's end.
abbrev pub with_found : ScriptValue → ℕ → List ℕ → Result (Command × List ℕ) ℕ
    → Result ScriptValue ScriptFault
with_found script number line (Ok found) = Ok (with_command script number found)
with_found script number line (Err left) = Err (At number (length line + 1 - left))

-- what a line adds to the script before it; a patch is numbered by the patches before it
unfoldable pub with_line : ℕ → ScriptValue → ℕ → List ℕ → Result ScriptValue ScriptFault
with_line harts script number line =
    if is_passed line then Ok script
    else with_found script number line
    (command_in harts (min (length script.patches) (2 ^ 32 - 1)) line)

-- lines from this number on, behind the script before them
unfoldable pub with_lines : ℕ → ScriptValue → ℕ → List (List ℕ) → Result ScriptValue ScriptFault
with_lines harts script number [] = Ok script
with_lines harts script number (line ∷ lines) = do
  more ← with_line harts script number line
  with_lines harts more (suc number) lines

-- the script without a command
abbrev pub empty : ScriptValue
empty = record { commands = []; lines = []; patches = [] }

-- a sum of units as a number of 64 bits tells it
abbrev pub told : ℕ → ℕ
told n = min n (2 ^ 64 - 1)

-- a script within the limits: first that of units, then that of patches
unfoldable pub within_limits : ScriptValue → Result ScriptValue ScriptFault
within_limits script =
    if nat_lt 1000000 (sum_by units_of script.commands)
    then Err (Units (told (sum_by units_of script.commands)))
    else (if nat_lt 64 (length script.patches) then Err (Patches (length script.patches))
    else Ok script)

-- The script of a text, in a run with so many harts, or its first fault: that of its first wrong
-- word, and where all lines are those of a script, that of a limit.
unfoldable pub script_of : ℕ → List ℕ → Result ScriptValue ScriptFault
script_of harts bytes = do
  script ← with_lines harts empty 1 (lines_of bytes)
  within_limits script

-- a fault is that of reading, unless memory ran out
abbrev pub IsFaultOf : ScriptFault → Result ScriptValue ScriptFault → Type 0
IsFaultOf Memory read = Unit {0}
IsFaultOf (At line column) read = read ≡ Err (At line column)
IsFaultOf (Units number) read = read ≡ Err (Units number)
IsFaultOf (Patches number) read = read ≡ Err (Patches number)

-- a result is that of reading, unless memory ran out
abbrev pub GivesScript : Result ScriptValue ScriptFault → Result ScriptValue ScriptFault → Type 0
GivesScript (Ok script) read = read ≡ Ok script
GivesScript (Err fault) read = IsFaultOf fault read
