-- What the words of a command line ask for.
use Rattle.std.specs.Prelude.{ℕ, List, [], ◌∷◌, Bool, ◌≤◌, Option, Some, None, if◌then◌else◌, nat_lt, option_map, option_and_then, codes}
use Rattle.std.specs.List.{list_all}
use Rattle.std.specs.Option.{option_map_or}
use Rattle.std.specs.Str.{bytes_eq, is_utf8}
use Rattle.elf_write.specs.declared.module.Form.{Form}
use Rattle.elf_write.specs.declared.module.Form.TheVariants.{Exec, Object}
use Rattle.wf_text.specs.Numbers.{number_of}
use Rattle.wf_usage.specs.Usages.{Word, Usage, Told, told_by, told_of, is_told}
use Rattle.wf_usage.specs.declared.sizes.Sizes.{Sizes}
use Rattle.wf_usage.specs.declared.command.Command.{Command}
use Rattle.wf_usage.specs.declared.command.Command.TheVariants.{Run, Check, Assemble, Make}

-- `run IMAGE SCRIPT [--harts N] [--frames N]`
abbrev pub run_usage : Usage
run_usage = record {
  names = codes "image" ∷ codes "script" ∷ [];
  values = codes "harts" ∷ codes "frames" ∷ [];
  flags = [];
}

-- `check IMAGE JOURNAL`
abbrev pub check_usage : Usage
check_usage = record {
  names = codes "image" ∷ codes "journal" ∷ [];
  values = [];
  flags = [];
}

-- `asm SOURCE [--object]`
abbrev pub assembly_usage : Usage
assembly_usage = record {
  names = codes "source" ∷ [];
  values = [];
  flags = codes "object" ∷ [];
}

-- `make N`
abbrev pub make_usage : Usage
make_usage = record {
  names = codes "functions" ∷ [];
  values = [];
  flags = [];
}

-- the number, where it is at least the least
abbrev pub at_least : ℕ → Option ℕ → Option ℕ
at_least least None = None
at_least least (Some n) = if nat_lt n least then None else Some n

-- the number that a word spells in decimal digits without a leading zero, from the least to the most
abbrev pub number_within : ℕ → ℕ → Word → Option ℕ
number_within least most word = at_least least (number_of 10 most word)

-- the number of an option's value, and the usual one where nothing was told of the option
abbrev pub number_or : ℕ → ℕ → ℕ → Option Word → Option ℕ
number_or usual least most value = option_map_or (number_within least most) value (Some usual)

-- both sizes of a run, where both are right
abbrev pub sizes : Option ℕ → Option ℕ → Option Sizes
sizes None frames = None
sizes (Some harts) frames = option_map (λ n. record { harts = harts; frames = n }) frames

-- the sizes of a run, by the values of `--harts` and `--frames`: 1 to 64 harts, one where nothing
-- was told, and 64 to 65,536 frames, 1,024 where nothing was told
abbrev pub sizes_by : Option Word → Option Word → Option Sizes
sizes_by harts frames = sizes (number_or 1 1 64 harts) (number_or 1024 64 65536 frames)

-- the number of functions that a word spells: 1 to 10,000
abbrev pub functions_by : Word → Option ℕ
functions_by word = number_within 1 10000 word

-- the sizes are those that a run may have
abbrev pub AreSizes : Sizes → Type 0
AreSizes s = (1 ≤ s.harts) × (s.harts ≤ 64) × (64 ≤ s.frames) × (s.frames ≤ 65536)

-- a run, of this image and script, where both were told
abbrev pub run_of : Option Word → Option Word → Option Sizes → Option Command
run_of (Some image) (Some script) (Some sizes) = Some (Run image script sizes)
run_of image script sizes = None

-- a check, of this image and journal, where both were told
abbrev pub check_of : Option Word → Option Word → Option Command
check_of (Some image) (Some journal) = Some (Check image journal)
check_of image journal = None

-- the form of an assembly's file: an object where that was told, and else an executable
abbrev pub form_of : Bool → Form
form_of object = if object then Object else Exec

-- the run that was told
abbrev pub run_told : Told → Option Command
run_told told = run_of (told_of (codes "image") told) (told_of (codes "script") told)
    (sizes_by (told_of (codes "harts") told) (told_of (codes "frames") told))

-- the check that was told
abbrev pub check_told : Told → Option Command
check_told told = check_of (told_of (codes "image") told) (told_of (codes "journal") told)

-- the assembly that was told
abbrev pub assembly_told : Told → Option Command
assembly_told told =
    option_map (λ source. Assemble source (form_of (is_told (codes "object") told)))
    (told_of (codes "source") told)

-- the making that was told, where its number is right
abbrev pub make_told : Told → Option Command
make_told told =
    option_map Make (option_and_then functions_by (told_of (codes "functions") told))

-- What a command of this name is asked for by the words behind it.
abbrev pub asked_of : Word → List Word → Option Command
asked_of name words =
    if bytes_eq name (codes "run") then option_and_then run_told (told_by run_usage words)
    else if bytes_eq name (codes "check")
    then option_and_then check_told (told_by check_usage words)
    else if bytes_eq name (codes "asm")
    then option_and_then assembly_told (told_by assembly_usage words)
    else if bytes_eq name (codes "make")
    then option_and_then make_told (told_by make_usage words)
    else None

-- each word is UTF-8
abbrev pub are_texts : List Word → Bool
are_texts words = list_all is_utf8 words

-- what the first word asks for, by those behind it
abbrev pub asked_in : List Word → Option Command
asked_in [] = None
asked_in (name ∷ words) = asked_of name words

-- What the words of a command line ask for; none where they are those of no command.
abbrev pub asked_by : List Word → Option Command
asked_by words = if are_texts words then asked_in words else None

-- the numbers of a command are those that it may have
abbrev pub IsSizedCommand : Command → Type 0
IsSizedCommand (Run image script sizes) = AreSizes sizes
IsSizedCommand (Check image journal) = Unit {0}
IsSizedCommand (Assemble source form) = Unit {0}
IsSizedCommand (Make functions) = (1 ≤ functions) × (functions ≤ 10000)
