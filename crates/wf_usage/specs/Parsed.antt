-- What `clap` makes of the words of each command.
use Rattle.std.specs.Prelude.{◌≡◌, ◌≢◌, [], List, true, Option, Some, None, MatchOption, codes, if◌then◌else◌}
use Rattle.clap.specs.Words.{App, Rule, fault_of, found_of, first_value, matches_of, new_app, new_rule, one_text, rows_of, with_rule}
use Rattle.clap.specs.Simple.{on_top}
use Rattle.clap.specs.declared.builder.action.ArgAction.TheVariants.{Set, SetTrue}
use Rattle.clap.specs.declared.parser.matches.ArgMatches.{ArgMatches}
use Rattle.wf_usage.specs.Usages.{Word, Usage, Told, told_by, told_of, is_told}

-- a name, which must be told
abbrev pub name_rule : Word → Rule
name_rule id = record (new_rule id) { required = true }

-- `--NAME VALUE` and `--NAME=VALUE`
abbrev pub value_rule : Word → Rule
value_rule id = record (new_rule id) { long = Some id; action = Some Set }

-- `--NAME`
abbrev pub flag_rule : Word → Rule
flag_rule id = record (new_rule id) { long = Some id; action = Some SetTrue }

-- a command that reads the words behind its name, and that has no help
abbrev pub plain_app : Word → App
plain_app name =
    on_top (λ s. record s { no_binary_name = true; disable_help_flag = true }) (new_app name)

-- `run`: names of the image and the script; how many harts and frames
abbrev pub run_app : App
run_app = with_rule (with_rule (with_rule (with_rule (plain_app (codes "run"))
    (name_rule (codes "image"))) (name_rule (codes "script"))) (value_rule (codes "harts")))
    (value_rule (codes "frames"))

-- `check`: names of the image and the journal
abbrev pub check_app : App
check_app = with_rule (with_rule (plain_app (codes "check")) (name_rule (codes "image")))
    (name_rule (codes "journal"))

-- `asm`: the name of the source, and whether an object is wanted
abbrev pub assembly_app : App
assembly_app = with_rule (with_rule (plain_app (codes "asm")) (name_rule (codes "source")))
    (flag_rule (codes "object"))

-- `make`: how many functions
abbrev pub make_app : App
make_app = with_rule (plain_app (codes "make")) (name_rule (codes "functions"))

-- the matches of a command on words, or that they are at fault
abbrev pub IsParse : App → List Word → Option ArgMatches → Type 0
IsParse app words matches = MatchOption matches (fault_of app words ≢ [])
    (λ m. (fault_of app words ≡ []) × (rows_of (found_of m) ≡ matches_of app words))

-- the matches hold what was told
abbrev pub HoldsTold : ArgMatches → Told → Type 0
HoldsTold m told = (name : Word) → first_value (found_of m) name ≡ told_of name told

-- the matches hold what was told of a name, and whether anything was of an option without a value
abbrev pub HoldsFlagged : Word → Word → ArgMatches → Told → Type 0
HoldsFlagged name flag m told = (first_value (found_of m) name ≡ told_of name told)
    × (one_text (found_of m) flag ≡ Some (if is_told flag told then codes "true" else codes "false"))

-- the matches hold what words of the usage tell, and there are none where the words are not of it
abbrev pub IsReadBy : (ArgMatches → Told → Type 0) → Usage → List Word → Option ArgMatches → Type 0
IsReadBy Holds u words matches = MatchOption matches (told_by u words ≡ None)
    (λ m. (told : Told) × (told_by u words ≡ Some told) × Holds m told)
