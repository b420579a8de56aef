-- A script that is read has few units.
use Rattle.std.proofs.Common.{◌≡◌, ◌≤◌, ℕ, List, Bool, true, false, cond, Result, Ok, Err, length, refl, arith, sum_by}
use Rattle.std.specs.Prelude.{IfOk, nat_lt}
use Rattle.std.proofs.lemmas.Bool.Decides.{nat_tests}
use Rattle.wf_text.specs.Lines.{lines_of}
use Rattle.wf_script.specs.declared.command.ScriptFault.{ScriptFault}
use Rattle.wf_script.specs.declared.command.ScriptFault.TheVariants.{Patches, Units}
use Rattle.wf_script.specs.Commands.{ScriptValue, units_of}
use Rattle.wf_script.specs.Reading.{◌>>=◌, empty, script_of, told, with_lines, within_limits}

abbrev pub HasFewUnits : ScriptValue → Type 0
HasFewUnits script = sum_by units_of script.commands ≤ 1000000

abbrev as_read : ScriptValue → Result ScriptValue ScriptFault
as_read script = Ok script

abbrev faulty : ScriptFault → Result ScriptValue ScriptFault
faulty fault = Err fault

at_most : (n m : ℕ) → nat_lt n m ≡ false → m ≤ n
at_most n m e = grind (arith, nat_tests)

limited : (many more : Bool) (script : ScriptValue) (one other : ScriptFault) → (many ≡ false → HasFewUnits script)
    → IfOk (cond many (faulty one) (cond more (faulty other) (as_read script))) HasFewUnits
limited true more script one other few = tt
limited false true script one other few = tt
limited false false script one other few = few refl

within_few : (script : ScriptValue) → IfOk (within_limits script) HasFewUnits
unfolding within_limits
within_few script =
    limited (nat_lt 1000000 (sum_by units_of script.commands)) (nat_lt 64 (length script.patches)) script (Units (told (sum_by units_of script.commands))) (Patches (length script.patches))
    (λ e. at_most 1000000 (sum_by units_of script.commands) e)

behind_lines : (r : Result ScriptValue ScriptFault) → IfOk (r >>= within_limits) HasFewUnits
behind_lines (Ok script) = within_few script
behind_lines (Err fault) = tt

pub read_few : (harts : ℕ) (bytes : List ℕ) → IfOk (script_of harts bytes) HasFewUnits
unfolding script_of
read_few harts bytes = behind_lines (with_lines harts empty 1 (lines_of bytes))
