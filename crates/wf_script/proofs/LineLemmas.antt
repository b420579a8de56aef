-- How lines are read one after the other, and what a script keeps.
use Rattle.std.proofs.Common.{◌≡◌, ◌<◌, ◌≤◌, ◌+◌, ◌-◌, ◌^◌, [], ◌∷◌, ◌++◌, ℕ, suc, List, Bool, true, false, cond, length, take, get_or, sum_by, Result, Ok, Err, refl, sym, ap, subst, ◌∙◌, arith, add-one, inl, inr}
use Rattle.std.specs.Prelude.{min, nat_lt}
use Rattle.std.specs.List.{AllByRecursion}
use Rattle.std.proofs.lemmas.List.{length_push, take_more, nil_from_length}
use Rattle.std.proofs.lemmas.Bool.Decides.{nat_tests}
use Rattle.std.proofs.lemmas.List.Sums.{sum_by_push}
use Rattle.wf_text.specs.Lines.{lines_of}
use Rattle.wf_text.proofs.NumberLemmas.{chosen}
use Rattle.wf_script.specs.declared.command.Command.{Command}
use Rattle.wf_script.specs.declared.command.Command.TheVariants.{Step, Tick, Run, Patch, Create, Delete, Tables, Regs, Mem}
use Rattle.wf_script.specs.declared.command.ScriptFault.{ScriptFault}
use Rattle.wf_script.specs.declared.command.ScriptFault.TheVariants as faults
use Rattle.wf_script.specs.Commands.{ScriptValue, units_of, IsCommand, IsScript}
use Rattle.wf_script.specs.Reading.{◌>>=◌, is_passed, names_with, with_command, with_found, with_line, with_lines, command_in, empty, told, within_limits, script_of, IsFaultOf}
use Rattle.wf_script.proofs.KeptLemmas.{bind_ok, command_kept}

-- the lines so far, and the rest
pub record IsReadSoFar (harts : ℕ) (bytes : List ℕ) (script : ScriptValue) (number : ℕ) (rest : List ℕ) : Type 0 where
  pub read : with_lines harts script number (lines_of rest) ≡ with_lines harts empty 1 (lines_of bytes)
  pub place : number + length rest ≤ length bytes + 1

pub so_far_none : (harts : ℕ) (bytes : List ℕ) → IsReadSoFar harts bytes empty 1 bytes
so_far_none harts bytes = record { read = refl; place = omega arith }

lines_cell : (harts : ℕ) (script : ScriptValue) (number : ℕ) (line : List ℕ) (lines : List (List ℕ))
    → with_lines harts script number (line ∷ lines) ≡ (with_line harts script number line >>= λ more. with_lines harts more (suc number) lines)
unfolding with_lines
lines_cell harts script number line lines = refl

lines_none : (harts : ℕ) (script : ScriptValue) (number : ℕ) → with_lines harts script number [] ≡ Ok script
unfolding with_lines
lines_none harts script number = refl

no_lines : lines_of [] ≡ []
unfolding lines_of
no_lines = refl

pub so_far_more : (harts : ℕ) (bytes : List ℕ) (script more : ScriptValue) (number : ℕ) (rest line behind : List ℕ) → IsReadSoFar harts bytes script number rest
    → lines_of rest ≡ line ∷ lines_of behind → length behind < length rest → with_line harts script number line ≡ Ok more → IsReadSoFar harts bytes more (number + 1) behind
so_far_more harts bytes script more number rest line behind so_far split shorter read = record {
  read =
      ap (λ (k : ℕ). with_lines harts more k (lines_of behind)) (add-one number)
      ∙ sym (ap (with_lines harts script number) split ∙ lines_cell harts script number line (lines_of behind) ∙ ap (λ (r : Result ScriptValue ScriptFault). r >>= λ more. with_lines harts more (suc number) (lines_of behind)) read)
      ∙ so_far.read;
  place = let place = so_far.place in omega arith;
}

bind_fault : (fault : ScriptFault) (r : Result ScriptValue ScriptFault) (f : ScriptValue → Result ScriptValue ScriptFault) → IsFaultOf fault r → IsFaultOf fault (r >>= f)
bind_fault faults.Memory r f e = tt
bind_fault (faults.At line column) r f e = ap (λ (q : Result ScriptValue ScriptFault). q >>= f) e
bind_fault (faults.Units number) r f e = ap (λ (q : Result ScriptValue ScriptFault). q >>= f) e
bind_fault (faults.Patches number) r f e = ap (λ (q : Result ScriptValue ScriptFault). q >>= f) e

pub so_far_fault : (harts : ℕ) (bytes : List ℕ) (script : ScriptValue) (number : ℕ) (rest line behind : List ℕ) (fault : ScriptFault) → IsReadSoFar harts bytes script number rest
    → lines_of rest ≡ line ∷ lines_of behind → IsFaultOf fault (with_line harts script number line) → IsFaultOf fault (with_lines harts empty 1 (lines_of bytes))
so_far_fault harts bytes script number rest line behind fault so_far split e =
    let whole : (with_line harts script number line >>= λ more. with_lines harts more (suc number) (lines_of behind)) ≡ with_lines harts empty 1 (lines_of bytes) =
    sym (ap (with_lines harts script number) split ∙ lines_cell harts script number line (lines_of behind)) ∙ so_far.read in
    subst (IsFaultOf fault) whole (bind_fault fault (with_line harts script number line) (λ more. with_lines harts more (suc number) (lines_of behind)) e)

pub so_far_all : (harts : ℕ) (bytes : List ℕ) (script : ScriptValue) (number : ℕ) (rest : List ℕ) → IsReadSoFar harts bytes script number rest → length rest ≡ 0
    → with_lines harts empty 1 (lines_of bytes) ≡ Ok script
so_far_all harts bytes script number rest so_far e =
    sym so_far.read ∙ ap (λ (xs : List ℕ). with_lines harts script number (lines_of xs)) (nil_from_length rest e) ∙ ap (with_lines harts script number) no_lines ∙ lines_none harts script number

pub ruleset line_steps = (so_far_none, so_far_more, so_far_fault, so_far_all)

pub units_more : (commands : List Command) (i : ℕ) (c : Command) → i < length commands → c ≡ get_or commands i c
    → told (sum_by units_of (take (i + 1) commands)) ≡ min (told (sum_by units_of (take i commands)) + units_of c) (2 ^ 64 - 1)
units_more commands i c h e =
    let one : take (i + 1) commands ≡ take i commands ++ c ∷ [] = take_more commands i c h ∙ ap (λ (d : Command). take i commands ++ d ∷ []) (sym e) in
    let sum : sum_by units_of (take (i + 1) commands) ≡ sum_by units_of (take i commands) + units_of c = ap (sum_by units_of) one ∙ sum_by_push units_of (take i commands) c in
    ap told sum ∙ omega arith

-- ---- what is kept

record IsKept (harts : ℕ) (script : ScriptValue) : Type 0 where
  each : AllByRecursion (IsCommand harts (length script.patches)) script.commands
  placed : length script.lines ≡ length script.commands

more_patches : (harts p q : ℕ) (c : Command) → p ≤ q → IsCommand harts p c → IsCommand harts q c
more_patches harts p q (Step hart n) le k = k
more_patches harts p q (Tick of n) le k = k
more_patches harts p q (Run n) le k = k
more_patches harts p q (Patch index begin) le k = omega arith
more_patches harts p q (Create g) le k = k
more_patches harts p q (Delete g) le k = k
more_patches harts p q (Tables g) le k = k
more_patches harts p q (Regs hart) le k = k
more_patches harts p q (Mem va n) le k = k

more_each : (harts p q : ℕ) (cs : List Command) → p ≤ q → AllByRecursion (IsCommand harts p) cs → AllByRecursion (IsCommand harts q) cs
more_each harts p q [] le k = tt
more_each harts p q (c ∷ cs) le k = (more_patches harts p q c le k.0, more_each harts p q cs le k.1)

each_push : (P : Command → Type 0) (cs : List Command) (c : Command) → AllByRecursion P cs → P c → AllByRecursion P (cs ++ c ∷ [])
each_push P [] c k p = (p, tt)
each_push P (d ∷ cs) c k p = (k.0, each_push P cs c k.1 p)

-- a patch is below the number of patches with it
named_command : (harts m : ℕ) (c : Command) (name : List ℕ) (names : List (List ℕ)) → IsCommand harts (suc (min (length names) m)) c
    → IsCommand harts (length (names_with c name names)) c × (length names ≤ length (names_with c name names))
named_command harts m (Step hart n) name names k = (k, omega arith)
named_command harts m (Tick of n) name names k = (k, omega arith)
named_command harts m (Run n) name names k = (k, omega arith)
named_command harts m (Patch index begin) name names k = let long = length_push names name in (omega arith, omega arith)
named_command harts m (Create g) name names k = (k, omega arith)
named_command harts m (Delete g) name names k = (k, omega arith)
named_command harts m (Tables g) name names k = (k, omega arith)
named_command harts m (Regs hart) name names k = (k, omega arith)
named_command harts m (Mem va n) name names k = (k, omega arith)

found_kept : (harts number : ℕ) (script more : ScriptValue) (line : List ℕ) (r : Result (Command × List ℕ) ℕ) → IsKept harts script → r ≡ command_in harts (min (length script.patches) (2 ^ 32 - 1)) line
    → with_found script number line r ≡ Ok more → IsKept harts more
found_kept harts number script more line (Err left) kept e f = absurd cc
found_kept harts number script more line (Ok found) kept e f =
    let command = command_kept harts (min (length script.patches) (2 ^ 32 - 1)) line found (sym e) in
    let named = named_command harts (2 ^ 32 - 1) found.0 found.1 script.patches command in
    let same : with_command script number found ≡ more = cc in
    let made : IsKept harts (with_command script number found) = record {
      each = each_push (IsCommand harts (length (names_with found.0 found.1 script.patches))) script.commands found.0 (more_each harts (length script.patches) (length (names_with found.0 found.1 script.patches)) script.commands named.1 kept.each) named.0;
      placed = length_push script.lines number ∙ ap (λ (k : ℕ). k + 1) kept.placed ∙ sym (length_push script.commands found.0);
    } in
    subst (IsKept harts) same made

abbrev done : ScriptValue → Result ScriptValue ScriptFault
done script = Ok script

ok_same : (a b : ScriptValue) → done a ≡ done b → a ≡ b
ok_same a b e = cc

line_kept : (harts number : ℕ) (script more : ScriptValue) (line : List ℕ) → IsKept harts script → with_line harts script number line ≡ Ok more → IsKept harts more
unfolding with_line
line_kept harts number script more line kept e =
    elim (chosen (is_passed line) (Ok script) (with_found script number line (command_in harts (min (length script.patches) (2 ^ 32 - 1)) line)) (Ok more) e) [
      | inl p ↦ let same : script ≡ more = ok_same script more p.1 in subst (IsKept harts) same kept
      | inr p ↦ found_kept harts number script more line (command_in harts (min (length script.patches) (2 ^ 32 - 1)) line) kept refl p.1
    ]

lines_kept : (harts number : ℕ) (script more : ScriptValue) (lines : List (List ℕ)) → IsKept harts script → with_lines harts script number lines ≡ Ok more → IsKept harts more
unfolding with_lines
lines_kept harts number script more [] kept e = let same : script ≡ more = cc in subst (IsKept harts) same kept
lines_kept harts number script more (line ∷ lines) kept e =
    let a = bind_ok (with_line harts script number line) (λ (s : ScriptValue). with_lines harts s (suc number) lines) more e in
    lines_kept harts (suc number) a.0 more lines (line_kept harts number script a.0 line kept a.1) a.2

-- a script within the limits keeps all that a script keeps
pub script_kept : (harts : ℕ) (bytes : List ℕ) (script : ScriptValue) → with_lines harts empty 1 (lines_of bytes) ≡ Ok script → sum_by units_of script.commands ≤ 1000000 → length script.patches ≤ 64 → IsScript harts script
script_kept harts bytes script e units patches =
    let kept = lines_kept harts 1 empty script (lines_of bytes) (record { each = tt; placed = refl }) e in
    record { each = kept.each; placed = kept.placed; few_units = units; few_patches = patches }

-- ---- the whole script

limits_over : (script : ScriptValue) (n : ℕ) → n ≡ told (sum_by units_of script.commands) → 1000000 < n → within_limits script ≡ Err (faults.Units n)
unfolding within_limits
limits_over script n e h =
    let t : nat_lt 1000000 (sum_by units_of script.commands) ≡ true = grind (arith, nat_tests) in
    ap (λ (b : Bool). cond b (Err (faults.Units (told (sum_by units_of script.commands)))) (cond (nat_lt 64 (length script.patches)) (Err (faults.Patches (length script.patches))) (Ok script))) t ∙ ap (λ (k : ℕ). Err (faults.Units k)) (sym e)

limits_many : (script : ScriptValue) → sum_by units_of script.commands ≤ 1000000 → 64 < length script.patches → within_limits script ≡ Err (faults.Patches (length script.patches))
unfolding within_limits
limits_many script h k =
    let t : nat_lt 1000000 (sum_by units_of script.commands) ≡ false = grind (arith, nat_tests) in
    let u : nat_lt 64 (length script.patches) ≡ true = grind (arith, nat_tests) in
    ap (λ (b : Bool). cond b (Err (faults.Units (told (sum_by units_of script.commands)))) (cond (nat_lt 64 (length script.patches)) (Err (faults.Patches (length script.patches))) (Ok script))) t
    ∙ ap (λ (b : Bool). cond b (Err (faults.Patches (length script.patches))) (Ok script)) u

limits_kept : (script : ScriptValue) → sum_by units_of script.commands ≤ 1000000 → length script.patches ≤ 64 → within_limits script ≡ Ok script
unfolding within_limits
limits_kept script h k =
    let t : nat_lt 1000000 (sum_by units_of script.commands) ≡ false = grind (arith, nat_tests) in
    let u : nat_lt 64 (length script.patches) ≡ false = grind (arith, nat_tests) in
    ap (λ (b : Bool). cond b (Err (faults.Units (told (sum_by units_of script.commands)))) (cond (nat_lt 64 (length script.patches)) (Err (faults.Patches (length script.patches))) (Ok script))) t
    ∙ ap (λ (b : Bool). cond b (Err (faults.Patches (length script.patches))) (Ok script)) u

few_told : (n told_n : ℕ) → told_n ≡ told n → told_n ≤ 1000000 → n ≤ 1000000
few_told n told_n e h = omega arith

pub whole_fault : (harts : ℕ) (bytes : List ℕ) (fault : ScriptFault) → IsFaultOf fault (with_lines harts empty 1 (lines_of bytes)) → IsFaultOf fault (script_of harts bytes)
unfolding script_of
whole_fault harts bytes fault e = bind_fault fault (with_lines harts empty 1 (lines_of bytes)) within_limits e

pub whole_units : (harts : ℕ) (bytes : List ℕ) (script : ScriptValue) (n : ℕ) → with_lines harts empty 1 (lines_of bytes) ≡ Ok script → n ≡ told (sum_by units_of script.commands) → 1000000 < n → script_of harts bytes ≡ Err (faults.Units n)
unfolding script_of
whole_units harts bytes script n e same h = ap (λ (r : Result ScriptValue ScriptFault). r >>= within_limits) e ∙ limits_over script n same h

pub whole_patches : (harts : ℕ) (bytes : List ℕ) (script : ScriptValue) (n : ℕ) → with_lines harts empty 1 (lines_of bytes) ≡ Ok script → n ≡ told (sum_by units_of script.commands) → n ≤ 1000000 → (m : ℕ) → m ≡ length script.patches → 64 < m → script_of harts bytes ≡ Err (faults.Patches m)
unfolding script_of
whole_patches harts bytes script n e same h m f k = ap (λ (r : Result ScriptValue ScriptFault). r >>= within_limits) e ∙ limits_many script (few_told _ n same h) (omega arith) ∙ ap (λ (j : ℕ). Err (faults.Patches j)) (sym f)

pub whole_read : (harts : ℕ) (bytes : List ℕ) (script : ScriptValue) (n : ℕ) → with_lines harts empty 1 (lines_of bytes) ≡ Ok script → n ≡ told (sum_by units_of script.commands) → n ≤ 1000000 → length script.patches ≤ 64 → script_of harts bytes ≡ Ok script
unfolding script_of
whole_read harts bytes script n e same h k = ap (λ (r : Result ScriptValue ScriptFault). r >>= within_limits) e ∙ limits_kept script (few_told _ n same h) k

pub whole_kept : (harts : ℕ) (bytes : List ℕ) (script : ScriptValue) (n : ℕ) → with_lines harts empty 1 (lines_of bytes) ≡ Ok script → n ≡ told (sum_by units_of script.commands) → n ≤ 1000000 → length script.patches ≤ 64 → IsScript harts script
whole_kept harts bytes script n e same h k = script_kept harts bytes script e (few_told _ n same h) k

pub ruleset whole_steps = (whole_fault, whole_units, whole_patches, whole_read, whole_kept)
