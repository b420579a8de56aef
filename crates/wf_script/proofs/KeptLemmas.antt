-- What a command that is read keeps.
use Rattle.std.proofs.Common.{◌≡◌, ◌≤◌, [], ℕ, suc, List, Bool, true, false, cond, eqb, length, Option, Some, None, Result, Ok, Err, refl, ap, subst, arith}
use Rattle.wf_text.specs.Lines.{before, from, unspaced, name_of}
use Rattle.wf_flat.specs.declared.event.Actor.{Actor}
use Rattle.wf_script.specs.declared.command.Command.{Command}
use Rattle.wf_script.specs.declared.command.Command.TheVariants as command
use Rattle.wf_script.specs.declared.words.Verb.{Verb}
use Rattle.wf_script.specs.declared.words.Verb.TheVariants.{Step, Tick, Run, Patch, Begin, Create, Delete, Tables, Regs, Mem}
use Rattle.wf_script.specs.Commands.{IsCommand}
use Rattle.wf_script.specs.Words.{verb_of, begun_of, hart_of, actor_of, count_of, generation_of, address_of}
use Rattle.wf_script.specs.Reading.{◌>>=◌, or_left, next, named, step_in, tick_in, run_in, patch_in, begin_in, generation_in, regs_in, mem_in, arguments_in, ended, command_in}
use Rattle.wf_script.proofs.WordLemmas.{few_read, hart_kept, actor_kept, count_kept, address_kept}

-- the value of a step that did not fail
pub bind_ok : {A B E : Type 0} (r : Result A E) (f : A → Result B E) (y : B) → (r >>= f) ≡ Ok y → (x : A) × (r ≡ Ok x) × (f x ≡ Ok y)
bind_ok (Ok x) f y e = (x, refl, e)
bind_ok (Err d) f y e = absurd cc

found_ok : {A : Type 0} (left : ℕ) (behind : List ℕ) (r : Option A) (x : A × List ℕ) → or_left left behind r ≡ Ok x → r ≡ Some x.0
found_ok {A} left behind None x e = absurd cc
found_ok {A} left behind (Some y) x e = let same : (y, behind) ≡ x = cc in ap (λ (p : A × List ℕ). Some p.0) same

-- a value that was read is that of a word
next_ok : {A : Type 0} (value_of : List ℕ → Option A) (rest : List ℕ) (x : A × List ℕ) → next value_of rest ≡ Ok x → value_of (before 32 (unspaced rest)) ≡ Some x.0
unfolding next
next_ok value_of rest x e = found_ok (length (unspaced rest)) (from 32 (unspaced rest)) (value_of (before 32 (unspaced rest))) x e

abbrev Named : Type 0
Named = Command × List ℕ × List ℕ

-- a command that was made is what was made
named_ok : (P : Command → Type 0) (made : Command) (name rest : List ℕ) (found : Named) → P made → named made name rest ≡ Ok found → P found.0
named_ok P made name rest found p e = let same : (made, name, rest) ≡ found = cc in subst (λ (f : Named). P f.0) same p

step_kept : (harts index : ℕ) (rest : List ℕ) (found : Named) → step_in harts rest ≡ Ok found → IsCommand harts (suc index) found.0
unfolding step_in
step_kept harts index rest found e =
    let a = bind_ok (next (hart_of harts) rest) (λ (hart : ℕ × List ℕ). next (count_of 1000000) hart.1 >>= λ n. named (command.Step hart.0 n.0) [] n.1) found e in
    let b = bind_ok (next (count_of 1000000) a.0.1) (λ (n : ℕ × List ℕ). named (command.Step a.0.0 n.0) [] n.1) found a.2 in
    named_ok (IsCommand harts (suc index)) (command.Step a.0.0 b.0.0) [] b.0.1 found (hart_kept harts _ a.0.0 (next_ok (hart_of harts) rest a.0 a.1), count_kept 1000000 _ b.0.0 (omega arith) (next_ok (count_of 1000000) a.0.1 b.0 b.1)) b.2

tick_kept : (harts index : ℕ) (rest : List ℕ) (found : Named) → tick_in harts rest ≡ Ok found → IsCommand harts (suc index) found.0
unfolding tick_in
tick_kept harts index rest found e =
    let a = bind_ok (next (actor_of harts) rest) (λ (actor : Actor × List ℕ). next (count_of 1000000) actor.1 >>= λ n. named (command.Tick actor.0 n.0) [] n.1) found e in
    let b = bind_ok (next (count_of 1000000) a.0.1) (λ (n : ℕ × List ℕ). named (command.Tick a.0.0 n.0) [] n.1) found a.2 in
    named_ok (IsCommand harts (suc index)) (command.Tick a.0.0 b.0.0) [] b.0.1 found (actor_kept harts _ a.0.0 (next_ok (actor_of harts) rest a.0 a.1), count_kept 1000000 _ b.0.0 (omega arith) (next_ok (count_of 1000000) a.0.1 b.0 b.1)) b.2

run_kept : (harts index : ℕ) (rest : List ℕ) (found : Named) → run_in rest ≡ Ok found → IsCommand harts (suc index) found.0
unfolding run_in
run_kept harts index rest found e =
    let a = bind_ok (next (count_of 1000000) rest) (λ (n : ℕ × List ℕ). named (command.Run n.0) [] n.1) found e in
    named_ok (IsCommand harts (suc index)) (command.Run a.0.0) [] a.0.1 found (count_kept 1000000 _ a.0.0 (omega arith) (next_ok (count_of 1000000) rest a.0 a.1)) a.2

patch_kept : (harts index : ℕ) (begin : Bool) (rest : List ℕ) (found : Named) → patch_in index begin rest ≡ Ok found → IsCommand harts (suc index) found.0
unfolding patch_in
patch_kept harts index begin rest found e =
    let a = bind_ok (next name_of rest) (λ (name : List ℕ × List ℕ). named (command.Patch index begin) name.0 name.1) found e in
    named_ok (IsCommand harts (suc index)) (command.Patch index begin) a.0.0 a.0.1 found (omega arith) a.2

begin_kept : (harts index : ℕ) (rest : List ℕ) (found : Named) → begin_in index rest ≡ Ok found → IsCommand harts (suc index) found.0
unfolding begin_in
begin_kept harts index rest found e =
    let a = bind_ok (next begun_of rest) (λ (begun : Verb × List ℕ). patch_in index true begun.1) found e in
    patch_kept harts index true a.0.1 found a.2

generation_kept : (harts index : ℕ) (made : ℕ → Command) (rest : List ℕ) (found : Named) → ((g : ℕ) → g ≤ 1023 → IsCommand harts (suc index) (made g)) → generation_in made rest ≡ Ok found → IsCommand harts (suc index) found.0
unfolding generation_in
generation_kept harts index made rest found kept e =
    let a = bind_ok (next generation_of rest) (λ (g : ℕ × List ℕ). named (made g.0) [] g.1) found e in
    named_ok (IsCommand harts (suc index)) (made a.0.0) [] a.0.1 found (kept a.0.0 (few_read 1023 _ a.0.0 (omega arith) (next_ok generation_of rest a.0 a.1))) a.2

regs_kept : (harts index : ℕ) (rest : List ℕ) (found : Named) → regs_in harts rest ≡ Ok found → IsCommand harts (suc index) found.0
unfolding regs_in
regs_kept harts index rest found e =
    let a = bind_ok (next (hart_of harts) rest) (λ (hart : ℕ × List ℕ). named (command.Regs hart.0) [] hart.1) found e in
    named_ok (IsCommand harts (suc index)) (command.Regs a.0.0) [] a.0.1 found (hart_kept harts _ a.0.0 (next_ok (hart_of harts) rest a.0 a.1)) a.2

mem_kept : (harts index : ℕ) (rest : List ℕ) (found : Named) → mem_in rest ≡ Ok found → IsCommand harts (suc index) found.0
unfolding mem_in
mem_kept harts index rest found e =
    let a = bind_ok (next address_of rest) (λ (va : ℕ × List ℕ). next (count_of 4096) va.1 >>= λ n. named (command.Mem va.0 n.0) [] n.1) found e in
    let b = bind_ok (next (count_of 4096) a.0.1) (λ (n : ℕ × List ℕ). named (command.Mem a.0.0 n.0) [] n.1) found a.2 in
    let place = address_kept _ a.0.0 (next_ok address_of rest a.0 a.1) in
    named_ok (IsCommand harts (suc index)) (command.Mem a.0.0 b.0.0) [] b.0.1 found (place.0, place.1, count_kept 4096 _ b.0.0 (omega arith) (next_ok (count_of 4096) a.0.1 b.0 b.1)) b.2

arguments_kept : (harts index : ℕ) (verb : Verb) (rest : List ℕ) (found : Named) → arguments_in harts index verb rest ≡ Ok found → IsCommand harts (suc index) found.0
unfolding arguments_in
arguments_kept harts index Step rest found e = step_kept harts index rest found e
arguments_kept harts index Tick rest found e = tick_kept harts index rest found e
arguments_kept harts index Run rest found e = run_kept harts index rest found e
arguments_kept harts index Patch rest found e = patch_kept harts index false rest found e
arguments_kept harts index Begin rest found e = begin_kept harts index rest found e
arguments_kept harts index Create rest found e = generation_kept harts index command.Create rest found (λ g few. few) e
arguments_kept harts index Delete rest found e = generation_kept harts index command.Delete rest found (λ g few. few) e
arguments_kept harts index Tables rest found e = generation_kept harts index command.Tables rest found (λ g few. few) e
arguments_kept harts index Regs rest found e = regs_kept harts index rest found e
arguments_kept harts index Mem rest found e = mem_kept harts index rest found e

guard_ok : (b : Bool) (left : ℕ) (x y : Command × List ℕ) → cond b (Ok x) (Err left) ≡ Ok y → x ≡ y
guard_ok true left x y e = cc
guard_ok false left x y e = absurd cc

-- a command that is read is one that a script may have
pub command_kept : (harts index : ℕ) (line : List ℕ) (found : Command × List ℕ) → command_in harts index line ≡ Ok found → IsCommand harts (suc index) found.0
unfolding command_in
command_kept harts index line found e =
    let a = bind_ok (next verb_of line) (λ (verb : Verb × List ℕ). arguments_in harts index verb.0 verb.1 >>= ended) found e in
    let b = bind_ok (arguments_in harts index a.0.0 a.0.1) ended found a.2 in
    let same : (b.0.0, b.0.1) ≡ found = guard_ok (eqb (length (unspaced b.0.2)) 0) (length (unspaced b.0.2)) (b.0.0, b.0.1) found b.2 in
    subst (λ (f : Command × List ℕ). IsCommand harts (suc index) f.0) same (arguments_kept harts index a.0.0 a.0.1 b.0 b.1)
