-- What a file that is read keeps.
use Rattle.std.proofs.Common.{◌≡◌, ◌<◌, ◌≤◌, [], ◌∷◌, ℕ, suc, List, Bool, true, false, cond, length, Option, Some, None, Result, Ok, Err, refl, sym, ap, subst, ◌∙◌, arith, inl, inr}
use Rattle.std.specs.Prelude.{◌&&◌, nat_lt, nat_le, codes, option_and_then}
use Rattle.std.specs.List.{AllByRecursion}
use Rattle.std.proofs.lemmas.Option.{none-some}
use Rattle.std.proofs.lemmas.Bool.Decides.{nat_tests}
use Rattle.wf_text.specs.Lines.{before, from, unspaced, are_graphic, name_of}
use Rattle.wf_text.proofs.NumberLemmas.{chosen}
use Rattle.patch_file.specs.declared.patch.Replace.{Replace}
use Rattle.patch_file.specs.Words.{is_passed, is_ended, behind_word, next_name, header_in, object_in, replace_in}
use Rattle.patch_file.specs.Patches.{IsName, IsReplace, AreRising, IsPatch}
use Rattle.patch_file.specs.Reading.{◌>>=◌, unpassed, or_fault, line_at, replace_on, replace_at, replaces_in}

-- the value of a step that did not fail
bind_ok : {A B : Type 0} (r : Result A ℕ) (f : A → Result B ℕ) (y : B) → (r >>= f) ≡ Ok y → (x : A) × (r ≡ Ok x) × (f x ≡ Ok y)
bind_ok (Ok x) f y e = (x, refl, e)
bind_ok (Err d) f y e = absurd cc

bind_some : {A B : Type 0} (o : Option A) (f : A → Option B) (y : B) → option_and_then f o ≡ Some y → (x : A) × (o ≡ Some x) × (f x ≡ Some y)
bind_some (Some x) f y e = (x, refl, e)
bind_some None f y e = absurd (none-some y e)

some_same : {A : Type 0} (x y : A) → Some x ≡ Some y → x ≡ y
some_same x y e = cc

-- ---- names

abbrev IsPrinted : ℕ → Type 0
IsPrinted byte = (33 ≤ byte) × (byte ≤ 126)

graphic_first : (c : ℕ) (rest : Bool) → (nat_le 33 c && nat_le c 126 && rest) ≡ true → IsPrinted c × (rest ≡ true)
graphic_first c rest e = grind (arith, nat_tests)

graphic_kept : (word : List ℕ) → are_graphic word ≡ true → AllByRecursion (λ byte. (33 ≤ byte) × (byte ≤ 126)) word
unfolding are_graphic
graphic_kept [] e = tt
graphic_kept (c ∷ cs) e = let first = graphic_first c (are_graphic cs) e in (first.0, graphic_kept cs first.1)

both_true : (a b : Bool) → (a && b) ≡ true → (a ≡ true) × (b ≡ true)
both_true true b e = (refl, e)
both_true false b e = absurd cc

pub name_kept : (word name : List ℕ) → name_of word ≡ Some name → IsName name
unfolding name_of
name_kept word name e =
    elim (chosen (nat_lt 0 (length word) && are_graphic word) (Some word) None (Some name) e) [
      | inl p ↦
          let same : word ≡ name = some_same word name p.1 in
          let tests = both_true (nat_lt 0 (length word)) (are_graphic word) p.0 in
          let some : nat_lt 0 (length word) ≡ true = tests.0 in
          let long : 0 < length word = grind (arith, nat_tests) in
          subst IsName same (long, graphic_kept word tests.1)
      | inr p ↦ absurd (none-some name p.1)
    ]

next_kept : (rest : List ℕ) (x : List ℕ × List ℕ) → next_name rest ≡ Some x → IsName x.0
unfolding next_name
next_kept rest x e =
    let a = bind_some (name_of (before 32 (unspaced rest))) (λ (name : List ℕ). Some (name, from 32 (unspaced rest))) x e in
    let same : (a.0, from 32 (unspaced rest)) ≡ x = some_same (a.0, from 32 (unspaced rest)) x a.2 in
    subst (λ (p : List ℕ × List ℕ). IsName p.0) same (name_kept (before 32 (unspaced rest)) a.0 a.1)

guard_some : {A : Type 0} (b : Bool) (x y : A) → cond b (Some x) None ≡ Some y → x ≡ y
guard_some true x y e = cc
guard_some false x y e = absurd (none-some y e)

pub object_kept : (line name : List ℕ) → object_in line ≡ Some name → IsName name
unfolding object_in
object_kept line name e =
    let a = bind_some (behind_word (codes "object") line) (λ (rest : List ℕ). option_and_then (λ (x : List ℕ × List ℕ). cond (is_ended x.1) (Some x.0) None) (next_name rest)) name e in
    let b = bind_some (next_name a.0) (λ (x : List ℕ × List ℕ). cond (is_ended x.1) (Some x.0) None) name a.2 in
    subst IsName (guard_some (is_ended b.0.1) b.0.0 name b.2) (next_kept a.0 b.0 b.1)

abbrev AreNames : List ℕ × List ℕ → Type 0
AreNames names = IsName names.0 × IsName names.1

abbrev Words : Type 0
Words = List ℕ × List ℕ

-- the names of a line, where no word is left behind them
abbrev both : Words → Words → Option Words
both old new = cond (is_ended new.1) (Some (old.0, new.0)) None

-- the names of a line, behind the old one
abbrev with_new : Words → Option Words
with_new old = option_and_then (both old) (next_name old.1)

pub names_kept : (line : List ℕ) (names : Words) → replace_in line ≡ Some names → AreNames names
unfolding replace_in
names_kept line names e =
    let a = bind_some (behind_word (codes "replace") line) (λ (rest : List ℕ). option_and_then with_new (next_name rest)) names e in
    let b = bind_some (next_name a.0) with_new names a.2 in
    let c = bind_some (next_name b.0.1) (both b.0) names b.2 in
    subst AreNames {x = (b.0.0, c.0.0)} (guard_some (is_ended c.0.1) (b.0.0, c.0.0) names c.2) (next_kept a.0 b.0 b.1, next_kept b.0.1 c.0 c.1)

-- ---- lines

or_fault_ok : {A : Type 0} (number : ℕ) (o : Option A) (x : A) → or_fault number o ≡ Ok x → o ≡ Some x
or_fault_ok number None x e = absurd cc
or_fault_ok number (Some y) x e = cc

-- the numbers of lines rise, from this one on
abbrev pub Rise : ℕ → List (ℕ × List ℕ) → Type 0
Rise least [] = Unit {0}
Rise least (line ∷ lines) = (least ≤ line.0) × Rise (suc line.0) lines

rise_less : (least more : ℕ) (lines : List (ℕ × List ℕ)) → least ≤ more → Rise more lines → Rise least lines
rise_less least more [] le r = tt
rise_less least more (line ∷ lines) le r = let first = r.0 in (omega arith, r.1)

rise_cell : (number : ℕ) (line : List ℕ) (passed : Bool) (lines : List (ℕ × List ℕ)) → Rise (suc number) lines → Rise number (cond passed lines ((number, line) ∷ lines))
rise_cell number line true lines r = rise_less number (suc number) lines (omega arith) r
rise_cell number line false lines r = (omega arith, r)

pub unpassed_rise : (number : ℕ) (lines : List (List ℕ)) → Rise number (unpassed number lines)
unfolding unpassed
unpassed_rise number [] = tt
unpassed_rise number (line ∷ lines) = rise_cell number line (is_passed line) (unpassed (suc number) lines) (unpassed_rise (suc number) lines)

-- a line that is read is the first, and those behind it are left
pub record IsFirst (A : Type 0) (value_of : List ℕ → Option A) (lines : List (ℕ × List ℕ)) (x : A × List (ℕ × List ℕ)) : Type 0 where
  pub line : ℕ × List ℕ
  pub is : lines ≡ line ∷ x.1
  pub value : value_of line.1 ≡ Some x.0

line_ok : {A : Type 0} (value_of : List ℕ → Option A) (missing : ℕ) (lines : List (ℕ × List ℕ)) (x : A × List (ℕ × List ℕ)) → line_at value_of missing lines ≡ Ok x → IsFirst A value_of lines x
unfolding line_at
line_ok value_of missing [] x e = absurd cc
line_ok {A} value_of missing (line ∷ lines) x e =
    let a = bind_ok (or_fault line.0 (value_of line.1)) (λ (y : A). Ok (y, lines)) x e in
    let same : (a.0, lines) ≡ x = cc in
    record {
      line = line;
      is = ap (λ (p : A × List (ℕ × List ℕ)). line ∷ p.1) same;
      value = or_fault_ok line.0 (value_of line.1) a.0 a.1 ∙ ap (λ (p : A × List (ℕ × List ℕ)). Some p.0) same;
    }

replace_kept : (number : ℕ) (line : List ℕ) (replace : Replace) → replace_at number line ≡ Ok replace → IsReplace replace × (replace.line ≡ number)
unfolding replace_at
replace_kept number line replace e =
    let a = bind_ok (or_fault number (replace_in line)) (λ (names : List ℕ × List ℕ). Ok (replace_on number names)) replace e in
    let same : replace_on number a.0 ≡ replace = cc in
    let names = names_kept line a.0 (or_fault_ok number (replace_in line) a.0 a.1) in
    subst (λ (r : Replace). IsReplace r × (r.line ≡ number)) same (names, refl)

replaces_kept : (least : ℕ) (lines : List (ℕ × List ℕ)) (replaces : List Replace) → Rise least lines → replaces_in lines ≡ Ok replaces → AllByRecursion IsReplace replaces × AreRising least replaces
unfolding replaces_in
replaces_kept least [] replaces rise e = let same : [] ≡ replaces = cc in subst (λ (rs : List Replace). AllByRecursion IsReplace rs × AreRising least rs) same (tt, tt)
replaces_kept least (line ∷ lines) replaces rise e =
    let a = bind_ok (replace_at line.0 line.1) (λ (one : Replace). replaces_in lines >>= λ others. Ok (one ∷ others)) replaces e in
    let b = bind_ok (replaces_in lines) (λ (others : List Replace). Ok (a.0 ∷ others)) replaces a.2 in
    let same : a.0 ∷ b.0 ≡ replaces = cc in
    let first = replace_kept line.0 line.1 a.0 a.1 in
    let others = replaces_kept (suc line.0) lines b.0 rise.1 b.1 in
    let low = rise.0 in
    let place = first.1 in
    subst (λ (rs : List Replace). AllByRecursion IsReplace rs × AreRising least rs) same
    ((first.0, others.0), (omega arith, subst (λ (n : ℕ). AreRising (suc n) b.0) (sym place) others.1))

-- a file that is read keeps all that a file keeps
pub parts_kept : (lines after_header after_object : List (ℕ × List ℕ)) (missing lost : ℕ) (name object : List ℕ) (replaces : List Replace) → Rise 1 lines → line_at header_in missing lines ≡ Ok (tt, after_header)
    → line_at object_in lost after_header ≡ Ok (name, after_object) → object ≡ name → replaces_in after_object ≡ Ok replaces → IsPatch (record { object = object; replaces = replaces })
parts_kept lines after_header after_object missing lost name object replaces rise a b same c =
    let header = line_ok header_in missing lines (tt, after_header) a in
    let second = line_ok object_in lost after_header (name, after_object) b in
    let rise_first = subst (Rise 1) header.is rise in
    let rise_second = subst (Rise (suc header.line.0)) second.is rise_first.1 in
    let one = rise_first.0 in
    let two = rise_second.0 in
    let three : 3 ≤ suc second.line.0 = omega arith in
    let kept = replaces_kept 3 after_object replaces (rise_less 3 (suc second.line.0) after_object three rise_second.1) c in
    record { object = subst IsName (sym same) (object_kept second.line.1 name second.value); replaces = kept.0; rising = kept.1 }
