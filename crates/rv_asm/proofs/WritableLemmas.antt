-- The module of a draft has a file.
use Rattle.std.proofs.Common.{◌≡◌, ◌≢◌, ◌<◌, ◌≤◌, ◌+◌, ◌^◌, [], ◌∷◌, ◌++◌, ℕ, List, Bool, true, false, cond, length, Option, Some, None, Result, Ok, Err, refl, sym, ap, subst, ◌∙◌, arith, inl, inr}
use Rattle.std.specs.Prelude.{◌==◌, ◌&&◌, map, nat_lt, unwrap_or}
use Rattle.std.specs.List.{AllByRecursion, enumerate_from, filter, list_all, position_or_len}
use Rattle.std.specs.Result.{IfOk}
use Rattle.std.specs.Str.{bytes_eq}
use Rattle.std.proofs.lemmas.Bool.{cases_Bool}
use Rattle.std.proofs.lemmas.Bool.Decides.{nat_tests}
use Rattle.std.proofs.lemmas.List.{length-append, length-map}
use Rattle.std.proofs.lemmas.List.Quantifiers.{position-Some}
use Rattle.std.proofs.lemmas.Slice.Eq.{bytes_eq-Decides}
use Rattle.asm_lines.specs.declared.statement.SectionId.TheVariants as section
use Rattle.asm_lines.specs.declared.statement.Use.{Use}
use Rattle.asm_lines.specs.declared.statement.Use.TheVariants as use_
use Rattle.elf_write.specs.declared.module.Form.{Form}
use Rattle.elf_write.specs.declared.module.Form.TheVariants.{Exec, Object}
use Rattle.elf_write.specs.declared.module.ModRela.{ModRela}
use Rattle.elf_write.specs.declared.module.ModSymbol.{ModSymbol}
use Rattle.elf_write.specs.Layout.{file_length, layout_of, sizes_with}
use Rattle.elf_write.specs.Modules.{ModuleValue}
use Rattle.elf_write.specs.Parts.{AreBySection, AreInOrder, IsSymbol, globals, locals, relas_for, undefined}
use Rattle.elf_write.specs.Written.{FitsForm, IsWritable}
use Rattle.elf_write.proofs.OrderLemmas.{by_section_apart, filter_passing, groups_of, is_global, is_local, is_undefined, of_section, symbols_apart}
use Rattle.wf_outside.proofs.RisingLemmas.{all_at}
use Rattle.wf_text.specs.Lines.{lines_of}
use Rattle.rv_asm.specs.declared.fault.AsmFault.{AsmFault}
use Rattle.rv_asm.specs.declared.fault.AsmFault.TheVariants as fault
use Rattle.rv_asm.specs.declared.fault.AsmRule.TheVariants as rule
use Rattle.rv_asm.specs.declared.first_pass.Survey.{Survey}
use Rattle.rv_asm.specs.Answers.{Answers, IsFaultOf}
use Rattle.rv_asm.specs.Assembled.{IsModuleOf, all_symbols, assembled, entry_point, fitting, module_of}
use Rattle.rv_asm.specs.Drafts.{label_names, symbol_names}
use Rattle.rv_asm.specs.FirstPass.{start, surveyed}
use Rattle.rv_asm.specs.Labels.{LabelValue, place_named, section_named}
use Rattle.rv_asm.specs.Links.{LinkValue, by_section, fields_by, is_first_outside, link_names, links_for, links_of, outside_names, outside_symbol, rela_of}
use Rattle.rv_asm.specs.Names.{name_place, pcrel_names}
use Rattle.rv_asm.specs.SecondPass.{DraftValue, blank, drafted, is_settled}
use Rattle.rv_asm.specs.Uses.{AreCloseUses, IsCloseUse, IsPlainName, UseValue}
use Rattle.rv_asm.proofs.FirstLemmas.{bind_fault}
use Rattle.rv_asm.proofs.ModuleLemmas.{IsHome, IsRead, agreed, are_home, close, same_names}

-- ---- lists of which each element has a property

each_filter : {X : Type 0} (P : X → Type 0) (p : X → Bool) (xs : List X) → AllByRecursion P xs → AllByRecursion P (filter p xs)
each_filter P p [] all = tt
each_filter P p (x ∷ xs) all = elim (p x) as (λ v. AllByRecursion P (cond v (x ∷ filter p xs) (filter p xs))) [ true ↦ (all.0, each_filter P p xs all.1) | false ↦ each_filter P p xs all.1 ]

each_append : {X : Type 0} (P : X → Type 0) (xs ys : List X) → AllByRecursion P xs → AllByRecursion P ys → AllByRecursion P (xs ++ ys)
each_append P [] ys a b = b
each_append P (x ∷ xs) ys a b = (a.0, each_append P xs ys a.1 b)

each_map : {X Y : Type 0} (P : Y → Type 0) (f : X → Y) (xs : List X) → AllByRecursion (λ x. P (f x)) xs → AllByRecursion P (map f xs)
each_map P f [] h = tt
each_map P f (x ∷ xs) h = (h.0, each_map P f xs h.1)

-- ---- the names of fields

-- the name of a field has no zero byte
abbrev HasPlainField : LinkValue → Type 0
HasPlainField l = IsPlainName l.name

fields_plain : (what : Use) (u : UseValue) → IsCloseUse u → AllByRecursion HasPlainField (fields_by what u)
unfolding fields_by
fields_plain use_.Globl u close = tt
fields_plain use_.Size u close = tt
fields_plain (use_.Address width addend) u close = (close.name, tt)
fields_plain (use_.Branch cond rs1 rs2) u close = (close.name, tt)
fields_plain (use_.Jal rd) u close = (close.name, tt)
fields_plain use_.Call u close = (close.name, tt)
fields_plain (use_.La rd) u close = (close.name, (close.label, tt))

one_plain : (labels : List LabelValue) (u : UseValue) → IsCloseUse u → AllByRecursion HasPlainField (links_for labels u)
one_plain labels u close =
    elim (is_settled Object u.section u.what (section_named u.name labels)) as (λ v. AllByRecursion HasPlainField (cond v [] (fields_by u.what u))) [ true ↦ tt | false ↦ fields_plain u.what u close ]

links_plain : (labels : List LabelValue) (uses : List UseValue) → AreCloseUses uses → AllByRecursion HasPlainField (links_of labels uses)
links_plain labels [] close = tt
links_plain labels (u ∷ us) close = each_append HasPlainField (links_for labels u) (links_of labels us) (one_plain labels u close.0) (links_plain labels us close.1)

numbered_plain : (n : ℕ) (names : List (List ℕ)) → AllByRecursion IsPlainName names → AllByRecursion (λ (p : ℕ × List ℕ). IsPlainName p.1) (enumerate_from n names)
numbered_plain n [] h = tt
numbered_plain n (x ∷ xs) h = (h.0, numbered_plain (n + 1) xs h.1)

outside_plain : (labels : List LabelValue) (links : List LinkValue) → AllByRecursion HasPlainField links → AllByRecursion IsPlainName (outside_names labels (link_names links))
outside_plain labels links h =
    let names = link_names links in
    each_map IsPlainName (λ (p : ℕ × List ℕ). p.1) (filter (is_first_outside labels names) (enumerate_from 0 names))
    (each_filter (λ (p : ℕ × List ℕ). IsPlainName p.1) (is_first_outside labels names) (enumerate_from 0 names) (numbered_plain 0 names (each_map IsPlainName (λ (l : LinkValue). l.name) links h)))

-- ---- each symbol

home_symbol : (s : ModSymbol) → IsHome s → IsSymbol s
home_symbol s h = record {
  home = h.below;
  undefined = λ e. let a = h.above in absurd (omega arith);
  named = λ k b l. all_at (λ (c : ℕ). c ≢ 0) s.name k b h.named l;
}

home_symbols : (ss : List ModSymbol) → AllByRecursion IsHome ss → AllByRecursion IsSymbol ss
home_symbols [] h = tt
home_symbols (s ∷ ss) h = (home_symbol s h.0, home_symbols ss h.1)

outside_symbols : (names : List (List ℕ)) → AllByRecursion IsPlainName names → AllByRecursion IsSymbol (map outside_symbol names)
outside_symbols [] h = tt
outside_symbols (n ∷ ns) h = (
  record {
    home = omega arith;
    undefined = λ e. record { global = refl; value = refl; size = refl };
    named = λ k b l. all_at (λ (c : ℕ). c ≢ 0) n k b h.0 l;
  },
  outside_symbols ns h.1,
)

each_symbol : (symbols : List ModSymbol) (outside : List (List ℕ)) → AllByRecursion IsHome symbols → AllByRecursion IsPlainName outside → AllByRecursion IsSymbol (all_symbols symbols outside)
each_symbol symbols outside h k =
    let all = home_symbols symbols h in
    each_append IsSymbol (locals symbols ++ globals symbols) (map outside_symbol outside)
    (each_append IsSymbol (locals symbols) (globals symbols) (each_filter IsSymbol is_local symbols all) (each_filter IsSymbol is_global symbols all)) (outside_symbols outside k)

-- ---- the order of symbols and relocations

outside_passes : (names : List (List ℕ)) → list_all is_undefined (map outside_symbol names) ≡ true
outside_passes [] = refl
outside_passes (n ∷ ns) = outside_passes ns

symbols_in_order : (symbols : List ModSymbol) (outside : List (List ℕ)) → AreInOrder (all_symbols symbols outside)
symbols_in_order symbols outside =
    groups_of is_local is_global is_undefined (locals symbols) (globals symbols) (map outside_symbol outside) symbols_apart (filter_passing is_local symbols) (filter_passing is_global symbols) (outside_passes outside)

relas_by_section : (relas : List ModRela) → AreBySection (by_section relas)
relas_by_section relas =
    groups_of (of_section 1) (of_section 2) (of_section 3) (relas_for 1 relas) (relas_for 2 relas) (relas_for 3 relas) by_section_apart
    (filter_passing (of_section 1) relas) (filter_passing (of_section 2) relas) (filter_passing (of_section 3) relas)

-- ---- the symbols of relocations

both_fail : (b c : Bool) → c ≡ false → (b && c) ≡ false
both_fail true c e = e
both_fail false c e = refl

-- each symbol of a section is local or global
home_count : (symbols : List ModSymbol) → AllByRecursion IsHome symbols → length (locals symbols) + length (globals symbols) ≡ length symbols
home_count [] h = refl
home_count (s ∷ ss) h =
    let above = h.0.above in
    let here : (s.section == 0) ≡ false = grind (arith, nat_tests) in
    let rest = home_count ss h.1 in
    elim (cases_Bool s.global) [
      | inl t ↦ rw (t, here) (omega (arith, rest))
      | inr t ↦ rw t (omega (arith, rest))
    ]

-- the first name that is no label's is one of another file
first_outside : (labels : List LabelValue) (name : List ℕ) (names : List (List ℕ)) → place_named name labels ≡ None → 0 < length (outside_names labels (name ∷ names))
first_outside labels name names none =
    let same : bytes_eq name name ≡ true = (bytes_eq-Decides name name).1 refl in
    let start : position_or_len (λ (n : List ℕ). bytes_eq n name) (name ∷ names) ≡ 0 = rw same refl in
    let place : name_place name (name ∷ names) ≡ Some 0 = grind (arith, nat_tests) in
    let first : is_first_outside labels (name ∷ names) (0, name) ≡ true = rw (none, place) refl in
    rw first (omega arith)

-- where there is a field, there is a symbol
some_symbol : (labels : List LabelValue) (symbols : List ModSymbol) (l : LinkValue) (ls : List LinkValue) → symbol_names symbols ≡ label_names labels → AllByRecursion IsHome symbols
    → 0 < length (all_symbols symbols (outside_names labels (link_names (l ∷ ls))))
some_symbol labels symbols l ls named home = by_place (place_named l.name labels) refl
  where
    outside : List (List ℕ)
    outside = outside_names labels (link_names (l ∷ ls))

    long : length (all_symbols symbols outside) ≡ length symbols + length outside
    long =
        let a = length-append (locals symbols ++ globals symbols) (map outside_symbol outside) in
        let b = length-append (locals symbols) (globals symbols) in
        let c = length-map outside outside_symbol in
        let e = home_count symbols home in
        omega (arith, a, b, c, e)

    by_place : (o : Option ℕ) → place_named l.name labels ≡ o → 0 < length (all_symbols symbols outside)
    by_place None e = let some = first_outside labels l.name (link_names ls) e in omega (arith, long, some)
    by_place (Some i) e =
        let within = (position-Some (λ (m : LabelValue). bytes_eq m.name l.name) labels i (record { name = []; section = section.Text; offset = 0 }) e).0 in
        let same = sym (length-map symbols (λ (s : ModSymbol). s.name)) ∙ ap length named ∙ length-map labels (λ (m : LabelValue). m.name) in
        omega (arith, long, within, same)

small_place : (name : List ℕ) (names : List (List ℕ)) (o : Option ℕ) → name_place name names ≡ o → 0 < length names → unwrap_or o 0 < length names
small_place name names None e some = some
small_place name names (Some i) e some = (position-Some (λ (n : List ℕ). bytes_eq n name) names i [] e).0

each_linked : (names : List (List ℕ)) (links : List LinkValue) → 0 < length names → AllByRecursion (λ (r : ModRela). r.symbol < length names) (map (rela_of names) links)
each_linked names [] some = tt
each_linked names (l ∷ ls) some = (small_place l.name names (name_place l.name names) refl some, each_linked names ls some)

each_by_section : (P : ModRela → Type 0) (relas : List ModRela) → AllByRecursion P relas → AllByRecursion P (by_section relas)
each_by_section P relas all =
    each_append P (relas_for 1 relas ++ relas_for 2 relas) (relas_for 3 relas)
    (each_append P (relas_for 1 relas) (relas_for 2 relas) (each_filter P (of_section 1) relas all) (each_filter P (of_section 2) relas all)) (each_filter P (of_section 3) relas all)

-- the symbol of each relocation is there
are_linked : (labels : List LabelValue) (symbols : List ModSymbol) (links : List LinkValue) → symbol_names symbols ≡ label_names labels → AllByRecursion IsHome symbols
    → AllByRecursion (λ (r : ModRela). r.symbol < length (all_symbols symbols (outside_names labels (link_names links))))
    (by_section (map (rela_of (symbol_names (all_symbols symbols (outside_names labels (link_names links))))) links))
are_linked labels symbols [] named home = tt
are_linked labels symbols (l ∷ ls) named home =
    let all = all_symbols symbols (outside_names labels (link_names (l ∷ ls))) in
    let names = symbol_names all in
    let long : length names ≡ length all = length-map all (λ (s : ModSymbol). s.name) in
    let some : 0 < length names = let there = some_symbol labels symbols l ls named home in omega (arith, there, long) in
    subst (λ (n : ℕ). AllByRecursion (λ (r : ModRela). r.symbol < n) (by_section (map (rela_of names) (l ∷ ls)))) long
    (each_by_section (λ (r : ModRela). r.symbol < length names) (map (rela_of names) (l ∷ ls)) (each_linked names (l ∷ ls) some))

-- ---- the module has a file

none_undefined : (symbols : List ModSymbol) → AllByRecursion IsHome symbols → undefined symbols ≡ []
none_undefined [] h = refl
none_undefined (s ∷ ss) h =
    let above = h.0.above in
    let here : (s.section == 0) ≡ false = grind (arith, nat_tests) in
    rw (both_fail s.global (s.section == 0) here) (none_undefined ss h.1)

-- a draft with uses
abbrev with_uses : List UseValue → DraftValue → DraftValue
with_uses uses d = record d { uses = uses }

fits_form : (form : Form) (d : DraftValue) → d.form ≡ form → (form ≡ Exec → d.uses ≡ []) → AllByRecursion IsHome d.symbols → FitsForm form (module_of d)
unfolding module_of
fits_form Exec d is none home =
    let all : AllByRecursion IsHome (all_symbols d.symbols []) =
    each_append IsHome (locals d.symbols ++ globals d.symbols) []
    (each_append IsHome (locals d.symbols) (globals d.symbols) (each_filter IsHome is_local d.symbols home) (each_filter IsHome is_global d.symbols home)) tt in
    (ap (λ (us : List UseValue). (module_of (with_uses us d)).relas) (none refl), ap (λ (us : List UseValue). undefined (module_of (with_uses us d)).symbols) (none refl) ∙ none_undefined (all_symbols d.symbols []) all)
fits_form Object d is none home = ap (λ (f : Form). entry_point f d.symbols) is

writable : (form : Form) (names lines : List (List ℕ)) (s : Survey) (d : DraftValue) → IsRead form names lines s d → file_length (module_of d) < 2 ^ 32 → IsWritable (module_of d)
unfolding module_of
writable form names lines s d read short =
    let agree = agreed form names lines s d read in
    let home = are_home form names lines s d read in
    let links = links_of d.labels d.uses in
    let outside = outside_names d.labels (link_names links) in
    let all = all_symbols d.symbols outside in
    let relas = by_section (map (rela_of (symbol_names all)) links) in
    record {
      order = symbols_in_order d.symbols outside;
      symbols = λ k u h. all_at IsSymbol all k u (each_symbol d.symbols outside home.symbols (outside_plain d.labels links (links_plain d.labels d.uses (close form names lines s d read)))) h;
      by_section = relas_by_section (map (rela_of (symbol_names all)) links);
      linked = λ k u h. all_at (λ (r : ModRela). r.symbol < length all) relas k u (are_linked d.labels d.symbols links (same_names form names lines s d read) home.symbols) h;
      form = fits_form d.form d refl (λ exec. home.kept.uses ∙ agree.none (sym home.kept.form ∙ exec)) home.symbols;
      bss = agree.short.bss;
      length = short;
    }

-- ---- a module by its parts

pub module_is : (d : DraftValue) (links : List LinkValue) (outside names : List (List ℕ)) (all : List ModSymbol) (relas : List ModRela) (entry : ℕ)
    → links ≡ links_of d.labels d.uses → outside ≡ outside_names d.labels (link_names links) → all ≡ all_symbols d.symbols outside → names ≡ symbol_names all
    → relas ≡ by_section (map (rela_of names) links) → entry ≡ entry_point d.form d.symbols
    → record { form = d.form; entry = entry; text = d.text; rodata = d.rodata; rwdata = d.rwdata; bss = d.bss; symbols = all; relas = relas } ≡ module_of d
unfolding module_of
module_is d links outside names all relas entry links_are outside_are all_are names_are relas_are entry_is = rw (entry_is, relas_are, names_are, all_are, outside_are, links_are) refl

-- ---- which modules fit

abbrev moduled : ModuleValue → Result ModuleValue AsmFault
moduled m = Ok m

moduled_same : (m n : ModuleValue) → moduled m ≡ moduled n → m ≡ n
moduled_same m n e = cc

fitting_ok : (last : ℕ) (m n : ModuleValue) → fitting last m ≡ Ok n → (m ≡ n) × (file_length m < 2 ^ 32)
unfolding fitting
fitting_ok last m n e =
    elim (cases_Bool (nat_lt (file_length m) (2 ^ 32))) [
      | inl t ↦ let same : moduled m ≡ moduled n = rw t at e in (moduled_same m n same, grind (arith, nat_tests))
      | inr t ↦ let bad : Err (fault.At last rule.Range) ≡ moduled n = rw t at e in absurd cc
    ]

-- a file is longer than its symbols
long_file : (m : ModuleValue) → length m.symbols ≤ file_length m
unfolding layout_of sizes_with
long_file m = omega arith

too_many : (last : ℕ) (m : ModuleValue) → 2 ^ 32 ≤ length m.symbols → fitting last m ≡ Err (fault.At last rule.Range)
unfolding fitting
too_many last m many =
    let long = long_file m in
    let test : nat_lt (file_length m) (2 ^ 32) ≡ false = grind (arith, nat_tests) in
    rw test refl

-- ---- what assemble answers

assembled_is : (form : Form) (source : List ℕ) (names : List (List ℕ)) (s : Survey) (d : DraftValue) → names ≡ pcrel_names form (lines_of source) → IsRead form names (lines_of source) s d
    → assembled form source ≡ fitting (length (lines_of source)) (module_of d)
unfolding assembled
assembled_is form source names s d are read =
    let first : surveyed form (pcrel_names form (lines_of source)) 1 (lines_of source) start ≡ Ok s = ap (λ (ns : List (List ℕ)). surveyed form ns 1 (lines_of source) start) (sym are) ∙ read.first in
    rw (first, read.second) refl

pub answer_writable : (r : Result ModuleValue AsmFault) (form : Form) (last : ℕ) (names lines : List (List ℕ)) (s : Survey) (d : DraftValue) (m : ModuleValue) → IsRead form names lines s d → m ≡ module_of d
    → Answers (λ n. n) r (fitting last m) → IfOk r IsWritable
answer_writable (Err e) form last names lines s d m read made answers = tt
answer_writable (Ok n) form last names lines s d m read made answers =
    let fits = fitting_ok last m n answers in
    subst IsWritable (sym made ∙ fits.0) (writable form names lines s d read (subst (λ (k : ModuleValue). file_length k < 2 ^ 32) made fits.1))

pub answer_is : (r : Result ModuleValue AsmFault) (form : Form) (source : List ℕ) (names : List (List ℕ)) (s : Survey) (d : DraftValue) (m : ModuleValue) → names ≡ pcrel_names form (lines_of source)
    → IsRead form names (lines_of source) s d → m ≡ module_of d → Answers (λ n. n) r (fitting (length (lines_of source)) m) → Answers (λ n. n) r (assembled form source)
answer_is r form source names s d m are read made answers =
    subst (λ (a : Result ModuleValue AsmFault). Answers (λ n. n) r a) (ap (fitting (length (lines_of source))) made ∙ sym (assembled_is form source names s d are read)) answers

pub answer_too_many : (form : Form) (source : List ℕ) (names : List (List ℕ)) (s : Survey) (d : DraftValue) → names ≡ pcrel_names form (lines_of source) → IsRead form names (lines_of source) s d → IsModuleOf d None
    → assembled form source ≡ Err (fault.At (length (lines_of source)) rule.Range)
answer_too_many form source names s d are read many = assembled_is form source names s d are read ∙ too_many (length (lines_of source)) (module_of d) many

pub first_fault : (form : Form) (source : List ℕ) (names : List (List ℕ)) (e : AsmFault) → names ≡ pcrel_names form (lines_of source) → IsFaultOf e (surveyed form names 1 (lines_of source) start) → IsFaultOf e (assembled form source)
unfolding assembled
first_fault form source names e are h =
    let here = subst (λ (ns : List (List ℕ)). IsFaultOf e (surveyed form ns 1 (lines_of source) start)) are h in
    bind_fault e (surveyed form (pcrel_names form (lines_of source)) 1 (lines_of source) start) _ here

pub second_fault : (form : Form) (source : List ℕ) (names : List (List ℕ)) (s : Survey) (e : AsmFault) → names ≡ pcrel_names form (lines_of source) → surveyed form names 1 (lines_of source) start ≡ Ok s
    → IsFaultOf e (drafted 1 (lines_of source) (blank form s)) → IsFaultOf e (assembled form source)
unfolding assembled
second_fault form source names s e are first h =
    let here : surveyed form (pcrel_names form (lines_of source)) 1 (lines_of source) start ≡ Ok s = ap (λ (ns : List (List ℕ)). surveyed form ns 1 (lines_of source) start) (sym are) ∙ first in
    rw here (bind_fault e (drafted 1 (lines_of source) (blank form s)) _ h)
