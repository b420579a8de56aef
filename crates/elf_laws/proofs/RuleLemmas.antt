-- A module's file breaks no rule of reading.
use Rattle.std.proofs.Common.{◌≡◌, ◌<◌, ◌≤◌, ◌+◌, ◌*◌, ◌/◌, ◌%◌, ◌^◌, ◌++◌, ◌==◌, ◌||◌, ℕ, List, [], ◌∷◌, Bool, true, false, not, length, map, Option, None, refl, sym, ap, subst, ◌∙◌, arith}
use Rattle.std.proofs.lemmas.Bool.Decides.{nat_tests}
use Rattle.std.proofs.lemmas.List.{length-append}
use Rattle.std.specs.Prelude.{nat_le, nat_lt}
use Rattle.std.specs.List.{enumerate_from, flat_map, position_or_len, AllByRecursion}
use Rattle.std.specs.Option.{option_map_or}
use Rattle.elf_read.specs.declared.fault.ElfFault.{ElfFault}
use Rattle.wf_outside.specs.declared.rules.ElfRule.{ElfRule}
use Rattle.wf_outside.specs.declared.rules.ElfRule.TheVariants.{Range, Strings, Table}
use Rattle.wf_outside.specs.Lists.{first_of}
use Rattle.elf_read.specs.declared.header.Header.{Header}
use Rattle.elf_read.specs.declared.records.Section.{Section}
use Rattle.elf_read.specs.declared.records.Segment.{Segment}
use Rattle.elf_read.specs.declared.records.Span.{Span}
use Rattle.elf_read.specs.declared.records.Symbol.{Symbol}
use Rattle.elf_read.specs.declared.symbols.SymbolTable.{SymbolTable}
use Rattle.elf_read.specs.declared.constants.TheConstants.{EHSIZE, PHENTSIZE, RELAENTSIZE, SHENTSIZE, SHT_REL, SHT_STRTAB, SYMENTSIZE}
use Rattle.elf_read.specs.Records.{header_of, is_rela, is_symtab, relas_in, sections_of, segments_of, symbol_table, symbols_of}
use Rattle.elf_read.specs.Rules.{ends_in, first_fault, fits_file, has_home, has_symbol, header_rules, ident_rules, is_only_symtab, is_strings, is_symbols, layout_rules, lies_in_file, link_rules, rela_rules, section_rules, segment_rules, symbol_rules, target_rules, unless_each}
use Rattle.elf_read.proofs.RuleLemmas.{first_of-none}
use Rattle.elf_write.specs.declared.layout.Plan.{Plan}
use Rattle.elf_write.specs.declared.module.Form.{Form}
use Rattle.elf_write.specs.declared.module.Form.TheVariants.{Exec, Object}
use Rattle.elf_write.specs.declared.module.ModRela.{ModRela}
use Rattle.elf_write.specs.declared.module.ModSymbol.{ModSymbol}
use Rattle.elf_write.specs.Layout.{plan_of}
use Rattle.elf_write.specs.Modules.{ModuleValue}
use Rattle.elf_write.specs.Names.{name_places, section_names, table_count}
use Rattle.elf_write.specs.Parts.{locals, name_bytes, relas_for}
use Rattle.elf_write.specs.Records.{program_sections, rela_section, rela_sections, table_sections}
use Rattle.elf_write.specs.Written.{if_segments, sections_in, segments_in, type_of, written}
use Rattle.elf_laws.specs.Laws.{header_with, kind_of, rela_with, symbol_with, symbols_with, NoRuleIsBroken}
use Rattle.elf_laws.proofs.FileLemmas.{count_sections}
use Rattle.elf_laws.proofs.HeaderLemmas.{ident}
use Rattle.elf_laws.proofs.HoldsLemmas.{is_file, length_is_planned}
use Rattle.elf_laws.proofs.PlanLemmas.{both_hold, has_data, length-segments_in, relas_hold, segments_hold, IsPlanned}
use Rattle.elf_laws.proofs.ReadLemmas.{all_relas, all_sections, all_segments, all_symbols, header_read, is_front, length-symbols_with, null_plain, symbols_read, table_of, table_read, IsFileOf}
use Rattle.elf_laws.proofs.RelaLemmas.{plain_for, IsPlainRela}
use Rattle.elf_laws.proofs.SectionLemmas.{all_numbered, at_table, count_front, enumerate-append, front_sections, not_symtab, symtab_at, symtab_in}
use Rattle.elf_laws.proofs.StandLemmas.{Stands}
use Rattle.elf_laws.proofs.SymbolLemmas.{null, IsPlain}

-- the first bytes
ident_holds : (file : List ℕ) → Stands 0 ident file → first_of (ident_rules file) ≡ None
ident_holds file s =
    ap (λ (x : List ℕ). first_of (ident_rules x)) s.here

target_holds : (form : Form) (entry n k headers : ℕ) → first_of (target_rules (kind_of form) (header_with form entry n k headers)) ≡ None
unfolding type_of
target_holds Exec entry n k headers = refl
target_holds Object entry n k headers = refl

-- the tables of headers
layout_holds : (form : Form) (size entry n tables headers : ℕ) → EHSIZE + PHENTSIZE * n ≤ size → headers + 64 * (8 + tables) ≤ size → first_of (layout_rules size (header_with form entry n tables headers)) ≡ None
layout_holds form size entry n tables headers h k =
    let sized : (n == 0 || if_segments n PHENTSIZE == PHENTSIZE) ≡ true = grind (arith, nat_tests) in
    let there : (n == 0 || nat_le (if_segments n EHSIZE + PHENTSIZE * n) size) ≡ true = grind (arith, nat_tests) in
    let some : (8 + tables == 0) ≡ false = grind (arith, nat_tests) in
    let ends : nat_le (headers + SHENTSIZE * (8 + tables)) size ≡ true = grind (arith, nat_tests) in
    rw (sized, there, some, ends) refl

header_holds : (form : Form) (file : List ℕ) (entry n tables headers : ℕ) → header_of file ≡ header_with form entry n tables headers → Stands 0 ident file → EHSIZE + PHENTSIZE * n ≤ length file → headers + 64 * (8 + tables) ≤ length file
    → first_of (header_rules (kind_of form) file) ≡ None
unfolding header_rules
header_holds form file entry n tables headers e s h k =
    let long : nat_le EHSIZE (length file) ≡ true = grind (arith, nat_tests) in
    let header = header_with form entry n tables headers in
    rw (e, long)
    (first_of-none (ident_rules file ++ target_rules (kind_of form) header) (layout_rules (length file) header)
    (first_of-none (ident_rules file) (target_rules (kind_of form) header) (ident_holds file s) ∙ target_holds form entry n tables headers)
    ∙ layout_holds form (length file) entry n tables headers h k)

-- no record of a table fails a test that all pass
none_fails : {X : Type 0} (test : X → Bool) (xs : List X) → AllByRecursion (λ x. test x ≡ true) xs → position_or_len (λ x. not (test x)) xs ≡ length xs
none_fails test [] h = refl
none_fails test (x ∷ xs) h = rw (h.0, none_fails test xs h.1) (omega arith)

each_passes : {X : Type 0} (test : X → Bool) (rule : ElfRule) (at size : ℕ) (xs : List X) → AllByRecursion (λ x. test x ≡ true) xs → unless_each test rule at size xs ≡ None
each_passes test rule at size xs h =
    let past : nat_lt (position_or_len (λ x. not (test x)) xs) (length xs) ≡ false = grind (arith, nat_tests, none_fails test xs h) in
    rw past refl

-- the segments
segments_hold_in : (p : Plan) (size : ℕ) → IsPlanned p → p.layout.end ≤ size → AllByRecursion (λ s. fits_file size s ≡ true) (segments_in p)
segments_hold_in p size k long =
    let order = k.order in
    segments_hold (λ s. fits_file size s ≡ true) p (λ e. (let stored = has_data p k e in (grind (arith, nat_tests), (grind (arith, nat_tests), grind (arith, nat_tests)))))

segment_rules_hold : (size : ℕ) (h : Header) (segments : List Segment) → AllByRecursion (λ s. fits_file size s ≡ true) segments → first_of (segment_rules size h segments) ≡ None
unfolding segment_rules
segment_rules_hold size h segments fit = rw (each_passes (fits_file size) Range h.e_phoff PHENTSIZE segments fit) refl

-- the sections
program_lies : (p : Plan) (size : ℕ) → IsPlanned p → p.layout.end ≤ size → AllByRecursion (λ s. lies_in_file size s ≡ true) (program_sections p.sizes p.layout p.bases)
unfolding program_sections
program_lies p size k long =
    let order = k.order in
    let l = p.layout in
    let s = p.sizes in
    let text : nat_le (l.text + s.text) size ≡ true = grind (arith, nat_tests) in
    let rodata : nat_le (l.rodata + s.rodata) size ≡ true = grind (arith, nat_tests) in
    let rwdata : nat_le (l.rwdata + s.rwdata) size ≡ true = grind (arith, nat_tests) in
    (refl, (text, (rodata, (rwdata, (refl, tt)))))

relas_lie : (p : Plan) (size : ℕ) → IsPlanned p → p.layout.end ≤ size → AllByRecursion (λ s. lies_in_file size s ≡ true) (rela_sections p.sizes p.layout)
relas_lie p size k long =
    let order = k.order in
    let l = p.layout in
    let s = p.sizes in
    let text : nat_le (l.relas + 24 * s.text_relas) size ≡ true = grind (arith, nat_tests) in
    let rodata : nat_le (l.relas + 24 * s.text_relas + 24 * s.rodata_relas) size ≡ true = grind (arith, nat_tests) in
    let rwdata : nat_le (l.relas + 24 * s.text_relas + 24 * s.rodata_relas + 24 * s.rwdata_relas) size ≡ true = grind (arith, nat_tests) in
    relas_hold (λ s. lies_in_file size s ≡ true) s l text rodata rwdata

tables_lie : (p : Plan) (n size : ℕ) → IsPlanned p → p.layout.end ≤ size → AllByRecursion (λ s. lies_in_file size s ≡ true) (table_sections p.sizes p.layout n)
unfolding table_sections
tables_lie p n size k long =
    let order = k.order in
    let l = p.layout in
    let s = p.sizes in
    let symtab : nat_le (l.symtab + 24 * (s.symbols + 1)) size ≡ true = grind (arith, nat_tests) in
    let strtab : nat_le (l.strtab + s.strings) size ≡ true = grind (arith, nat_tests) in
    let shstrtab : nat_le (l.shstrtab + length (section_names s)) size ≡ true = grind (arith, nat_tests) in
    (symtab, (strtab, (shstrtab, tt)))

lie_in : (p : Plan) (n size : ℕ) → IsPlanned p → p.layout.end ≤ size → AllByRecursion (λ s. lies_in_file size s ≡ true) (sections_in p n)
lie_in p n size k long =
    let lies : Section → Type 0 = λ s. lies_in_file size s ≡ true in
    let program = program_sections p.sizes p.layout p.bases in
    both_hold lies (front_sections p) (table_sections p.sizes p.layout n) (both_hold lies program (rela_sections p.sizes p.layout) (program_lies p size k long) (relas_lie p size k long)) (tables_lie p n size k long)

-- what is no symbol table is no second one
no_symtab : (sections xs : List Section) → AllByRecursion (λ s. is_symtab s ≡ false) xs → AllByRecursion (λ s. (i : ℕ) → is_only_symtab sections (i, s) ≡ true) xs
no_symtab sections [] h = tt
no_symtab sections (x ∷ xs) h = (λ i. rw h.0 refl, no_symtab sections xs h.1)

-- a section of strings among the tables
strings_at : (p : Plan) (n : ℕ) → is_strings (sections_in p n) (6 + table_count p.sizes) ≡ true
unfolding table_sections
strings_at p n =
    let place : 6 + table_count p.sizes ≡ 5 + table_count p.sizes + 1 = omega arith in
    ap (is_strings (sections_in p n)) place ∙ ap (λ (o : Option Section). option_map_or (λ s. s.sh_type == SHT_STRTAB) o false) (at_table p n 1)

names_strings : (p : Plan) (n : ℕ) → is_strings (sections_in p n) (7 + table_count p.sizes) ≡ true
unfolding table_sections
names_strings p n =
    let place : 7 + table_count p.sizes ≡ 5 + table_count p.sizes + 2 = omega arith in
    ap (is_strings (sections_in p n)) place ∙ ap (λ (o : Option Section). option_map_or (λ s. s.sh_type == SHT_STRTAB) o false) (at_table p n 2)

-- the symbol table is the only one
symtab_only : (p : Plan) (n : ℕ) → is_only_symtab (sections_in p n) (0 + length (front_sections p), symtab_in p n) ≡ true
symtab_only p n =
    let whole : (24 * (p.sizes.symbols + 1) % 24 == 0) ≡ true = grind (arith, nat_tests) in
    let within : nat_lt (5 + table_count p.sizes) (length (sections_in p n)) ≡ true = grind (arith, nat_tests, count_sections p n) in
    let this : (0 + length (front_sections p) == 5 + table_count p.sizes) ≡ true = grind (arith, nat_tests, count_front p) in
    rw (symtab_at p n, within, this, strings_at p n, whole) refl

only_symtab : (p : Plan) (n : ℕ) → AllByRecursion (λ s. is_only_symtab (sections_in p n) s ≡ true) (enumerate_from 0 (sections_in p n))
unfolding table_sections
only_symtab p n =
    let sections = sections_in p n in
    let only : ℕ × Section → Type 0 = λ s. is_only_symtab sections s ≡ true in
    let front = front_sections p in
    let tables = table_sections p.sizes p.layout n in
    subst (AllByRecursion only) (sym (enumerate-append 0 front tables))
    (both_hold only (enumerate_from 0 front) (enumerate_from (0 + length front) tables)
    (all_numbered only 0 front (no_symtab sections front (not_symtab p)))
    (symtab_only p n, (refl, (refl, tt))))

section_rules_hold : (p : Plan) (n size entry segments : ℕ) → IsPlanned p → p.layout.end ≤ size → first_of (section_rules size (header_with p.form entry segments (table_count p.sizes) p.layout.headers) (sections_in p n)) ≡ None
unfolding section_rules
section_rules_hold p n size entry segments k long =
    let at = p.layout.headers in
    let sections = sections_in p n in
    let some : (8 + table_count p.sizes == 0) ≡ false = grind (arith, nat_tests) in
    let named : (7 + table_count p.sizes == 0) ≡ false = grind (arith, nat_tests) in
    rw (each_passes (lies_in_file size) Range at SHENTSIZE sections (lie_in p n size k long), some, named, names_strings p n, each_passes (is_only_symtab sections) Table at SHENTSIZE (enumerate_from 0 sections) (only_symtab p n)) refl

-- the symbols
names_end : (names : Span) (at : ℕ) (symbols : List ModSymbol) → at + length (flat_map name_bytes symbols) ≤ names.at + names.len → AllByRecursion (λ s. ends_in names s ≡ true) (symbols_with at symbols)
names_end names at [] h = tt
names_end names at (s ∷ ss) h =
    let both = length-append (name_bytes s) (flat_map name_bytes ss) in
    let one = length-append s.name (0 ∷ []) in
    let within : at + length s.name < names.at + names.len = omega (arith, h, both, one) in
    let ends : ends_in names (symbol_with at s) ≡ true = grind (arith, nat_tests, within) in
    (ends, names_end names (at + length (name_bytes s)) ss (omega (arith, h, both)))

homes_hold : (at tables : ℕ) (symbols : List ModSymbol) → AllByRecursion IsPlain symbols → AllByRecursion (λ s. has_home (8 + tables) s ≡ true) (symbols_with at symbols)
homes_hold at tables [] h = tt
homes_hold at tables (s ∷ ss) h =
    let low : s.section < 8 = h.0.home in
    let home : has_home (8 + tables) (symbol_with at s) ≡ true = grind (arith, nat_tests, low) in
    (home, homes_hold (at + length (name_bytes s)) tables ss h.1)

symbol_rules_hold : (h : Header) (t : SymbolTable) (symbols : List Symbol) → AllByRecursion (λ s. ends_in t.names s ≡ true) symbols → AllByRecursion (λ s. has_home h.e_shnum s ≡ true) symbols → first_of (symbol_rules h t symbols) ≡ None
unfolding symbol_rules
symbol_rules_hold h t symbols ends homes = rw (each_passes (ends_in t.names) Strings t.at SYMENTSIZE symbols ends, each_passes (has_home h.e_shnum) Table t.at SYMENTSIZE symbols homes) refl

-- the relocations
-- where no rule of any list is broken, none of all is
none_of_all : {X : Type 0} (rules : X → List (Option ElfFault)) (xs : List X) → AllByRecursion (λ x. first_of (rules x) ≡ None) xs → first_of (flat_map rules xs) ≡ None
none_of_all rules [] h = refl
none_of_all rules (x ∷ xs) h = first_of-none (rules x) (flat_map rules xs) h.0 ∙ none_of_all rules xs h.1

-- a section that is none of relocations breaks none of their rules
no_relas : (file : List ℕ) (h : Header) (sections : List Section) (symbols : ℕ) (xs : List Section) → AllByRecursion (λ s. ((s.sh_type == SHT_REL) ≡ false) × (is_rela s ≡ false)) xs
    → AllByRecursion (λ s. (i : ℕ) → first_of (link_rules file h sections symbols (i, s)) ≡ None) xs
no_relas file h sections symbols [] k = tt
no_relas file h sections symbols (x ∷ xs) k = (λ i. rw (k.0.0, k.0.1) refl, no_relas file h sections symbols xs k.1)

-- each relocation names a symbol that is there
symbols_there : (symbols : ℕ) (relas : List ModRela) → AllByRecursion (IsPlainRela symbols) relas → AllByRecursion (λ r. has_symbol (symbols + 1) r ≡ true) (map rela_with relas)
symbols_there symbols [] h = tt
symbols_there symbols (r ∷ rs) h =
    let number : ((r.symbol + 1) * 2 ^ 32 + r.kind) / 2 ^ 32 ≡ r.symbol + 1 = omega (arith, h.0.sized.kind) in
    let there : has_symbol (symbols + 1) (rela_with r) ≡ true = grind (arith, nat_tests, number, h.0.linked) in
    (there, symbols_there symbols rs h.1)

symtab_linked : (p : Plan) (n : ℕ) → is_symbols (sections_in p n) (5 + table_count p.sizes) ≡ true
unfolding table_sections
symtab_linked p n =
    let place : 5 + table_count p.sizes ≡ 5 + table_count p.sizes + 0 = omega arith in
    ap (is_symbols (sections_in p n)) place ∙ ap (λ (o : Option Section). option_map_or is_symtab o false) (at_table p n 0)

-- a section of relocations breaks none of their rules
relas_linked : (p : Plan) (n symbols name at count target : ℕ) (relas : List ModRela) (file : List ℕ) (h : Header) → target ≤ 3 → AllByRecursion (IsPlainRela symbols) relas
    → relas_in file (rela_section (table_count p.sizes) name at count target) ≡ map rela_with relas → (i : ℕ) → first_of (link_rules file h (sections_in p n) (symbols + 1) (i, rela_section (table_count p.sizes) name at count target)) ≡ None
relas_linked p n symbols name at count target relas file h low plain read i =
    let whole : (24 * count % 24 == 0) ≡ true = grind (arith, nat_tests) in
    let there : nat_lt target (length (sections_in p n)) ≡ true = grind (arith, nat_tests, count_sections p n) in
    let passes = each_passes (has_symbol (symbols + 1)) Table at RELAENTSIZE (map rela_with relas) (symbols_there symbols relas plain) in
    rw (whole, symtab_linked p n, there, read, passes) refl

-- the rules of relocations of an object
object_relas : (p : Plan) (m : ModuleValue) (file : List ℕ) (h : Header) → IsFileOf p m file → first_of (flat_map (link_rules file h (sections_in p (length (locals m.symbols))) (length m.symbols + 1)) (enumerate_from 0 (sections_in p (length (locals m.symbols))))) ≡ None
unfolding program_sections table_sections
object_relas p m file h f =
    let n = length (locals m.symbols) in
    let count = length m.symbols in
    let sections = sections_in p n in
    let rules : ℕ × Section → List (Option ElfFault) = link_rules file h sections (count + 1) in
    let unbroken : Section → Type 0 = λ s. (i : ℕ) → first_of (rules (i, s)) ≡ None in
    let program = program_sections p.sizes p.layout p.bases in
    let middle = rela_sections p.sizes p.layout in
    let last = table_sections p.sizes p.layout n in
    let r = all_relas p m file f in
    let s = p.sizes in
    let at = p.layout.relas in
    let one = no_relas file h sections (count + 1) program ((refl, refl), ((refl, refl), ((refl, refl), ((refl, refl), ((refl, refl), tt))))) in
    let two = relas_hold unbroken s p.layout
    (relas_linked p n count 26 at s.text_relas 1 (relas_for 1 m.relas) file h (omega arith) (plain_for 1 count m.relas f.linked f.sized.relas) r.text)
    (relas_linked p n count (name_places s).rodata (at + 24 * s.text_relas) s.rodata_relas 2 (relas_for 2 m.relas) file h (omega arith) (plain_for 2 count m.relas f.linked f.sized.relas) r.rodata)
    (relas_linked p n count (name_places s).rwdata (at + 24 * s.text_relas + 24 * s.rodata_relas) s.rwdata_relas 3 (relas_for 3 m.relas) file h (omega arith) (plain_for 3 count m.relas f.linked f.sized.relas) r.rwdata) in
    let three = no_relas file h sections (count + 1) last ((refl, refl), ((refl, refl), ((refl, refl), tt))) in
    none_of_all rules (enumerate_from 0 sections)
    (all_numbered (λ s. first_of (rules s) ≡ None) 0 sections (both_hold unbroken (program ++ middle) last (both_hold unbroken program middle one two) three))

relas_unbroken : (form : Form) (p : Plan) (m : ModuleValue) (file : List ℕ) (h : Header) → IsFileOf p m file → first_of (rela_rules (kind_of form) file h (sections_in p (length (locals m.symbols))) (length m.symbols + 1)) ≡ None
unfolding rela_rules
relas_unbroken Exec p m file h f = refl
relas_unbroken Object p m file h f = object_relas p m file h f

-- the rules of the header
header_unbroken : (p : Plan) (m : ModuleValue) (file : List ℕ) → IsFileOf p m file → first_of (header_rules (kind_of p.form) file) ≡ None
header_unbroken p m file f =
    let order = f.planned.order in
    let size = f.whole.size in
    let fits : EHSIZE + PHENTSIZE * length (segments_in p) ≤ length file = omega (arith, size, length-segments_in p, f.planned.front, order.text, order.rodata, order.rwdata, order.relas, order.symtab, order.strtab, order.shstrtab) in
    header_holds p.form file m.entry (length (segments_in p)) (table_count p.sizes) p.layout.headers (header_read p m file f) (is_front p m file f).target.ident fits (omega (arith, size))

-- those of the segments
segments_unbroken : (p : Plan) (m : ModuleValue) (file : List ℕ) → IsFileOf p m file → p.layout.end ≤ length file
    → first_of (segment_rules (length file) (header_of file) (segments_of file (header_of file))) ≡ None
segments_unbroken p m file f long =
    ap (λ (x : List Segment). first_of (segment_rules (length file) (header_of file) x)) (all_segments p m file f)
    ∙ segment_rules_hold (length file) (header_of file) (segments_in p) (segments_hold_in p (length file) f.planned long)

-- those of the sections
sections_unbroken : (p : Plan) (m : ModuleValue) (file : List ℕ) → IsFileOf p m file → p.layout.end ≤ length file
    → first_of (section_rules (length file) (header_of file) (sections_of file (header_of file))) ≡ None
sections_unbroken p m file f long =
    let n = length (locals m.symbols) in
    let segments = length (segments_in p) in
    ap (λ (x : List Section). first_of (section_rules (length file) (header_of file) x)) (all_sections p m file f)
    ∙ ap (λ (h : Header). first_of (section_rules (length file) h (sections_in p n))) (header_read p m file f)
    ∙ section_rules_hold p n (length file) m.entry segments f.planned long

-- those of the symbols
symbols_unbroken : (p : Plan) (m : ModuleValue) (file : List ℕ) → IsFileOf p m file → first_of (symbol_rules (header_of file) (table_of p) (symbols_of file (table_of p))) ≡ None
symbols_unbroken p m file f =
    let at = p.layout.strtab in
    let all = null ∷ m.symbols in
    let header = header_with p.form m.entry (length (segments_in p)) (table_count p.sizes) p.layout.headers in
    let within : at + length (flat_map name_bytes all) ≤ at + p.sizes.strings = omega (arith, f.sizes.strings) in
    ap (λ (x : List Symbol). first_of (symbol_rules (header_of file) (table_of p) x)) (symbols_read p m file f)
    ∙ ap (λ (h : Header). first_of (symbol_rules h (table_of p) (symbols_with at all))) (header_read p m file f)
    ∙ symbol_rules_hold header (table_of p) (symbols_with at all) (names_end (table_of p).names at all within) (homes_hold at (table_count p.sizes) all (null_plain, f.plain))

-- all rules
unbroken : (p : Plan) (m : ModuleValue) (file : List ℕ) → IsFileOf p m file → p.layout.end ≤ length file → first_fault (kind_of p.form) file ≡ None
unfolding first_fault
unbroken p m file f long =
    let h = header_of file in
    let sections = sections_of file h in
    let n = length (locals m.symbols) in
    let a = header_rules (kind_of p.form) file in
    let b = segment_rules (length file) h (segments_of file h) in
    let c = section_rules (length file) h sections in
    let table : symbol_table sections ≡ table_of p = ap symbol_table (all_sections p m file f) ∙ table_read p n in
    let d = symbol_rules h (symbol_table sections) (symbols_of file (symbol_table sections)) in
    let e = rela_rules (kind_of p.form) file h sections (length (symbols_of file (symbol_table sections))) in
    let fourth = ap (λ (t : SymbolTable). first_of (symbol_rules h t (symbols_of file t))) table ∙ symbols_unbroken p m file f in
    let count : length (symbols_of file (symbol_table sections)) ≡ length m.symbols + 1 =
    ap length (all_symbols p m file f) ∙ length-symbols_with p.layout.strtab (null ∷ m.symbols) ∙ omega arith in
    let last : first_of e ≡ None =
    ap (λ (k : ℕ). first_of (rela_rules (kind_of p.form) file h sections k)) count
    ∙ ap (λ (xs : List Section). first_of (rela_rules (kind_of p.form) file h xs (length m.symbols + 1))) (all_sections p m file f)
    ∙ relas_unbroken p.form p m file h f in
    first_of-none (a ++ b ++ c ++ d) e
    (first_of-none (a ++ b ++ c) d (first_of-none (a ++ b) c (first_of-none a b (header_unbroken p m file f) ∙ segments_unbroken p m file f long) ∙ sections_unbroken p m file f long) ∙ fourth)
    ∙ last

pub no_rule_is_broken : NoRuleIsBroken
no_rule_is_broken m w z = unbroken (plan_of m) m (written m) (is_file m w z) (omega (arith, length_is_planned m w))
