-- Rules in order.
use Rattle.std.proofs.Common.{Result, Err, ◌⊎◌, inl, inr, ◌==◌, ◌%◌, ◌&&◌, ◌||◌, ap, sym, ◌∙◌, ◌≡◌, ◌<◌, ◌≤◌, ◌+◌, ◌*◌, ℕ, Bool, true, false, not, arith, length, get_or, List, [], ◌∷◌, ◌++◌, Option, Some, None, refl}
use Rattle.std.proofs.lemmas.Bool.Decides.{nat_tests}
use Rattle.std.proofs.lemmas.List.Sums.{fails_before_first, passes_at_first}
use Rattle.std.proofs.lemmas.List.Folds.{find_at}
use Rattle.std.proofs.lemmas.List.FromFn.{length-map-range_with_len, length-enumerate_from, get_or-enumerate_from}
use Rattle.std.proofs.lemmas.Option.{slice_get_within, get_or_from_slice_get}
use Rattle.std.specs.Prelude.{position, All, find, slice_get}
use Rattle.std.specs.List.{position_or_len, enumerate_from}
use Rattle.std.specs.Option.{option_map, option_map_or}
use Rattle.std.specs.Result.{result_err}
use Rattle.elf_read.specs.declared.fault.ElfFault.TheVariants.{Rule, Memory}
use Rattle.wf_outside.specs.declared.rules.ElfRule.{ElfRule}
use Rattle.wf_outside.specs.declared.rules.ElfRule.TheVariants.{Range, Strings, Table}
use Rattle.elf_read.specs.declared.symbols.SymbolTable.{SymbolTable}
use Rattle.elf_read.specs.declared.constants.TheConstants.{EHSIZE, PHENTSIZE, SHENTSIZE, SYMENTSIZE, PT_LOAD, SHT_SYMTAB, SHT_STRTAB}
use Rattle.elf_read.specs.Elf.{segment_place, FitsFile, IsInFile, IsNamed}
use Rattle.elf_read.specs.Records.{segment_at, section_at, symbol_at, is_symtab, symbol_table, header_of, segments_of, sections_of, symbols_of}
use Rattle.elf_read.specs.declared.records.Segment.{Segment}
use Rattle.elf_read.specs.declared.records.Section.{Section}
use Rattle.elf_read.specs.declared.records.Symbol.{Symbol}
use Rattle.elf_read.specs.declared.elf.Kind.{Kind}
use Rattle.elf_read.specs.declared.header.Header.{Header}
use Rattle.elf_read.specs.declared.fault.ElfFault.{ElfFault}
use Rattle.wf_outside.specs.Lists.{first_of}
use Rattle.elf_read.specs.Reading.{Answers, IsLaidOut, AreSymbolsIn}
use Rattle.elf_read.specs.Rules.{unless_each, layout_rules, header_rules, first_fault, segment_rules, section_rules, symbol_rules, rela_rules, fits_file, is_strings, is_only_symtab, lies_in_file, ends_in, has_home}

-- where none of the first rules is broken, the others count
pub first_of-none : (xs ys : List (Option ElfFault)) → first_of xs ≡ None → first_of (xs ++ ys) ≡ first_of ys
first_of-none [] ys h = refl
first_of-none (None ∷ xs) ys h = first_of-none xs ys h
first_of-none (Some x ∷ xs) ys h = cc

-- where one of the first rules is broken, the others do not count
pub first_of-some : (xs ys : List (Option ElfFault)) (fault : ElfFault) → first_of xs ≡ Some fault → first_of (xs ++ ys) ≡ Some fault
first_of-some [] ys fault h = cc
first_of-some (None ∷ xs) ys fault h = first_of-some xs ys fault h
first_of-some (Some x ∷ xs) ys fault h = h

-- a file that breaks no rule about the tables of headers has room for them
pub laid_out : (size : ℕ) (h : Header) → None ≡ first_of (layout_rules size h) → EHSIZE ≤ size → IsLaidOut size h
laid_out size h e room = record {
  header = room;
  segments = λ some. grind (arith, nat_tests);
  sections = grind (arith, nat_tests);
}

map-none : {A B : Type 0} (f : A → B) (o : Option A) → None ≡ option_map f o → o ≡ None
map-none f None e = refl
map-none f (Some x) e = cc

found-none : {X : Type 0} (p : X → Bool) (xs : List X) → position p xs ≡ None → length xs ≤ position_or_len p xs
found-none p xs e = grind (arith, nat_tests)

not_not : (b : Bool) → not b ≡ false → b ≡ true
not_not true e = refl
not_not false e = cc

-- where the rule is not broken, the test holds of each record
pub each_holds : {X : Type 0} (test : X → Bool) (rule : ElfRule) (at size : ℕ) (xs : List X) → None ≡ unless_each test rule at size xs → (k : ℕ) (d : X) → k < length xs → test (get_or xs k d) ≡ true
each_holds test rule at size xs e k d h =
    let past = found-none (λ x. not (test x)) xs (map-none _ _ e) in
    not_not _ (fails_before_first (λ x. not (test x)) xs k d (omega arith))

-- what is true where none of some rules is broken
pub none_first : (x : Option ElfFault) (xs : List (Option ElfFault)) → None ≡ first_of (x ∷ xs) → (None ≡ x) × (None ≡ first_of xs)
none_first None xs e = (refl, e)
none_first (Some x) xs e = cc

-- a segment that passes the test
fits : (size : ℕ) (s : Segment) → fits_file size s ≡ true → s.p_type ≡ PT_LOAD → IsInFile size s
fits size s e load = record {
  in_file = grind (arith, nat_tests);
  in_memory = grind (arith, nat_tests);
  in_space = grind (arith, nat_tests);
}

-- the segments of a file that breaks no rule about them
pub segments_fit : (size : ℕ) (h : Header) (segments : List Segment) → None ≡ first_of (segment_rules size h segments) → All (FitsFile size) segments
unfolding segment_rules
segments_fit size h segments e k d l load =
    fits size (get_or segments k d) (each_holds (fits_file size) Range h.e_phoff PHENTSIZE segments (none_first _ [] e).0 k d l) load

-- the symbols of a file that breaks no rule about them
pub symbols_named : (size : ℕ) (h : Header) (t : SymbolTable) (symbols : List Symbol) → AreSymbolsIn size t → None ≡ first_of (symbol_rules h t symbols) → All (IsNamed size) symbols
unfolding symbol_rules
symbols_named size h t symbols room e k d l =
    let ends : ends_in t.names (get_or symbols k d) ≡ true = each_holds (ends_in t.names) Strings t.at SYMENTSIZE symbols (none_first _ (unless_each (has_home h.e_shnum) Table t.at SYMENTSIZE symbols ∷ []) e).0 k d l in
    grind (arith, nat_tests, room.names)

-- a section with bytes lies in the file
lies : (size : ℕ) (s : Section) → lies_in_file size s ≡ true → 2 ≤ s.sh_type → s.sh_type ≤ 3 → s.sh_offset + s.sh_size ≤ size
lies size s e low high = grind (arith, nat_tests)

-- where there is no symbol table
no_table : (size : ℕ) (sections : List Section) → find is_symtab sections ≡ None → AreSymbolsIn size (symbol_table sections)
unfolding symbol_table
no_table size sections e = rw e (record { entries = omega arith; names = omega arith })

-- where there is one
one_table : (size : ℕ) (sections : List Section) (s : Section) (strings : Option Section) → find is_symtab sections ≡ Some s → slice_get sections s.sh_link ≡ strings → s.sh_offset + s.sh_size ≤ size → ((n : Section) → strings ≡ Some n → n.sh_offset + n.sh_size ≤ size) → AreSymbolsIn size (symbol_table sections)
unfolding symbol_table
one_table size sections s None e link room names = rw (e, link) (record { entries = omega arith; names = omega arith })
one_table size sections s (Some n) e link room names = rw (e, link) (record { entries = omega arith; names = names n refl })

-- the first and the last of three rules
outer_two : (a b c : Option ElfFault) (xs : List (Option ElfFault)) → xs ≡ a ∷ b ∷ c ∷ [] → None ≡ first_of xs → (None ≡ a) × (None ≡ c)
outer_two a b c xs e none =
    let front = none_first a (b ∷ c ∷ []) (none ∙ ap first_of e) in
    (front.0, (none_first c [] (none_first b (c ∷ []) front.1).1).0)

-- no section lies outside the file, and none is a wrong symbol table
pub sections_fit : (size : ℕ) (h : Header) (sections : List Section) → None ≡ first_of (section_rules size h sections) → (None ≡ unless_each (lies_in_file size) Range h.e_shoff SHENTSIZE sections) × (None ≡ unless_each (is_only_symtab sections) Table h.e_shoff SHENTSIZE (enumerate_from 0 sections))
unfolding section_rules
sections_fit size h sections e = outer_two _ _ _ (section_rules size h sections) refl e

last_holds : (a b c d e : Bool) → (not a || (b && (c && d && e))) ≡ true → a ≡ true → e ≡ true
last_holds false b c d e h is = cc
last_holds true false c d e h is = cc
last_holds true true false d e h is = cc
last_holds true true true false e h is = cc
last_holds true true true true e h is = h

-- the first symbol table has its names in a string table
only_strings : (sections : List Section) (i : ℕ) (s : Section) → is_only_symtab sections (i, s) ≡ true → is_symtab s ≡ true → is_strings sections s.sh_link ≡ true
only_strings sections i s only is = last_holds (is_symtab s) _ (s.sh_entsize == SYMENTSIZE) (s.sh_size % SYMENTSIZE == 0) _ only is

-- the first symbol table has its symbols in the file, and a string table that is there
first_symtab : (size : ℕ) (h : Header) (sections : List Section) (s : Section) → None ≡ first_of (section_rules size h sections) → find is_symtab sections ≡ Some s → (s.sh_offset + s.sh_size ≤ size) × (is_strings sections s.sh_link ≡ true)
first_symtab size h sections s e found =
    let at : ℕ = position_or_len is_symtab sections in
    let there : slice_get sections at ≡ Some s = sym (find_at is_symtab sections) ∙ found in
    let within : at < length sections = slice_get_within sections at s there in
    let this : get_or sections at s ≡ s = get_or_from_slice_get sections at s s there in
    let is : is_symtab s ≡ true = ap is_symtab (sym this) ∙ passes_at_first is_symtab sections s within in
    let parts = sections_fit size h sections e in
    let lies_there : lies_in_file size s ≡ true = ap (lies_in_file size) (sym this) ∙ each_holds (lies_in_file size) Range h.e_shoff SHENTSIZE sections parts.0 at s within in
    let pair : get_or (enumerate_from 0 sections) at (0, s) ≡ (0 + at, s) = get_or-enumerate_from 0 sections at (0, s) within ∙ ap (λ (x : Section). (0 + at, x)) this in
    let only : is_only_symtab sections (0 + at, s) ≡ true = ap (is_only_symtab sections) (sym pair) ∙ each_holds (is_only_symtab sections) Table h.e_shoff SHENTSIZE (enumerate_from 0 sections) parts.1 at (0, s) (omega (arith, length-enumerate_from 0 sections)) in
    let type : s.sh_type ≡ SHT_SYMTAB = grind (arith, nat_tests) in
    (lies size s lies_there (omega arith) (omega arith), only_strings sections (0 + at) s only is)

-- a string table lies in the file
strings_in : (size : ℕ) (h : Header) (sections : List Section) (i : ℕ) (n : Section) → None ≡ first_of (section_rules size h sections) → is_strings sections i ≡ true → slice_get sections i ≡ Some n → n.sh_offset + n.sh_size ≤ size
strings_in size h sections i n e strings found =
    let within : i < length sections = slice_get_within sections i n found in
    let this : get_or sections i n ≡ n = get_or_from_slice_get sections i n n found in
    let lies_there : lies_in_file size n ≡ true = ap (lies_in_file size) (sym this) ∙ each_holds (lies_in_file size) Range h.e_shoff SHENTSIZE sections (sections_fit size h sections e).0 i n within in
    let type : (n.sh_type == SHT_STRTAB) ≡ true = sym (ap (λ (o : Option Section). option_map_or (λ x. x.sh_type == SHT_STRTAB) o false) found) ∙ strings in
    let three : n.sh_type ≡ SHT_STRTAB = grind (arith, nat_tests) in
    lies size n lies_there (omega arith) (omega arith)

-- the symbols of a file that breaks no rule about sections lie in it, and so do their names
pub symbols_in : (size : ℕ) (h : Header) (sections : List Section) → None ≡ first_of (section_rules size h sections) → AreSymbolsIn size (symbol_table sections)
symbols_in size h sections e =
    elim (find is_symtab sections) as (λ o. find is_symtab sections ≡ o → AreSymbolsIn size (symbol_table sections)) [
      | None ↦ λ none. no_table size sections none
      | Some s ↦ λ found. one_table size sections s (slice_get sections s.sh_link) found refl (first_symtab size h sections s e found).0 (λ n is. strings_in size h sections s.sh_link n e (first_symtab size h sections s e found).1 is)
    ] refl

-- those of the tables
abbrev of_segments : List ℕ → Header → List (Option ElfFault)
of_segments bytes h = segment_rules (length bytes) h (segments_of bytes h)

abbrev of_sections : List ℕ → Header → List (Option ElfFault)
of_sections bytes h = section_rules (length bytes) h (sections_of bytes h)

abbrev of_symbols : List ℕ → Header → SymbolTable → List (Option ElfFault)
of_symbols bytes h t = symbol_rules h t (symbols_of bytes t)

abbrev of_relas : Kind → List ℕ → Header → SymbolTable → List (Option ElfFault)
of_relas kind bytes h t = rela_rules kind bytes h (sections_of bytes h) (length (symbols_of bytes t))

abbrev first_rules : Kind → List ℕ → Header → SymbolTable → List (Option ElfFault)
first_rules kind bytes h t = header_rules kind bytes ++ of_segments bytes h ++ of_sections bytes h ++ of_symbols bytes h t

-- A file is read in five parts, each with its own rules. The first fault is that of the first part that
-- has one.
first_parts : (a b c d : List (Option ElfFault)) (fault : ElfFault) → (first_of a ≡ Some fault) ⊎ ((first_of a ≡ None) × ((first_of b ≡ Some fault) ⊎ ((first_of b ≡ None) × (first_of c ≡ Some fault)))) → first_of (a ++ b ++ c ++ d) ≡ Some fault
first_parts a b c d fault (inl e) = first_of-some (a ++ b ++ c) d fault (first_of-some (a ++ b) c fault (first_of-some a b fault e))
first_parts a b c d fault (inr (p, inl e)) = first_of-some (a ++ b ++ c) d fault (first_of-some (a ++ b) c fault (first_of-none a b p ∙ e))
first_parts a b c d fault (inr (p, inr (q, e))) = first_of-some (a ++ b ++ c) d fault (first_of-none (a ++ b) c (first_of-none a b p ∙ q) ∙ e)

last_part : (a b c d : List (Option ElfFault)) → first_of a ≡ None → first_of b ≡ None → first_of c ≡ None → first_of (a ++ b ++ c ++ d) ≡ first_of d
last_part a b c d p q r = first_of-none (a ++ b ++ c) d (first_of-none (a ++ b) c (first_of-none a b p ∙ q) ∙ r)

-- by the header and the symbol table that were read
all_first : (kind : Kind) (bytes : List ℕ) (h : Header) (t : SymbolTable) → h ≡ header_of bytes → t ≡ symbol_table (sections_of bytes h) → first_fault kind bytes ≡ first_of (first_rules kind bytes h t ++ of_relas kind bytes h t)
unfolding first_fault
all_first kind bytes h t is table =
    ap (λ (x : Header). first_of (first_rules kind bytes x (symbol_table (sections_of bytes x)) ++ of_relas kind bytes x (symbol_table (sections_of bytes x)))) (sym is)
    ∙ ap (λ (x : SymbolTable). first_of (first_rules kind bytes h x ++ of_relas kind bytes h x)) (sym table)

-- a fault of the first four parts
in_first : (kind : Kind) (bytes : List ℕ) (h : Header) (t : SymbolTable) (fault : ElfFault) → h ≡ header_of bytes → t ≡ symbol_table (sections_of bytes h) → first_of (first_rules kind bytes h t) ≡ Some fault → first_fault kind bytes ≡ Some fault
in_first kind bytes h t fault is table e =
    all_first kind bytes h t is table ∙ first_of-some (first_rules kind bytes h t) (of_relas kind bytes h t) fault e

pub in_header : (kind : Kind) (bytes : List ℕ) (fault : ElfFault) → first_of (header_rules kind bytes) ≡ Some fault → first_fault kind bytes ≡ Some fault
in_header kind bytes fault e =
    let h = header_of bytes in
    let t = symbol_table (sections_of bytes h) in
    in_first kind bytes h t fault refl refl
    (first_parts (header_rules kind bytes) (of_segments bytes h) (of_sections bytes h) (of_symbols bytes h t) fault (inl e))

-- what was read so far breaks no rule
pub record IsSound (kind : Kind) (bytes : List ℕ) (h : Header) : Type 0 where
  pub unbroken : first_of (header_rules kind bytes) ≡ None
  pub is : h ≡ header_of bytes

pub in_segments : (kind : Kind) (bytes : List ℕ) (h : Header) (fault : ElfFault) → IsSound kind bytes h → first_of (of_segments bytes h) ≡ Some fault → first_fault kind bytes ≡ Some fault
in_segments kind bytes h fault sound e =
    let t = symbol_table (sections_of bytes h) in
    in_first kind bytes h t fault sound.is refl
    (first_parts (header_rules kind bytes) (of_segments bytes h) (of_sections bytes h) (of_symbols bytes h t) fault (inr (sound.unbroken, inl e)))

pub in_sections : (kind : Kind) (bytes : List ℕ) (h : Header) (fault : ElfFault) → IsSound kind bytes h → first_of (of_segments bytes h) ≡ None → first_of (of_sections bytes h) ≡ Some fault → first_fault kind bytes ≡ Some fault
in_sections kind bytes h fault sound p e =
    let t = symbol_table (sections_of bytes h) in
    in_first kind bytes h t fault sound.is refl
    (first_parts (header_rules kind bytes) (of_segments bytes h) (of_sections bytes h) (of_symbols bytes h t) fault (inr (sound.unbroken, inr (p, e))))

pub in_symbols : (kind : Kind) (bytes : List ℕ) (h : Header) (t : SymbolTable) (fault : ElfFault) → IsSound kind bytes h → t ≡ symbol_table (sections_of bytes h) → first_of (of_segments bytes h) ≡ None → first_of (of_sections bytes h) ≡ None → first_of (of_symbols bytes h t) ≡ Some fault → first_fault kind bytes ≡ Some fault
in_symbols kind bytes h t fault sound is p q e =
    in_first kind bytes h t fault sound.is is
    (last_part (header_rules kind bytes) (of_segments bytes h) (of_sections bytes h) (of_symbols bytes h t) sound.unbroken p q ∙ e)

pub in_relas : (kind : Kind) (bytes : List ℕ) (h : Header) (t : SymbolTable) (sections : List Section) (symbols : ℕ) → IsSound kind bytes h → t ≡ symbol_table (sections_of bytes h) → sections ≡ sections_of bytes h → symbols ≡ length (symbols_of bytes t) → first_of (of_segments bytes h) ≡ None → first_of (of_sections bytes h) ≡ None → first_of (of_symbols bytes h t) ≡ None → first_fault kind bytes ≡ first_of (rela_rules kind bytes h sections symbols)
in_relas kind bytes h t sections symbols sound is are count p q r =
    all_first kind bytes h t sound.is is
    ∙ first_of-none (first_rules kind bytes h t) (of_relas kind bytes h t)
    (last_part (header_rules kind bytes) (of_segments bytes h) (of_sections bytes h) (of_symbols bytes h t) sound.unbroken p q ∙ r)
    ∙ ap (λ (x : List Section). first_of (rela_rules kind bytes h x (length (symbols_of bytes t)))) (sym are)
    ∙ ap (λ (n : ℕ). first_of (rela_rules kind bytes h sections n)) (sym count)

-- what a part answers is what the whole answers
pub part_answers : {X Y : Type 0} (r : Result X ElfFault) (e : ElfFault) (rules : List (Option ElfFault)) (first : Option ElfFault) (P : Y → Type 0) → r ≡ Err e → Answers (Err e) rules P → ((fault : ElfFault) → first_of rules ≡ Some fault → first ≡ Some fault) → (r ≡ Err Memory) ⊎ (result_err r ≡ first)
part_answers r Memory rules first P is answers whole = inl is
part_answers r (Rule rule at) rules first P is answers whole = inr (ap result_err is ∙ sym (whole (Rule rule at) answers))

-- each program header lies in the file
pub headers_in : (bytes : List ℕ) (h : Header) (segments : List Segment) → h ≡ header_of bytes → IsLaidOut (length bytes) h → segments ≡ segments_of bytes h → (i : ℕ) → i < length segments → segment_place bytes i + PHENTSIZE ≤ length bytes
headers_in bytes h segments is room are i l =
    let at : h.e_phoff ≡ (header_of bytes).e_phoff = ap (λ (x : Header). x.e_phoff) is in
    let count : length segments ≡ h.e_phnum = ap length are ∙ length-map-range_with_len (λ i. segment_at bytes (h.e_phoff + PHENTSIZE * i)) 0 h.e_phnum in
    let room : h.e_phoff + PHENTSIZE * h.e_phnum ≤ length bytes = room.segments (omega arith) in
    omega arith

-- how many symbols there are
pub symbols_count : (bytes : List ℕ) (t : SymbolTable) (symbols : List Symbol) → symbols ≡ symbols_of bytes t → length symbols ≡ t.count
symbols_count bytes t symbols are = ap length are ∙ length-map-range_with_len (λ i. symbol_at bytes t.names (t.at + SYMENTSIZE * i)) 0 t.count

-- how many sections there are
pub sections_count : (bytes : List ℕ) (h : Header) (sections : List Section) → sections ≡ sections_of bytes h → length sections ≡ h.e_shnum
sections_count bytes h sections are = ap length are ∙ length-map-range_with_len (λ i. section_at bytes (h.e_shoff + SHENTSIZE * i)) 0 h.e_shnum
