-- What is read of a module's file is the module.
use Rattle.std.proofs.Common.{◌≡◌, ◌≢◌, ◌<◌, ◌+◌, ◌*◌, ◌/◌, ◌^◌, ◌++◌, ℕ, suc, List, [], ◌∷◌, Some, length, refl, sym, ap, subst, ◌∙◌, arith}
use Rattle.std.proofs.lemmas.Bool.Decides.{nat_tests}
use Rattle.std.proofs.lemmas.List.Elements.{recursion_from_All}
use Rattle.std.specs.Prelude.{slice_get}
use Rattle.std.specs.List.{flat_map, AllByRecursion}
use Rattle.elf_read.specs.declared.records.Section.{Section}
use Rattle.elf_read.specs.declared.records.Segment.{Segment}
use Rattle.elf_read.specs.declared.symbols.SymbolTable.{SymbolTable}
use Rattle.elf_read.specs.declared.constants.TheConstants.{EHSIZE, PHENTSIZE, SHENTSIZE, SHT_STRTAB, SYMENTSIZE}
use Rattle.elf_read.specs.Records.{header_of, part, section_at, sections_of, segment_at, segments_of, symbol_at, symbol_table as table_in, symbols_of, table}
use Rattle.elf_write.specs.declared.layout.Plan.{Plan}
use Rattle.elf_write.specs.declared.module.ModSymbol.{ModSymbol}
use Rattle.elf_write.specs.Modules.{ModuleValue}
use Rattle.elf_write.specs.Names.{name_places, table_count}
use Rattle.elf_write.specs.Parts.{locals, name_bytes, rela_bytes, relas_for, strings, symbol_table, symbols_from, AreBySection, AreLinked, IsSymbol}
use Rattle.elf_write.specs.Records.{contents, section_bytes, segment_bytes, table_sections}
use Rattle.elf_write.specs.Written.{if_segments, sections_in, segments_in, FitsForm}
use Rattle.elf_laws.specs.Laws.{header_with, symbols_with, IsSized, IsSizedSymbol}
use Rattle.elf_laws.proofs.FileLemmas.{count_sections, AreSizesOf, StandsWhole}
use Rattle.elf_laws.proofs.HeaderLemmas.{has_front, header_is, HasFront}
use Rattle.elf_laws.proofs.PlanLemmas.{few_segments, few_tables, length-segments_in, sections_sized, segments_sized, IsPlanned}
use Rattle.elf_laws.proofs.RecordLemmas.{from_start, sections_are, segments_are, table_is, IsSizedSection, IsSizedSegment}
use Rattle.elf_laws.proofs.RelaLemmas.{in_three, plain_for, relas_read}
use Rattle.elf_laws.proofs.SectionLemmas.{at_table, symtab_found, AreRelasRead}
use Rattle.elf_laws.proofs.StandLemmas.{part_is, Stands}
use Rattle.elf_laws.proofs.SymbolLemmas.{null, null_bytes, symbols_are, IsPlain}

-- what a file has that a module is written to
pub record IsFileOf (p : Plan) (m : ModuleValue) (file : List ℕ) : Type 0 where
  pub sizes : AreSizesOf p m
  pub planned : IsPlanned p
  pub whole : StandsWhole p m file
  pub sized : IsSized m
  pub plain : AllByRecursion IsPlain m.symbols
  pub few : length (locals m.symbols) < 2 ^ 31
  pub by_section : AreBySection m.relas
  pub linked : AreLinked (length m.symbols) m.relas
  pub form : FitsForm m.form m

-- a field of the header of a file with segments
if_there : (n number : ℕ) → if_segments (suc n) number ≡ number
if_there n number = grind (arith, nat_tests)

segments_read : (segments : List Segment) (file : List ℕ) → AllByRecursion IsSizedSegment segments → Stands EHSIZE (flat_map segment_bytes segments) file
    → table (segment_at file) (if_segments (length segments) EHSIZE) PHENTSIZE (length segments) ≡ segments
segments_read [] file sized stands = refl
segments_read (s ∷ ss) file sized stands =
    ap (λ (at : ℕ). table (segment_at file) at PHENTSIZE (length (s ∷ ss))) (if_there (length ss) EHSIZE)
    ∙ table_is (λ i. segment_at file (EHSIZE + PHENTSIZE * i)) 0 (s ∷ ss) (segments_are EHSIZE 0 (s ∷ ss) file sized stands)

sections_read : (at n : ℕ) (sections : List Section) (file : List ℕ) → length sections ≡ n → AllByRecursion IsSizedSection sections → Stands at (flat_map section_bytes sections) file
    → table (section_at file) at SHENTSIZE n ≡ sections
sections_read at n sections file count sized stands =
    ap (λ (k : ℕ). table (section_at file) at SHENTSIZE k) (sym count)
    ∙ table_is (λ i. section_at file (at + SHENTSIZE * i)) 0 sections (sections_are at 0 sections file sized (from_start at (flat_map section_bytes sections) file stands))

pub is_front : (p : Plan) (m : ModuleValue) (file : List ℕ) → IsFileOf p m file → HasFront p m.entry (segments_in p) file
is_front p m file f =
    let order = f.planned.order in
    has_front p m.entry (segments_in p) file f.sized.entry (omega (arith, length-segments_in p, few_segments p)) (few_tables p.sizes) (omega (arith, order.headers, f.planned.short)) f.whole.front

pub header_read : (p : Plan) (m : ModuleValue) (file : List ℕ) → IsFileOf p m file → header_of file ≡ header_with p.form m.entry (length (segments_in p)) (table_count p.sizes) p.layout.headers
header_read p m file f = header_is p m.entry (segments_in p) file (is_front p m file f)

pub all_segments : (p : Plan) (m : ModuleValue) (file : List ℕ) → IsFileOf p m file → segments_of file (header_of file) ≡ segments_in p
all_segments p m file f =
    ap (segments_of file) (header_read p m file f)
    ∙ segments_read (segments_in p) file (segments_sized p f.planned) (is_front p m file f).rest

pub all_sections : (p : Plan) (m : ModuleValue) (file : List ℕ) → IsFileOf p m file → sections_of file (header_of file) ≡ sections_in p (length (locals m.symbols))
all_sections p m file f =
    let n = length (locals m.symbols) in
    ap (sections_of file) (header_read p m file f)
    ∙ sections_read p.layout.headers (8 + table_count p.sizes) (sections_in p n) file (count_sections p n) (sections_sized p n f.planned f.few) f.whole.headers

-- the symbol table of a module's file
abbrev pub table_of : Plan → SymbolTable
table_of p = record {
  at = p.layout.symtab;
  count = p.sizes.symbols + 1;
  names = record { at = p.layout.strtab; len = p.sizes.strings };
}

-- the section of its names
abbrev strtab_in : Plan → Section
strtab_in p = contents ((name_places p.sizes).symtab + 8) SHT_STRTAB 0 0 p.layout.strtab p.sizes.strings

pub table_read : (p : Plan) (n : ℕ) → table_in (sections_in p n) ≡ table_of p
unfolding table_sections table_in
table_read p n =
    let found = symtab_found p n in
    let linked : slice_get (sections_in p n) (6 + table_count p.sizes) ≡ Some (strtab_in p) = (let place : 6 + table_count p.sizes ≡ 5 + table_count p.sizes + 1 = omega arith in ap (slice_get (sections_in p n)) place ∙ at_table p n 1) in
    let count : 24 * (p.sizes.symbols + 1) / 24 ≡ p.sizes.symbols + 1 = omega arith in
    rw (found, linked) refl
    ∙ ap (λ (k : ℕ). record { at = p.layout.symtab; count = k; names = record { at = p.layout.strtab; len = p.sizes.strings } }) count

pub length-symbols_with : (name : ℕ) (symbols : List ModSymbol) → length (symbols_with name symbols) ≡ length symbols
length-symbols_with name [] = refl
length-symbols_with name (s ∷ ss) = omega (arith, length-symbols_with (name + length (name_bytes s)) ss)

-- the names stand in the file
strings_read : (p : Plan) (m : ModuleValue) (file : List ℕ) → IsFileOf p m file → part file (table_of p).names ≡ strings m.symbols
strings_read p m file f = part_is p.layout.strtab p.sizes.strings (strings m.symbols) file (sym f.sizes.strings) f.whole.strtab

pub null_plain : IsPlain null
null_plain = record { home = omega arith; numbers = (omega arith, (omega arith, tt)); named = tt }

pub symbols_read : (p : Plan) (m : ModuleValue) (file : List ℕ) → IsFileOf p m file → symbols_of file (table_of p) ≡ symbols_with p.layout.strtab (null ∷ m.symbols)
symbols_read p m file f =
    let all = null ∷ m.symbols in
    let at = p.layout.symtab in
    let names = (table_of p).names in
    let order = f.planned.order in
    let are = strings_read p m file f in
    let short : length (part file names) < 2 ^ 32 = omega (arith, ap length are, f.sizes.strings, order.strtab, order.shstrtab, order.headers, f.planned.short) in
    let bytes : symbol_table m.symbols ≡ symbols_from 0 all = ap (λ (x : List ℕ). x ++ symbols_from 1 m.symbols) (sym null_bytes) in
    let stands = subst (λ (x : List ℕ). Stands (at + 0) x file) bytes (from_start at (symbol_table m.symbols) file f.whole.symtab) in
    let read = symbols_are at 0 0 names [] all file (null_plain, f.plain) are refl short stands in
    let count : p.sizes.symbols + 1 ≡ length (symbols_with (p.layout.strtab + 0) all) = omega (arith, f.sizes.symbols, length-symbols_with (p.layout.strtab + 0) all) in
    let place : p.layout.strtab + 0 ≡ p.layout.strtab = omega arith in
    ap (λ (k : ℕ). table (symbol_at file names) at SYMENTSIZE k) count
    ∙ table_is (λ i. symbol_at file names (at + SYMENTSIZE * i)) 0 (symbols_with (p.layout.strtab + 0) all) read
    ∙ ap (λ (k : ℕ). symbols_with k all) place

pub all_symbols : (p : Plan) (m : ModuleValue) (file : List ℕ) → IsFileOf p m file → symbols_of file (table_in (sections_of file (header_of file))) ≡ symbols_with p.layout.strtab (null ∷ m.symbols)
all_symbols p m file f =
    ap (λ (x : List Section). symbols_of file (table_in x)) (all_sections p m file f)
    ∙ ap (symbols_of file) (table_read p (length (locals m.symbols)))
    ∙ symbols_read p m file f

pub all_plain : (symbols : List ModSymbol) → AllByRecursion IsSymbol symbols → AllByRecursion IsSizedSymbol symbols → AllByRecursion IsPlain symbols
all_plain [] w s = tt
all_plain (x ∷ xs) w s =
    (record { home = omega (arith, w.0.home); numbers = (s.0.value, (s.0.size, tt)); named = recursion_from_All (λ b. b ≢ 0) x.name w.0.named }, all_plain xs w.1 s.1)

-- the relocations of a module's file
pub all_relas : (p : Plan) (m : ModuleValue) (file : List ℕ) → IsFileOf p m file → AreRelasRead p m.relas file
all_relas p m file f =
    let at = p.layout.relas in
    let n = length m.symbols in
    let order = f.planned.order in
    let few : n < 2 ^ 32 = omega (arith, f.sizes.symbols, order.symtab, order.strtab, order.shstrtab, order.headers, f.planned.short) in
    let three = in_three at m.relas file f.by_section f.whole.relas in
    let place : at + 24 * length (relas_for 1 m.relas) ≡ at + 24 * p.sizes.text_relas = omega (arith, f.sizes.text_relas) in
    let last : at + 24 * length (relas_for 1 m.relas) + 24 * length (relas_for 2 m.relas) ≡ at + 24 * p.sizes.text_relas + 24 * p.sizes.rodata_relas = omega (arith, f.sizes.text_relas, f.sizes.rodata_relas) in
    record {
      text_count = f.sizes.text_relas;
      rodata_count = f.sizes.rodata_relas;
      rwdata_count = f.sizes.rwdata_relas;
      text = relas_read at p.sizes.text_relas n (relas_for 1 m.relas) file f.sizes.text_relas few (plain_for 1 n m.relas f.linked f.sized.relas) three.text;
      rodata = relas_read (at + 24 * p.sizes.text_relas) p.sizes.rodata_relas n (relas_for 2 m.relas) file f.sizes.rodata_relas few (plain_for 2 n m.relas f.linked f.sized.relas) (subst (λ (k : ℕ). Stands k (flat_map rela_bytes (relas_for 2 m.relas)) file) place three.rodata);
      rwdata = relas_read (at + 24 * p.sizes.text_relas + 24 * p.sizes.rodata_relas) p.sizes.rwdata_relas n (relas_for 3 m.relas) file f.sizes.rwdata_relas few (plain_for 3 n m.relas f.linked f.sized.relas) (subst (λ (k : ℕ). Stands k (flat_map rela_bytes (relas_for 3 m.relas)) file) last three.rwdata);
    }
