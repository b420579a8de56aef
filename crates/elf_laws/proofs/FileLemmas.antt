-- What stands where in the file that holds a module.
use Rattle.std.proofs.Common.{◌≡◌, ◌≤◌, ◌+◌, ◌*◌, ◌++◌, ℕ, List, [], ◌∷◌, length, refl, sym, ap, subst, ◌∙◌, arith}
use Rattle.std.proofs.lemmas.List.{append-nil, drop_all, length-append}
use Rattle.std.specs.Prelude.{replicate}
use Rattle.std.specs.List.{flat_map}
use Rattle.elf_read.specs.declared.records.Section.{Section}
use Rattle.elf_read.specs.declared.constants.TheConstants.{SHENTSIZE}
use Rattle.elf_write.specs.declared.layout.Plan.{Plan}
use Rattle.elf_write.specs.declared.module.ModSymbol.{ModSymbol}
use Rattle.elf_write.specs.Layout.{plan_of, rela_count, sizes_with}
use Rattle.elf_write.specs.Modules.{ModuleValue}
use Rattle.elf_write.specs.Names.{section_names, table_count}
use Rattle.elf_write.specs.Parts.{locals, rela_bytes, relas_for, strings, symbol_bytes, symbol_table, symbols_from, AreBySection}
use Rattle.elf_write.specs.Places.{if_any, placed}
use Rattle.elf_write.specs.Records.{program_sections, rela_sections, section_bytes, table_sections}
use Rattle.elf_write.specs.Written.{front_bytes, sections_in, segments_in, written, written_by, IsWritable}
use Rattle.elf_laws.proofs.HeaderLemmas.{length-front_bytes}
use Rattle.elf_laws.proofs.PlanLemmas.{length-any, length-segments_in, planned, rodata_table, rwdata_table, text_table, IsPlanned}
use Rattle.elf_laws.proofs.RecordLemmas.{length-section}
use Rattle.elf_laws.proofs.RelaLemmas.{count_relas, length-relas}
use Rattle.elf_laws.proofs.StandLemmas.{length-placed, stands_placed, stands_still, Stands}
use Rattle.elf_laws.proofs.SymbolLemmas.{length-symbol}

-- bytes and their place
pub record Piece : Type 0 where
  pub at : ℕ
  pub bytes : List ℕ

-- a file to which pieces are added
abbrev all_placed : List Piece → List ℕ → List ℕ
all_placed [] file = file
all_placed (p ∷ ps) file = all_placed ps (placed p.at p.bytes file)

-- the pieces follow one another, behind so many bytes
abbrev Follow : List Piece → ℕ → Type 0
Follow [] end = Unit {0}
Follow (p ∷ ps) end = (end ≤ p.at) × Follow ps (p.at + length p.bytes)

-- the end of the last of them
abbrev end_behind : List Piece → ℕ → ℕ
end_behind [] end = end
end_behind (p ∷ ps) end = end_behind ps (p.at + length p.bytes)

-- each stands at its place
abbrev AllStand : List Piece → List ℕ → Type 0
AllStand [] file = Unit {0}
AllStand (p ∷ ps) file = Stands p.at p.bytes file × AllStand ps file

all_still : (ps : List Piece) (at : ℕ) (bytes file : List ℕ) → Stands at bytes file → Stands at bytes (all_placed ps file)
all_still [] at bytes file s = s
all_still (p ∷ ps) at bytes file s = all_still ps at bytes (placed p.at p.bytes file) (stands_still at p.at bytes p.bytes file s)

all_stand : (ps : List Piece) (end : ℕ) (file : List ℕ) → length file ≡ end → Follow ps end → AllStand ps (all_placed ps file)
all_stand [] end file e f = tt
all_stand (p ∷ ps) end file e f =
    let fits : length file ≤ p.at = omega (arith, e, f.0) in
    (all_still ps p.at p.bytes (placed p.at p.bytes file) (stands_placed p.at p.bytes file fits), all_stand ps (p.at + length p.bytes) (placed p.at p.bytes file) (length-placed p.at p.bytes file fits) f.1)

length-all : (ps : List Piece) (end : ℕ) (file : List ℕ) → length file ≡ end → Follow ps end → length (all_placed ps file) ≡ end_behind ps end
length-all [] end file e f = e
length-all (p ∷ ps) end file e f =
    let fits : length file ≤ p.at = omega (arith, e, f.0) in
    length-all ps (p.at + length p.bytes) (placed p.at p.bytes file) (length-placed p.at p.bytes file fits) f.1

-- the headers of the sections of a module's file
abbrev pub header_bytes : Plan → ModuleValue → List ℕ
header_bytes p m = flat_map section_bytes (sections_in p (length (locals m.symbols)))

-- the pieces of a module's file behind the headers of segments
abbrev pieces : Plan → ModuleValue → List Piece
pieces p m =
    let l = p.layout in
    record { at = l.text; bytes = m.text }
    ∷ record { at = l.rodata; bytes = m.rodata }
    ∷ record { at = l.rwdata; bytes = m.rwdata }
    ∷ record { at = l.relas; bytes = flat_map rela_bytes m.relas }
    ∷ record { at = l.symtab; bytes = symbol_table m.symbols }
    ∷ record { at = l.strtab; bytes = strings m.symbols }
    ∷ record { at = l.shstrtab; bytes = section_names p.sizes }
    ∷ record { at = l.headers; bytes = header_bytes p m }
    ∷ []

abbrev front_in : Plan → ModuleValue → List ℕ
front_in p m = front_bytes p m.entry (segments_in p)

written_is : (p : Plan) (m : ModuleValue) → written_by p m ≡ all_placed (pieces p m) (front_in p m)
unfolding written_by
written_is p m = refl

length-symbols_from : (name : ℕ) (symbols : List ModSymbol) → length (symbols_from name symbols) ≡ 24 * length symbols
length-symbols_from name [] = refl
length-symbols_from name (s ∷ ss) =
    let next = name + length (s.name ++ 0 ∷ []) in
    omega (arith, length-append (symbol_bytes name s) (symbols_from next ss), length-symbol name s, length-symbols_from next ss)

length-symbol_table : (symbols : List ModSymbol) → length (symbol_table symbols) ≡ 24 * (length symbols + 1)
length-symbol_table symbols = omega (arith, length-append (replicate 24 0) (symbols_from 1 symbols), length-symbols_from 1 symbols)

length-sections : (sections : List Section) → length (flat_map section_bytes sections) ≡ SHENTSIZE * length sections
length-sections [] = refl
length-sections (s ∷ ss) = omega (arith, length-append (section_bytes s) (flat_map section_bytes ss), length-section s, length-sections ss)

pub count_tables : (p : Plan) → length (rela_sections p.sizes p.layout) ≡ table_count p.sizes
unfolding rela_sections
count_tables p =
    let s = p.sizes in
    let l = p.layout in
    let text = if_any s.text_relas (text_table s l) in
    let rodata = if_any s.rodata_relas (rodata_table s l) in
    let rwdata = if_any s.rwdata_relas (rwdata_table s l) in
    omega (arith, length-append (text ++ rodata) rwdata, length-append text rodata, length-any s.text_relas (text_table s l), length-any s.rodata_relas (rodata_table s l), length-any s.rwdata_relas (rwdata_table s l))

pub count_sections : (p : Plan) (locals : ℕ) → length (sections_in p locals) ≡ 8 + table_count p.sizes
unfolding program_sections table_sections
count_sections p locals =
    let program = program_sections p.sizes p.layout p.bases in
    let relas = rela_sections p.sizes p.layout in
    omega (arith, length-append (program ++ relas) (table_sections p.sizes p.layout locals), length-append program relas, count_tables p)

-- the sizes in a plan are those of a module's parts
pub record AreSizesOf (p : Plan) (m : ModuleValue) : Type 0 where
  pub text : p.sizes.text ≡ length m.text
  pub rodata : p.sizes.rodata ≡ length m.rodata
  pub rwdata : p.sizes.rwdata ≡ length m.rwdata
  pub bss : p.sizes.bss ≡ m.bss
  pub symbols : p.sizes.symbols ≡ length m.symbols
  pub strings : p.sizes.strings ≡ length (strings m.symbols)
  pub text_relas : p.sizes.text_relas ≡ length (relas_for 1 m.relas)
  pub rodata_relas : p.sizes.rodata_relas ≡ length (relas_for 2 m.relas)
  pub rwdata_relas : p.sizes.rwdata_relas ≡ length (relas_for 3 m.relas)
  pub form : p.form ≡ m.form

pub sizes_are : (m : ModuleValue) → AreSizesOf (plan_of m) m
unfolding sizes_with
sizes_are m = record { text = refl; rodata = refl; rwdata = refl; bss = refl; symbols = refl; strings = refl; text_relas = refl; rodata_relas = refl; rwdata_relas = refl; form = refl }

follow : (p : Plan) (m : ModuleValue) → AreBySection m.relas → AreSizesOf p m → IsPlanned p → Follow (pieces p m) (length (front_in p m))
follow p m by_section sizes plan =
    let order = plan.order in
    let front = length-front_bytes p m.entry (segments_in p) in
    let count = length-segments_in p in
    let table = length-symbol_table m.symbols in
    let relas : length (flat_map rela_bytes m.relas) ≡ 24 * rela_count p.sizes = omega (arith, length-relas m.relas, count_relas m.relas by_section, sizes.text_relas, sizes.rodata_relas, sizes.rwdata_relas) in
    let fits : length (front_in p m) ≤ p.layout.text = omega (arith, front, count, plan.front) in
    (fits, (omega (arith, sizes.text, order.text), (omega (arith, sizes.rodata, order.rodata), (omega (arith, sizes.rwdata, order.rwdata), (omega (arith, relas, order.relas), (omega (arith, table, sizes.symbols, order.symtab), (omega (arith, sizes.strings, order.strtab), (order.shstrtab, tt))))))))

-- what stands in a module's file, and its length
pub record StandsWhole (p : Plan) (m : ModuleValue) (file : List ℕ) : Type 0 where
  pub front : Stands 0 (front_in p m) file
  pub text : Stands p.layout.text m.text file
  pub rodata : Stands p.layout.rodata m.rodata file
  pub rwdata : Stands p.layout.rwdata m.rwdata file
  pub relas : Stands p.layout.relas (flat_map rela_bytes m.relas) file
  pub symtab : Stands p.layout.symtab (symbol_table m.symbols) file
  pub strtab : Stands p.layout.strtab (strings m.symbols) file
  pub shstrtab : Stands p.layout.shstrtab (section_names p.sizes) file
  pub headers : Stands p.layout.headers (header_bytes p m) file
  pub size : length file ≡ p.layout.headers + 64 * (8 + table_count p.sizes)

at_front : (bytes : List ℕ) → Stands 0 bytes bytes
at_front bytes = record { room = omega arith; here = sym (append-nil bytes) ∙ ap (λ (x : List ℕ). bytes ++ x) (sym (drop_all (0 + length bytes) bytes (omega arith))) }

stands_by : (p : Plan) (m : ModuleValue) → AreBySection m.relas → AreSizesOf p m → IsPlanned p → StandsWhole p m (all_placed (pieces p m) (front_in p m))
stands_by p m by_section sizes plan =
    let f = follow p m by_section sizes plan in
    let s = all_stand (pieces p m) (length (front_in p m)) (front_in p m) refl f in
    record {
      front = all_still (pieces p m) 0 (front_in p m) (front_in p m) (at_front (front_in p m));
      text = s.0;
      rodata = s.1.0;
      rwdata = s.1.1.0;
      relas = s.1.1.1.0;
      symtab = s.1.1.1.1.0;
      strtab = s.1.1.1.1.1.0;
      shstrtab = s.1.1.1.1.1.1.0;
      headers = s.1.1.1.1.1.1.1.0;
      size = length-all (pieces p m) (length (front_in p m)) (front_in p m) refl f ∙ ap (λ (n : ℕ). p.layout.headers + n) (length-sections (sections_in p (length (locals m.symbols))) ∙ ap (λ (n : ℕ). SHENTSIZE * n) (count_sections p (length (locals m.symbols))));
    }

pub stands_whole : (m : ModuleValue) → IsWritable m → StandsWhole (plan_of m) m (written m)
stands_whole m w = subst (StandsWhole (plan_of m) m) (sym (written_is (plan_of m) m)) (stands_by (plan_of m) m w.by_section (sizes_are m) (planned m w))
