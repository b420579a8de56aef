-- The plan of a module that is writable: its parts stand in order, and its numbers have their sizes.
use Rattle.std.proofs.Common.{◌≡◌, ◌<◌, ◌≤◌, ◌+◌, ◌*◌, ◌^◌, ◌++◌, ◌==◌, ℕ, List, [], ◌∷◌, Bool, true, false, length, if◌then◌else◌, refl, arith}
use Rattle.std.specs.Prelude.{codes}
use Rattle.std.proofs.lemmas.Bool.Decides.{nat_tests}
use Rattle.std.proofs.lemmas.List.{length-append}
use Rattle.std.specs.List.{AllByRecursion}
use Rattle.elf_read.specs.declared.records.Section.{Section}
use Rattle.elf_read.specs.declared.records.Segment.{Segment}
use Rattle.elf_read.specs.declared.constants.TheConstants.{EHSIZE, PHENTSIZE, PF_R, PF_W, PF_X, SHT_NOBITS, SHT_PROGBITS, SHT_STRTAB}
use Rattle.elf_write.specs.declared.constants.TheConstants.{SHF_ALLOC, SHF_EXECINSTR, SHF_WRITE}
use Rattle.elf_write.specs.declared.layout.Bases.{Bases}
use Rattle.elf_write.specs.declared.layout.Layout.{Layout}
use Rattle.elf_write.specs.declared.layout.Plan.{Plan}
use Rattle.elf_write.specs.declared.layout.Sizes.{Sizes}
use Rattle.elf_write.specs.declared.module.Form.{Form}
use Rattle.elf_write.specs.declared.module.Form.TheVariants.{Exec, Object}
use Rattle.elf_write.specs.Layout.{bases_in, bases_of, content_at, layout_of, plan_of, present, segment_count, sizes_with, IsInOrder}
use Rattle.elf_write.specs.Modules.{ModuleValue}
use Rattle.elf_write.specs.Names.{name_if, name_places, section_names, table_count}
use Rattle.elf_write.specs.Places.{if_any}
use Rattle.elf_write.specs.Records.{contents, data_memory, data_place, load, null_section, program_sections, rela_section, rela_sections, segments_of, symtab_section, table_sections}
use Rattle.elf_write.specs.Written.{sections_in, segments_in, IsWritable}
use Rattle.elf_laws.proofs.RecordLemmas.{IsSizedSection, IsSizedSegment}

-- contents stand behind a place
content_fits : (form : Form) (place bytes : ℕ) → place ≤ content_at form place bytes
content_fits Exec place bytes = grind (arith, nat_tests)
content_fits Object place bytes = omega arith

-- the parts of a file stand in order
in_order : (form : Form) (s : Sizes) → IsInOrder s (layout_of form s)
unfolding layout_of
in_order form s = record {
  text = content_fits form ((layout_of form s).text + s.text) s.rodata;
  rodata = content_fits form ((layout_of form s).rodata + s.rodata) s.rwdata;
  rwdata = omega arith;
  relas = omega arith;
  symtab = omega arith;
  strtab = omega arith;
  shstrtab = omega arith;
  headers = omega arith;
}

-- behind the header and the headers of segments
front_fits : (form : Form) (s : Sizes) → EHSIZE + PHENTSIZE * segment_count form s ≤ (layout_of form s).text
unfolding layout_of
front_fits form s = content_fits form (EHSIZE + PHENTSIZE * segment_count form s) s.text

-- the addresses of the sections rise, and are low
record AreLow (text rodata rwdata : ℕ) (b : Bases) : Type 0 where
  text_at : b.text + text ≤ b.rodata
  rodata_at : b.rodata + rodata ≤ b.rwdata
  rwdata_at : b.rwdata + rwdata ≤ b.bss
  bss_at : b.bss < 0x13008 + text + rodata + rwdata

are_low : (text rodata rwdata : ℕ) → AreLow text rodata rwdata (bases_of text rodata rwdata)
unfolding bases_of
are_low text rodata rwdata = record {
  text_at = omega arith;
  rodata_at = omega arith;
  rwdata_at = omega arith;
  bss_at = omega arith;
}

-- so are those of a module
record AreRising (form : Form) (text rodata rwdata : ℕ) (b : Bases) : Type 0 where
  text_at : b.text ≤ b.rodata
  rodata_at : b.rodata ≤ b.rwdata
  rwdata_at : form ≡ Exec → b.rwdata + rwdata ≤ b.bss
  near : b.rwdata ≤ b.bss
  bss_at : b.bss < 0x13008 + text + rodata + rwdata

are_rising : (form : Form) (text rodata rwdata : ℕ) → AreRising form text rodata rwdata (bases_in form text rodata rwdata)
are_rising Exec text rodata rwdata =
    let low = are_low text rodata rwdata in
    record {
      text_at = omega (arith, low.text_at);
      rodata_at = omega (arith, low.rodata_at);
      rwdata_at = λ e. low.rwdata_at;
      near = omega (arith, low.rwdata_at);
      bss_at = low.bss_at;
    }
are_rising Object text rodata rwdata = record {
  text_at = omega arith;
  rodata_at = omega arith;
  rwdata_at = λ e. cc;
  near = omega arith;
  bss_at = omega arith;
}

-- what the plan of a module keeps that is writable
pub record IsPlanned (p : Plan) : Type 0 where
  pub order : IsInOrder p.sizes p.layout
  pub front : EHSIZE + PHENTSIZE * segment_count p.form p.sizes ≤ p.layout.text
  pub short : p.layout.end < 2 ^ 32
  pub bss : p.sizes.bss ≤ 2 ^ 32
  pub text : p.bases.text ≤ p.bases.rodata
  pub rodata : p.bases.rodata ≤ p.bases.rwdata
  pub rwdata : p.form ≡ Exec → p.bases.rwdata + p.sizes.rwdata ≤ p.bases.bss
  pub near : p.bases.rwdata ≤ p.bases.bss
  pub low : p.bases.bss < 2 ^ 35

pub planned : (m : ModuleValue) → IsWritable m → IsPlanned (plan_of m)
unfolding sizes_with
planned m w =
    let order = in_order m.form (plan_of m).sizes in
    let rising = are_rising m.form (length m.text) (length m.rodata) (length m.rwdata) in
    record {
      order = order;
      front = front_fits m.form (plan_of m).sizes;
      short = w.length;
      bss = w.bss;
      text = rising.text_at;
      rodata = rising.rodata_at;
      rwdata = rising.rwdata_at;
      near = rising.near;
      low = omega (arith, rising.bss_at, w.length, order.text, order.rodata, order.rwdata, order.relas, order.symtab, order.strtab, order.shstrtab, order.headers);
    }

-- what holds of what is there
pub any_holds : {X : Type 0} (P : X → Type 0) (bytes : ℕ) (s : X) → P s → AllByRecursion P (if_any bytes s)
any_holds {X} P bytes s h = by_test (bytes == 0)
  where
    by_test : (b : Bool) → AllByRecursion P (if b then [] else (s ∷ []))
    by_test true = tt
    by_test false = (h, tt)

pub length-any : {X : Type 0} (bytes : ℕ) (s : X) → length (if_any bytes s) ≡ present bytes
length-any {X} bytes s = by_test (bytes == 0)
  where
    by_test : (b : Bool) → length (if b then [] else (s ∷ [])) ≡ (if b then 0 else 1)
    by_test true = refl
    by_test false = refl

-- what holds of each of two lists
pub both_hold : {X : Type 0} (P : X → Type 0) (xs ys : List X) → AllByRecursion P xs → AllByRecursion P ys → AllByRecursion P (xs ++ ys)
both_hold P [] ys h k = k
both_hold P (x ∷ xs) ys h k = (h.0, both_hold P xs ys h.1 k)

-- the sections of relocations, one by one
abbrev pub text_table : Sizes → Layout → Section
text_table s l = rela_section (table_count s) 26 l.relas s.text_relas 1

abbrev pub rodata_table : Sizes → Layout → Section
rodata_table s l = rela_section (table_count s) (name_places s).rodata (l.relas + 24 * s.text_relas) s.rodata_relas 2

abbrev pub rwdata_table : Sizes → Layout → Section
rwdata_table s l = rela_section (table_count s) (name_places s).rwdata (l.relas + 24 * s.text_relas + 24 * s.rodata_relas) s.rwdata_relas 3

-- the segments, one by one
abbrev pub text_segment : Plan → Segment
text_segment p = load (PF_R + PF_X) p.layout.text p.bases.text p.sizes.text p.sizes.text

abbrev pub rodata_segment : Plan → Segment
rodata_segment p = load PF_R p.layout.rodata p.bases.rodata p.sizes.rodata p.sizes.rodata

abbrev pub rwdata_segment : Plan → Segment
rwdata_segment p = load (PF_R + PF_W) (data_place p.sizes p.layout) p.bases.rwdata p.sizes.rwdata (data_memory p.sizes p.bases)

-- the segments of an executable file
abbrev exec_segments : Plan → List Segment
exec_segments p =
    if_any p.sizes.text (text_segment p) ++ if_any p.sizes.rodata (rodata_segment p) ++ if_any (p.sizes.rwdata + p.sizes.bss) (rwdata_segment p)

-- what holds of the segments, by the form of a plan
by_form : (P : List Segment → Type 0) (p : Plan) → (p.form ≡ Exec → P (exec_segments p)) → P [] → P (segments_in p)
unfolding segments_of
by_form P p of_exec of_object = by_case p.form refl
  where
    by_case : (form : Form) → p.form ≡ form → P (segments_of form p.sizes p.layout p.bases)
    by_case Exec e = of_exec e
    by_case Object e = of_object

length-exec : (p : Plan) → length (exec_segments p) ≡ segment_count Exec p.sizes
length-exec p =
    let text = if_any p.sizes.text (text_segment p) in
    let rodata = if_any p.sizes.rodata (rodata_segment p) in
    let rwdata = if_any (p.sizes.rwdata + p.sizes.bss) (rwdata_segment p) in
    omega (arith, length-append (text ++ rodata) rwdata, length-append text rodata, length-any p.sizes.text (text_segment p), length-any p.sizes.rodata (rodata_segment p), length-any (p.sizes.rwdata + p.sizes.bss) (rwdata_segment p))

pub length-segments_in : (p : Plan) → length (segments_in p) ≡ segment_count p.form p.sizes
unfolding segments_of
length-segments_in p = by_case p.form
  where
    by_case : (form : Form) → length (segments_of form p.sizes p.layout p.bases) ≡ segment_count form p.sizes
    by_case Exec = length-exec p
    by_case Object = refl

pub segments_hold : (P : Segment → Type 0) (p : Plan) → (p.form ≡ Exec → P (text_segment p) × (P (rodata_segment p) × P (rwdata_segment p))) → AllByRecursion P (segments_in p)
segments_hold P p h =
    by_form (AllByRecursion P) p (λ e. of_exec (h e)) tt
  where
    of_exec : P (text_segment p) × (P (rodata_segment p) × P (rwdata_segment p)) → AllByRecursion P (exec_segments p)
    of_exec k =
        let text = if_any p.sizes.text (text_segment p) in
        let rodata = if_any p.sizes.rodata (rodata_segment p) in
        let rwdata = if_any (p.sizes.rwdata + p.sizes.bss) (rwdata_segment p) in
        both_hold P (text ++ rodata) rwdata (both_hold P text rodata (any_holds P p.sizes.text (text_segment p) k.0) (any_holds P p.sizes.rodata (rodata_segment p) k.1.0)) (any_holds P (p.sizes.rwdata + p.sizes.bss) (rwdata_segment p) k.1.1)

-- at most three segments
few_in : (form : Form) (s : Sizes) → segment_count form s ≤ 3
few_in Exec s = grind (arith, nat_tests)
few_in Object s = omega arith

pub few_segments : (p : Plan) → segment_count p.form p.sizes ≤ 3
few_segments p = few_in p.form p.sizes

-- the place and the memory of .data
pub record HasData (p : Plan) : Type 0 where
  pub place : data_place p.sizes p.layout + p.sizes.rwdata ≤ p.layout.end
  pub memory : p.sizes.rwdata ≤ data_memory p.sizes p.bases
  pub space : p.bases.rwdata + data_memory p.sizes p.bases < 2 ^ 36

pub has_data : (p : Plan) → IsPlanned p → p.form ≡ Exec → HasData p
has_data p k e =
    let order = k.order in
    let behind = k.rwdata e in
    record {
      place = grind (arith, nat_tests);
      memory = grind (arith, nat_tests);
      space = grind (arith, nat_tests);
    }

pub segments_sized : (p : Plan) → IsPlanned p → AllByRecursion IsSizedSegment (segments_in p)
segments_sized p k =
    let order = k.order in
    segments_hold IsSizedSegment p (λ e. (let d = has_data p k e in (
      record { words = (omega arith, (omega arith, tt)); xwords = (omega arith, (omega arith, (omega arith, (omega arith, (omega arith, (omega arith, tt)))))) },
      (
        record { words = (omega arith, (omega arith, tt)); xwords = (omega arith, (omega arith, (omega arith, (omega arith, (omega arith, (omega arith, tt)))))) },
        record { words = (omega arith, (omega arith, tt)); xwords = (omega arith, (omega arith, (omega arith, (omega arith, (omega arith, (omega arith, tt)))))) },
      ),
    )))

-- the numbers of a section that is loaded, or has names
contents_sized : (name kind rights addr offset size : ℕ) → name < 2 ^ 32 → kind < 2 ^ 32 → rights < 2 ^ 32 → addr < 2 ^ 36 → offset < 2 ^ 32 → size ≤ 2 ^ 32 → IsSizedSection (contents name kind rights addr offset size)
contents_sized name kind rights addr offset size n k r a o s = record {
  front_words = (omega arith, (omega arith, tt));
  front_xwords = (omega arith, (omega arith, (omega arith, (omega arith, tt))));
  back_words = (omega arith, (omega arith, tt));
  back_xwords = (omega arith, (omega arith, tt));
}

-- those of section 0, of the symbol table, and of a section of relocations
null_sized : IsSizedSection null_section
null_sized = record {
  front_words = (omega arith, (omega arith, tt));
  front_xwords = (omega arith, (omega arith, (omega arith, (omega arith, tt))));
  back_words = (omega arith, (omega arith, tt));
  back_xwords = (omega arith, (omega arith, tt));
}

symtab_sized : (tables name offset size locals : ℕ) → tables ≤ 3 → name < 2 ^ 32 → offset < 2 ^ 32 → size < 2 ^ 32 → locals + 1 < 2 ^ 32 → IsSizedSection (symtab_section tables name offset size locals)
symtab_sized tables name offset size locals t n o s l = record {
  front_words = (omega arith, (omega arith, tt));
  front_xwords = (omega arith, (omega arith, (omega arith, (omega arith, tt))));
  back_words = (omega arith, (omega arith, tt));
  back_xwords = (omega arith, (omega arith, tt));
}

rela_sized : (tables name offset count target : ℕ) → tables ≤ 3 → name < 2 ^ 32 → offset < 2 ^ 32 → 24 * count < 2 ^ 32 → target < 2 ^ 32 → IsSizedSection (rela_section tables name offset count target)
rela_sized tables name offset count target t n o s l = record {
  front_words = (omega arith, (omega arith, tt));
  front_xwords = (omega arith, (omega arith, (omega arith, (omega arith, tt))));
  back_words = (omega arith, (omega arith, tt));
  back_xwords = (omega arith, (omega arith, tt));
}

-- at most three sections of relocations, and short names
pub few_tables : (s : Sizes) → table_count s ≤ 3
few_tables s = grind (arith, nat_tests)

short_name : (count n : ℕ) (name : List ℕ) → length name ≤ n → length (name_if count name) ≤ n + 1
short_name count n name h = by_test (count == 0)
  where
    by_test : (b : Bool) → length (if b then [] else (name ++ 0 ∷ [])) ≤ n + 1
    by_test true = omega arith
    by_test false = omega (arith, h, length-append name (0 ∷ []))

record AreShort (s : Sizes) : Type 0 where
  rodata : (name_places s).rodata ≤ 37
  rwdata : (name_places s).rwdata ≤ 50
  symtab : (name_places s).symtab ≤ 61

are_short : (s : Sizes) → AreShort s
are_short s =
    let text = short_name s.text_relas 10 (codes ".rela.text") (omega arith) in
    let rodata = short_name s.rodata_relas 12 (codes ".rela.rodata") (omega arith) in
    let rwdata = short_name s.rwdata_relas 10 (codes ".rela.data") (omega arith) in
    record { rodata = omega (arith, text); rwdata = omega (arith, text, rodata); symtab = omega (arith, text, rodata, rwdata) }

pub program_sized : (p : Plan) → IsPlanned p → AllByRecursion IsSizedSection (program_sections p.sizes p.layout p.bases)
unfolding program_sections
program_sized p k =
    let order = k.order in
    let l = p.layout in
    let s = p.sizes in
    let b = p.bases in (
      null_sized,
      (
        contents_sized 1 SHT_PROGBITS (SHF_ALLOC + SHF_EXECINSTR) b.text l.text s.text (omega arith) (omega arith) (omega arith) (omega arith) (omega arith) (omega arith),
        (
          contents_sized 7 SHT_PROGBITS SHF_ALLOC b.rodata l.rodata s.rodata (omega arith) (omega arith) (omega arith) (omega arith) (omega arith) (omega arith),
          (
            contents_sized 15 SHT_PROGBITS (SHF_WRITE + SHF_ALLOC) b.rwdata l.rwdata s.rwdata (omega arith) (omega arith) (omega arith) (omega arith) (omega arith) (omega arith),
            (contents_sized 21 SHT_NOBITS (SHF_WRITE + SHF_ALLOC) b.bss (l.rwdata + s.rwdata) s.bss (omega arith) (omega arith) (omega arith) (omega arith) (omega arith) (omega arith), tt),
          ),
        ),
      ),
    )

-- what holds of the sections of relocations
pub relas_hold : (P : Section → Type 0) (s : Sizes) (l : Layout) → P (text_table s l) → P (rodata_table s l) → P (rwdata_table s l) → AllByRecursion P (rela_sections s l)
unfolding rela_sections
relas_hold P s l a b c =
    let text = if_any s.text_relas (text_table s l) in
    let rodata = if_any s.rodata_relas (rodata_table s l) in
    let rwdata = if_any s.rwdata_relas (rwdata_table s l) in
    both_hold P (text ++ rodata) rwdata (both_hold P text rodata (any_holds P s.text_relas (text_table s l) a) (any_holds P s.rodata_relas (rodata_table s l) b)) (any_holds P s.rwdata_relas (rwdata_table s l) c)

relas_sized : (p : Plan) → IsPlanned p → AllByRecursion IsSizedSection (rela_sections p.sizes p.layout)
relas_sized p k =
    let order = k.order in
    let l = p.layout in
    let s = p.sizes in
    let few = few_tables s in
    let short = are_short s in
    relas_hold IsSizedSection s l
    (rela_sized (table_count s) 26 l.relas s.text_relas 1 few (omega arith) (omega arith) (omega arith) (omega arith))
    (rela_sized (table_count s) (name_places s).rodata (l.relas + 24 * s.text_relas) s.rodata_relas 2 few (omega (arith, short.rodata)) (omega arith) (omega arith) (omega arith))
    (rela_sized (table_count s) (name_places s).rwdata (l.relas + 24 * s.text_relas + 24 * s.rodata_relas) s.rwdata_relas 3 few (omega (arith, short.rwdata)) (omega arith) (omega arith) (omega arith))

tables_sized : (p : Plan) (locals : ℕ) → IsPlanned p → locals < 2 ^ 31 → AllByRecursion IsSizedSection (table_sections p.sizes p.layout locals)
unfolding table_sections
tables_sized p locals k few =
    let order = k.order in
    let l = p.layout in
    let s = p.sizes in
    let name = (name_places s).symtab in
    let short = (are_short s).symtab in (
      symtab_sized (table_count s) name l.symtab (24 * (s.symbols + 1)) locals (few_tables s) (omega (arith, short)) (omega arith) (omega arith) (omega arith),
      (
        contents_sized (name + 8) SHT_STRTAB 0 0 l.strtab s.strings (omega (arith, short)) (omega arith) (omega arith) (omega arith) (omega arith) (omega arith),
        (contents_sized (name + 16) SHT_STRTAB 0 0 l.shstrtab (length (section_names s)) (omega (arith, short)) (omega arith) (omega arith) (omega arith) (omega arith) (omega arith), tt),
      ),
    )

pub sections_sized : (p : Plan) (locals : ℕ) → IsPlanned p → locals < 2 ^ 31 → AllByRecursion IsSizedSection (sections_in p locals)
sections_sized p locals k few =
    let program = program_sections p.sizes p.layout p.bases in
    let relas = rela_sections p.sizes p.layout in
    both_hold IsSizedSection (program ++ relas) (table_sections p.sizes p.layout locals) (both_hold IsSizedSection program relas (program_sized p k) (relas_sized p k)) (tables_sized p locals k few)
