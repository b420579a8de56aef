-- What is read of a module's file holds the module.
use Rattle.std.proofs.Common.{◌≡◌, ◌+◌, ℕ, List, ◌∷◌, Bool, get_or, length, map, not, refl, sym, ap, subst, ◌∙◌, arith}
use Rattle.std.proofs.lemmas.List.Sums.{count_by-le-length, length-filter}
use Rattle.std.proofs.lemmas.List.Elements.{recursion_from_All}
use Rattle.std.specs.List.{enumerate_from, flat_map}
use Rattle.elf_read.specs.declared.records.Symbol.{Symbol}
use Rattle.elf_read.specs.Elf.{ElfValue, IsElf}
use Rattle.elf_read.specs.declared.elf.Kind.{Kind}
use Rattle.elf_read.specs.declared.records.Section.{Section}
use Rattle.elf_read.specs.Records.{group_of, header_of, part, relas_of, sections_of, segments_of, symbol_table, symbols_of}
use Rattle.elf_write.specs.declared.layout.Plan.{Plan}
use Rattle.elf_write.specs.declared.module.ModSymbol.{ModSymbol}
use Rattle.elf_write.specs.declared.module.Form.{Form}
use Rattle.elf_write.specs.declared.module.Form.TheVariants.{Exec, Object}
use Rattle.elf_write.specs.Layout.{layout_of, plan_of}
use Rattle.elf_write.specs.Modules.{ModuleValue}
use Rattle.elf_write.specs.Names.{section_names, table_count}
use Rattle.elf_write.specs.Parts.{locals, IsSymbol}
use Rattle.elf_write.specs.Records.{null_section, program_sections, table_sections}
use Rattle.elf_write.specs.Written.{sections_in, written, FitsForm, IsWritable}
use Rattle.elf_laws.specs.Laws.{contents_in, groups_in, kind_of, section_in, HoldsModule, IsSized, IsSizedSymbol, LengthIsPlanned, ModuleIsRead}
use Rattle.elf_laws.proofs.FileLemmas.{sizes_are, stands_whole}
use Rattle.elf_laws.proofs.PlanLemmas.{planned}
use Rattle.elf_laws.proofs.ReadLemmas.{all_plain, all_relas, all_sections, all_segments, all_symbols, header_read, IsFileOf}
use Rattle.elf_laws.proofs.SectionLemmas.{count_front, front_sections, get_behind, groups_are}
use Rattle.elf_laws.proofs.StandLemmas.{part_is}
use Rattle.elf_laws.proofs.SymbolLemmas.{names_are, null}

pub is_file : (m : ModuleValue) → IsWritable m → IsSized m → IsFileOf (plan_of m) m (written m)
is_file m w z =
    let plan = planned m w in
    let order = plan.order in
    let sizes = sizes_are m in
    let global : ModSymbol → Bool = λ s. not s.global in
    record {
      sizes = sizes;
      planned = plan;
      whole = stands_whole m w;
      sized = z;
      plain = all_plain m.symbols (recursion_from_All IsSymbol m.symbols w.symbols) (recursion_from_All IsSizedSymbol m.symbols z.symbols);
      by_section = w.by_section;
      linked = w.linked;
      form = w.form;
      few = omega (arith, length-filter global m.symbols, count_by-le-length global m.symbols, sizes.symbols, order.symtab, order.strtab, order.shstrtab, order.headers, plan.short);
    }

-- what reading answers of bytes
abbrev pub read_of : Kind → List ℕ → ElfValue
read_of kind bytes =
    let h = header_of bytes in
    let sections = sections_of bytes h in
    record {
      kind = kind;
      bytes = bytes;
      entry = h.e_entry;
      segments = segments_of bytes h;
      sections = sections;
      symbols = symbols_of bytes (symbol_table sections);
      relas = relas_of kind bytes sections;
    }

is_read : (kind : Kind) (bytes : List ℕ) (elf : ElfValue) → IsElf kind bytes elf → elf ≡ read_of kind bytes
is_read kind bytes elf e = rw (e.relas, e.told, e.symbols, e.sections, e.segments, e.entry, e.whole) refl

-- the bytes of a section
text_section : (p : Plan) (n : ℕ) (elf : ElfValue) → elf.sections ≡ sections_in p n → contents_in elf 1 ≡ part elf.bytes (record { at = p.layout.text; len = p.sizes.text })
unfolding program_sections
text_section p n elf e = rw e refl

rodata_section : (p : Plan) (n : ℕ) (elf : ElfValue) → elf.sections ≡ sections_in p n → contents_in elf 2 ≡ part elf.bytes (record { at = p.layout.rodata; len = p.sizes.rodata })
unfolding program_sections
rodata_section p n elf e = rw e refl

rwdata_section : (p : Plan) (n : ℕ) (elf : ElfValue) → elf.sections ≡ sections_in p n → contents_in elf 3 ≡ part elf.bytes (record { at = p.layout.rwdata; len = p.sizes.rwdata })
unfolding program_sections
rwdata_section p n elf e = rw e refl

bss_section : (p : Plan) (n : ℕ) (elf : ElfValue) → elf.sections ≡ sections_in p n → (section_in elf 4).sh_size ≡ p.sizes.bss
unfolding program_sections
bss_section p n elf e = rw e refl

names_section : (p : Plan) (n : ℕ) (elf : ElfValue) → elf.sections ≡ sections_in p n → contents_in elf (7 + table_count p.sizes) ≡ part elf.bytes (record { at = p.layout.shstrtab; len = length (section_names p.sizes) })
unfolding table_sections
names_section p n elf e =
    let place : 7 + table_count p.sizes ≡ length (front_sections p) + 2 = omega (arith, count_front p) in
    let last : section_in elf (7 + table_count p.sizes) ≡ get_or (table_sections p.sizes p.layout n) 2 null_section =
    ap (λ (xs : List Section). get_or xs (7 + table_count p.sizes) null_section) e
    ∙ ap (λ (k : ℕ). get_or (sections_in p n) k null_section) place
    ∙ get_behind (front_sections p) (table_sections p.sizes p.layout n) 2 null_section in
    ap (λ (s : Section). part elf.bytes (record { at = s.sh_offset; len = s.sh_size })) last

-- the relocations, as the form of the module has them read
relas_held : (m : ModuleValue) (file : List ℕ) (sections : List Section) → IsFileOf (plan_of m) m file → flat_map (group_of file) (enumerate_from 0 sections) ≡ groups_in m.relas → relas_of (kind_of m.form) file sections ≡ groups_in m.relas
relas_held m file sections f are = by_form m.form f.form
  where
    by_form : (form : Form) → FitsForm form m → relas_of (kind_of form) file sections ≡ groups_in m.relas
    by_form Exec fits = ap groups_in (sym fits.0)
    by_form Object fits = are

holds : (m : ModuleValue) (file : List ℕ) → IsFileOf (plan_of m) m file → HoldsModule m (read_of (kind_of m.form) file)
holds m file f =
    let p = plan_of m in
    let n = length (locals m.symbols) in
    let elf = read_of (kind_of m.form) file in
    let sections = all_sections p m file f in
    let symbols = all_symbols p m file f in
    record {
      header = header_read p m file f;
      entry = ap (λ h. h.e_entry) (header_read p m file f);
      segments = all_segments p m file f;
      sections = sections;
      symbols = symbols;
      relas = relas_held m file (sections_of file (header_of file)) f (ap (λ (xs : List Section). flat_map (group_of file) (enumerate_from 0 xs)) sections ∙ groups_are p n m.relas file (all_relas p m file f));
      names = ap (λ (xs : List Symbol). map (λ s. part file s.st_name) xs) symbols ∙ names_are p.layout.strtab (null ∷ m.symbols) file f.whole.strtab;
      text = text_section p n elf sections ∙ part_is p.layout.text p.sizes.text m.text file (sym f.sizes.text) f.whole.text;
      rodata = rodata_section p n elf sections ∙ part_is p.layout.rodata p.sizes.rodata m.rodata file (sym f.sizes.rodata) f.whole.rodata;
      rwdata = rwdata_section p n elf sections ∙ part_is p.layout.rwdata p.sizes.rwdata m.rwdata file (sym f.sizes.rwdata) f.whole.rwdata;
      bss = bss_section p n elf sections ∙ f.sizes.bss;
      shstrtab = names_section p n elf sections ∙ part_is p.layout.shstrtab (length (section_names p.sizes)) (section_names p.sizes) file refl f.whole.shstrtab;
    }

pub module_holds : (m : ModuleValue) → IsWritable m → IsSized m → HoldsModule m (read_of (kind_of m.form) (written m))
module_holds m w z = holds m (written m) (is_file m w z)

pub module_is_read : ModuleIsRead
module_is_read m elf w z e = subst (HoldsModule m) (sym (is_read (kind_of m.form) (written m) elf e)) (module_holds m w z)

pub length_is_planned : LengthIsPlanned
unfolding layout_of
length_is_planned m w = (stands_whole m w).size
