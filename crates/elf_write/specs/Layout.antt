-- Where the parts of a file stand, and at which addresses they are loaded.
use Rattle.std.specs.Prelude.{ℕ, ◌+◌, ◌*◌, ◌^◌, ◌≡◌, ◌≤◌, ◌<◌, ◌==◌, length, if◌then◌else◌}
use Rattle.elf_write.specs.declared.module.Form.{Form}
use Rattle.elf_write.specs.declared.module.Form.TheVariants.{Exec, Object}
use Rattle.elf_write.specs.declared.layout.Bases.{Bases}
use Rattle.elf_write.specs.declared.layout.Sizes.{Sizes}
use Rattle.elf_write.specs.declared.layout.Layout.{Layout}
use Rattle.elf_write.specs.declared.layout.Plan.{Plan}
use Rattle.elf_write.specs.Modules.{ModuleValue}
use Rattle.elf_write.specs.Names.{section_names, table_count}
use Rattle.elf_write.specs.Parts.{relas_for, strings}
use Rattle.elf_write.specs.Places.{rounded_up}

-- The addresses of the sections, where .text, .rodata and .data have so many bytes: .text at
-- 0x10000, .rodata and .data at the first page that begins behind what stands before them, and .bss
-- behind .data at a multiple of 8.
unfoldable pub bases_of : ℕ → ℕ → ℕ → Bases
bases_of text rodata rwdata =
    let rodata_at = rounded_up 4096 (0x10000 + text) in
    let data_at = rounded_up 4096 (rodata_at + rodata) in
    record {
      text = 0x10000;
      rodata = rodata_at;
      rwdata = data_at;
      bss = rounded_up 8 (data_at + rwdata);
    }

-- the addresses of the sections of a module; an object's are given when it is linked
abbrev pub bases_in : Form → ℕ → ℕ → ℕ → Bases
bases_in Exec text rodata rwdata = bases_of text rodata rwdata
bases_in Object text rodata rwdata = record { text = 0; rodata = 0; rwdata = 0; bss = 0 }

-- 1 for a segment that is there, with bytes or with memory alone
abbrev pub present : ℕ → ℕ
present bytes = if bytes == 0 then 0 else 1

-- Where so many bytes of contents stand behind a place: in an executable file at a page's start, or
-- at the place where there are none; in an object at a multiple of 8.
abbrev pub content_at : Form → ℕ → ℕ → ℕ
content_at Exec place bytes = if bytes == 0 then place else rounded_up 4096 place
content_at Object place bytes = rounded_up 8 place

-- the sizes of the parts of a module whose names take so many bytes
unfoldable pub sizes_with : ModuleValue → ℕ → Sizes
sizes_with m names = record {
  text = length m.text;
  rodata = length m.rodata;
  rwdata = length m.rwdata;
  bss = m.bss;
  symbols = length m.symbols;
  strings = names;
  text_relas = length (relas_for 1 m.relas);
  rodata_relas = length (relas_for 2 m.relas);
  rwdata_relas = length (relas_for 3 m.relas);
}

-- these are the sizes of a module whose names take so many bytes
pub record AreSizes (m : ModuleValue) (names : ℕ) (s : Sizes) : Type 0 where
  pub text : s.text ≡ length m.text
  pub rodata : s.rodata ≡ length m.rodata
  pub rwdata : s.rwdata ≡ length m.rwdata
  pub bss : s.bss ≡ m.bss
  pub symbols : s.symbols ≡ length m.symbols
  pub strings : s.strings ≡ names

-- the sizes of the parts of a module
abbrev pub sizes : ModuleValue → Sizes
sizes m = sizes_with m (length (strings m.symbols))

-- how many segments there are: none in an object
abbrev pub segment_count : Form → Sizes → ℕ
segment_count Exec s = present s.text + present s.rodata + present (s.rwdata + s.bss)
segment_count Object s = 0

-- how many relocations there are
abbrev pub rela_count : Sizes → ℕ
rela_count s = s.text_relas + s.rodata_relas + s.rwdata_relas

-- The places of the parts: the contents behind the headers of segments; the relocations, the
-- symbols, their names, the names of the sections, and the headers of the sections, each at a
-- multiple of 8; and the file's end.
unfoldable pub layout_of : Form → Sizes → Layout
layout_of form s =
    let text = content_at form (64 + 56 * segment_count form s) s.text in
    let rodata = content_at form (text + s.text) s.rodata in
    let rwdata = content_at form (rodata + s.rodata) s.rwdata in
    let relas = rounded_up 8 (rwdata + s.rwdata) in
    let symtab = relas + 24 * rela_count s in
    let strtab = rounded_up 8 (symtab + 24 * (s.symbols + 1)) in
    let shstrtab = rounded_up 8 (strtab + s.strings) in
    let headers = rounded_up 8 (shstrtab + length (section_names s)) in
    record {
      text = text;
      rodata = rodata;
      rwdata = rwdata;
      relas = relas;
      symtab = symtab;
      strtab = strtab;
      shstrtab = shstrtab;
      headers = headers;
      end = headers + 64 * (8 + table_count s);
    }

-- the form, the sizes, the places and the addresses of a module's parts
abbrev pub plan_of : ModuleValue → Plan
plan_of m = record {
  form = m.form;
  sizes = sizes m;
  layout = layout_of m.form (sizes m);
  bases = bases_in m.form (length m.text) (length m.rodata) (length m.rwdata);
}

-- each part stands behind the one before it, and ends in the file
pub record IsInOrder (s : Sizes) (l : Layout) : Type 0 where
  pub text : l.text + s.text ≤ l.rodata
  pub rodata : l.rodata + s.rodata ≤ l.rwdata
  pub rwdata : l.rwdata + s.rwdata ≤ l.relas
  pub relas : l.relas + 24 * rela_count s ≤ l.symtab
  pub symtab : l.symtab + 24 * (s.symbols + 1) ≤ l.strtab
  pub strtab : l.strtab + s.strings ≤ l.shstrtab
  pub shstrtab : l.shstrtab + length (section_names s) ≤ l.headers
  pub headers : l.headers + 64 * (8 + table_count s) ≤ l.end

-- the parts of a module with so many symbols and bytes of names, and their addresses, have room in
-- a file
pub record HasRoom (count bytes : ℕ) (p : Plan) : Type 0 where
  pub order : IsInOrder p.sizes p.layout
  pub short : p.layout.end < 2 ^ 32
  pub symbols : p.sizes.symbols ≡ count
  pub names : p.sizes.strings ≡ bytes
  pub bss : p.sizes.bss ≤ 2 ^ 32
  pub near : p.bases.rwdata ≤ p.bases.bss
  pub low : p.bases.bss < 2 ^ 35

-- the length of a module's file
abbrev pub file_length : ModuleValue → ℕ
file_length m = (layout_of m.form (sizes m)).end
