-- What holds of a file that is written of a module.
use Rattle.std.specs.Prelude.{◌≡◌, ◌<◌, ◌+◌, ◌^◌, ℕ, List, [], ◌∷◌, ◌++◌, None, All, get_or, length, map}
use Rattle.std.specs.Int.{w64}
use Rattle.std.specs.Int.RustNames.{FitsSigned}
use Rattle.elf_read.specs.declared.constants.TheConstants.{EHSIZE, EM_RISCV, PHENTSIZE, SHENTSIZE}
use Rattle.elf_read.specs.declared.elf.Kind.{Kind}
use Rattle.elf_read.specs.declared.elf.Kind.TheVariants as kind
use Rattle.elf_read.specs.declared.header.Header.{Header}
use Rattle.elf_read.specs.declared.records.Rela.{Rela}
use Rattle.elf_read.specs.declared.records.Section.{Section}
use Rattle.elf_read.specs.declared.records.Symbol.{Symbol}
use Rattle.elf_read.specs.Elf.{ElfValue, IsElf}
use Rattle.elf_read.specs.Records.{header_of, part}
use Rattle.elf_read.specs.Relas.{RelaGroupValue}
use Rattle.elf_read.specs.Rules.{first_fault}
use Rattle.elf_write.specs.declared.module.Form.{Form}
use Rattle.elf_write.specs.declared.module.Form.TheVariants.{Exec, Object}
use Rattle.elf_write.specs.declared.module.ModRela.{ModRela}
use Rattle.elf_write.specs.declared.module.ModSymbol.{ModSymbol}
use Rattle.elf_write.specs.Layout.{file_length, plan_of, present, sizes}
use Rattle.elf_write.specs.Modules.{ModuleValue}
use Rattle.elf_write.specs.Names.{section_names, table_count}
use Rattle.elf_write.specs.Parts.{info_of, locals, name_bytes, rela_info, relas_for}
use Rattle.elf_write.specs.Places.{if_any}
use Rattle.elf_write.specs.Records.{null_section}
use Rattle.elf_write.specs.Written.{if_segments, sections_in, segments_in, type_of, written, IsWritable}

-- the numbers of a symbol have their sizes
pub record IsSizedSymbol (s : ModSymbol) : Type 0 where
  pub value : s.value < 2 ^ 64
  pub size : s.size < 2 ^ 64

-- the numbers of a relocation have their sizes
pub record IsSizedRela (r : ModRela) : Type 0 where
  pub offset : r.offset < 2 ^ 64
  pub kind : r.kind < 2 ^ 32
  pub addend : FitsSigned w64 r.addend

-- the numbers of a module have their sizes
pub record IsSized (m : ModuleValue) : Type 0 where
  pub entry : m.entry < 2 ^ 64
  pub symbols : All IsSizedSymbol m.symbols
  pub relas : All IsSizedRela m.relas

-- the kind of file that a module's form is read as
abbrev pub kind_of : Form → Kind
kind_of Exec = kind.Exec
kind_of Object = kind.Rel

-- the header of a file with so many segments and, beside 8 others, so many sections of relocations,
-- whose headers stand at a place
abbrev pub header_with : Form → ℕ → ℕ → ℕ → ℕ → Header
header_with form entry segments tables headers = record {
  e_type = type_of form;
  e_machine = EM_RISCV;
  e_entry = entry;
  e_phoff = if_segments segments EHSIZE;
  e_shoff = headers;
  e_flags = 0;
  e_phentsize = if_segments segments PHENTSIZE;
  e_phnum = segments;
  e_shentsize = SHENTSIZE;
  e_shnum = 8 + tables;
  e_shstrndx = 7 + tables;
}

-- the header of a module's file
abbrev pub header_in : ModuleValue → Header
header_in m =
    let p = plan_of m in
    header_with m.form m.entry (length (segments_in p)) (table_count p.sizes) p.layout.headers

-- symbol 0 of a file whose names stand at a place
abbrev pub null_symbol : ℕ → Symbol
null_symbol names = record {
  st_name = record { at = names; len = 0 };
  st_info = 0;
  st_other = 0;
  st_shndx = 0;
  st_value = 0;
  st_size = 0;
}

-- a symbol in a file, whose name stands at a place
abbrev pub symbol_with : ℕ → ModSymbol → Symbol
symbol_with name s = record {
  st_name = record { at = name; len = length s.name };
  st_info = info_of s.global;
  st_other = 0;
  st_shndx = s.section;
  st_value = s.value;
  st_size = s.size;
}

-- symbols in a file, the name of the first of which stands at a place
abbrev pub symbols_with : ℕ → List ModSymbol → List Symbol
symbols_with name [] = []
symbols_with name (s ∷ ss) = symbol_with name s ∷ symbols_with (name + length (name_bytes s)) ss

-- the symbols of a module's file
abbrev pub symbols_in : ModuleValue → List Symbol
symbols_in m =
    let names = (plan_of m).layout.strtab in
    null_symbol names ∷ symbols_with (names + 1) m.symbols

-- a relocation in a file
abbrev pub rela_with : ModRela → Rela
rela_with r = record { r_offset = r.offset; r_info = rela_info r; r_addend = r.addend }

-- the relocations of a section, which stand in another with this number, if there are any
abbrev pub group_with : ℕ → ℕ → List ModRela → List RelaGroupValue
group_with section target relas =
    if_any (length relas)
    (record { section = section; target = target; relas = map rela_with relas })

-- the relocations of a module's file, in section 5 and those behind it
abbrev pub groups_in : List ModRela → List RelaGroupValue
groups_in relas =
    let text = relas_for 1 relas in
    let rodata = relas_for 2 relas in
    let second = 5 + present (length text) in
    group_with 5 1 text
    ++ group_with second 2 rodata
    ++ group_with (second + present (length rodata)) 3 (relas_for 3 relas)

-- section i of a file
abbrev pub section_in : ElfValue → ℕ → Section
section_in elf i = get_or elf.sections i null_section

-- the bytes of section i
abbrev pub contents_in : ElfValue → ℕ → List ℕ
contents_in elf i =
    let s = section_in elf i in
    part elf.bytes (record { at = s.sh_offset; len = s.sh_size })

-- the names of the symbols: the bytes of each in the file
abbrev pub names_in : ElfValue → List (List ℕ)
names_in elf = map (λ s. part elf.bytes s.st_name) elf.symbols

-- The module stands in a file that was read: header, headers of segments and sections, symbols and
-- their names, and relocations. Sections 1 to 3 have its bytes, section 4 has the size of .bss, and
-- the last one the names of the sections.
pub record HoldsModule (m : ModuleValue) (elf : ElfValue) : Type 0 where
  pub header : header_of elf.bytes ≡ header_in m
  pub entry : elf.entry ≡ m.entry
  pub segments : elf.segments ≡ segments_in (plan_of m)
  pub sections : elf.sections ≡ sections_in (plan_of m) (length (locals m.symbols))
  pub symbols : elf.symbols ≡ symbols_in m
  pub relas : elf.relas ≡ groups_in m.relas
  pub names : names_in elf ≡ [] ∷ map (λ s. s.name) m.symbols
  pub text : contents_in elf 1 ≡ m.text
  pub rodata : contents_in elf 2 ≡ m.rodata
  pub rwdata : contents_in elf 3 ≡ m.rwdata
  pub bss : (section_in elf 4).sh_size ≡ m.bss
  pub shstrtab : contents_in elf (7 + table_count (sizes m)) ≡ section_names (sizes m)

-- what is written of a module has the length that its plan tells
abbrev pub LengthIsPlanned : Type 0
LengthIsPlanned = (m : ModuleValue) → IsWritable m → length (written m) ≡ file_length m

-- what is written of a module breaks no rule of reading
abbrev pub NoRuleIsBroken : Type 0
NoRuleIsBroken =
    (m : ModuleValue) → IsWritable m → IsSized m
    → first_fault (kind_of m.form) (written m) ≡ None

-- what is read of it holds the module
abbrev pub ModuleIsRead : Type 0
ModuleIsRead =
    (m : ModuleValue) (elf : ElfValue) → IsWritable m → IsSized m
    → IsElf (kind_of m.form) (written m) elf → HoldsModule m elf

-- no two modules have one file
abbrev pub FilesAreApart : Type 0
FilesAreApart =
    (m n : ModuleValue) → IsWritable m → IsSized m → IsWritable n → IsSized n
    → written m ≡ written n → m ≡ n
