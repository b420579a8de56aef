-- The rules of a file, in the order in which they are looked at, each with the place that is told
-- where it is broken (System V ABI, "ELF Header", "Program Header", "Section Header", "Symbol
-- Table", "String Table" and "Relocation"; RISC-V ELF psABI, "File Header").
use Rattle.std.specs.Prelude.{ℕ, ◌+◌, ◌*◌, ◌%◌, ◌^◌, ◌==◌, ◌&&◌, ◌||◌, not, Bool, false, if◌then◌else◌, List, [], ◌∷◌, ◌++◌, Option, Some, None, length, nat_lt, nat_le, nat_eq, bit_and, slice_index, slice_get, position}
use Rattle.std.specs.List.{starts_with, enumerate_from, flat_map}
use Rattle.std.specs.Option.{option_map, option_map_or}
use Rattle.wf_outside.specs.declared.rules.ElfRule.{ElfRule}
use Rattle.wf_outside.specs.declared.rules.ElfRule.TheVariants.{Short, Magic, Class, Order, Kind as Kind_, Machine, Flags, Table, Range, Strings}
use Rattle.elf_read.specs.declared.elf.Kind.{Kind}
use Rattle.elf_read.specs.declared.elf.Kind.TheVariants.{Exec, Rel}
use Rattle.elf_read.specs.declared.fault.ElfFault.{ElfFault}
use Rattle.elf_read.specs.declared.fault.ElfFault.TheVariants.{Rule}
use Rattle.elf_read.specs.declared.header.Header.{Header}
use Rattle.elf_read.specs.declared.symbols.SymbolTable.{SymbolTable}
use Rattle.elf_read.specs.declared.records.Segment.{Segment}
use Rattle.elf_read.specs.declared.records.Section.{Section}
use Rattle.elf_read.specs.declared.records.Span.{Span}
use Rattle.elf_read.specs.declared.records.Symbol.{Symbol}
use Rattle.elf_read.specs.declared.records.Rela.{Rela}
use Rattle.elf_read.specs.declared.constants.TheConstants.{EHSIZE, PHENTSIZE, SHENTSIZE, SYMENTSIZE, RELAENTSIZE, EI_CLASS, EI_DATA, E_TYPE_PLACE, E_MACHINE_PLACE, E_FLAGS_PLACE, E_PHENTSIZE_PLACE, E_PHOFF_PLACE, E_SHENTSIZE_PLACE, E_SHOFF_PLACE, E_SHSTRNDX_PLACE, ELFCLASS64, ELFDATA2LSB, ET_EXEC, ET_REL, EM_RISCV, EF_RISCV_RVC, EF_RISCV_RVE, PT_LOAD, SHT_NULL, SHT_STRTAB, SHT_NOBITS, SHT_REL, SHN_LORESERVE, SHN_XINDEX}
use Rattle.wf_outside.specs.Lists.{first_of}
use Rattle.elf_read.specs.Records.{is_symtab, is_rela, header_of, segments_of, sections_of, symbol_table, symbols_of, relas_in}
use Rattle.elf_read.specs.Relas.{symbol_number}

-- the rule is broken, at this place, unless the test holds
abbrev pub unless : Bool → ElfRule → ℕ → Option ElfFault
unless holds rule at = if holds then None else Some (Rule rule at)

-- the first record of a table that fails the test breaks the rule, at its place; each record has so
-- many bytes
abbrev pub unless_each : {X : Type 0} → (X → Bool) → ElfRule → ℕ → ℕ → List X → Option ElfFault
unless_each holds rule at size xs =
    option_map (λ i. Rule rule (at + size * i)) (position (λ x. not (holds x)) xs)

-- e_type of the kind that is asked for
abbrev pub type_of : Kind → ℕ
type_of Exec = ET_EXEC
type_of Rel = ET_REL

-- a segment that is to be loaded has its part of the file, memory for it, and addresses for that
abbrev pub fits_file : ℕ → Segment → Bool
fits_file size s =
    not (s.p_type == PT_LOAD)
    || (nat_le (s.p_offset + s.p_filesz) size
    && nat_le s.p_filesz s.p_memsz
    && nat_le (s.p_vaddr + s.p_memsz) (2 ^ 64))

-- a section with bytes in the file has them there
abbrev pub lies_in_file : ℕ → Section → Bool
lies_in_file size s =
    s.sh_type == SHT_NULL || s.sh_type == SHT_NOBITS || nat_le (s.sh_offset + s.sh_size) size

-- a section's number is that of a string table
abbrev pub is_strings : List Section → ℕ → Bool
is_strings sections i = option_map_or (λ s. s.sh_type == SHT_STRTAB) (slice_get sections i) false

-- a section has whole symbols, and their names are in a string table
abbrev pub has_symbols : List Section → Section → Bool
has_symbols sections s =
    s.sh_entsize == SYMENTSIZE
    && s.sh_size % SYMENTSIZE == 0
    && is_strings sections s.sh_link

-- section i is no symbol table, or it is the first one and has symbols
abbrev pub is_only_symtab : List Section → ℕ × Section → Bool
is_only_symtab sections (i, s) =
    not (is_symtab s)
    || (option_map_or (λ first. i == first) (position is_symtab sections) false
    && has_symbols sections s)

-- the zero byte at the end of a name lies in the string table
abbrev pub ends_in : Span → Symbol → Bool
ends_in names s = nat_lt (s.st_name.at + s.st_name.len) (names.at + names.len)

-- a symbol's section is one of so many, or has a number with a meaning of its own
abbrev pub has_home : ℕ → Symbol → Bool
has_home sections s =
    nat_lt s.st_shndx sections
    || (nat_le SHN_LORESERVE s.st_shndx && not (s.st_shndx == SHN_XINDEX))

-- a section's number is that of a symbol table
abbrev pub is_symbols : List Section → ℕ → Bool
is_symbols sections i = option_map_or is_symtab (slice_get sections i) false

-- a section has whole entries, their symbols are in a symbol table, and what they change is there
abbrev pub has_relas : List Section → Section → Bool
has_relas sections s =
    s.sh_entsize == RELAENTSIZE
    && s.sh_size % RELAENTSIZE == 0
    && is_symbols sections s.sh_link
    && nat_lt s.sh_info (length sections)

-- a section is no table of relocations, or it has whole ones with addends
abbrev pub is_linked : List Section → Section → Bool
is_linked sections s =
    not (s.sh_type == SHT_REL) && (not (is_rela s) || has_relas sections s)

-- the symbol that an entry names is one of so many
abbrev pub has_symbol : ℕ → Rela → Bool
has_symbol symbols r = nat_lt (symbol_number r) symbols

-- the rules of the first bytes
abbrev pub ident_rules : List ℕ → List (Option ElfFault)
ident_rules bytes =
    unless (starts_with nat_eq bytes (0x7F ∷ 0x45 ∷ 0x4C ∷ 0x46 ∷ [])) Magic 0
    ∷ unless (slice_index bytes EI_CLASS == ELFCLASS64) Class EI_CLASS
    ∷ unless (slice_index bytes EI_DATA == ELFDATA2LSB) Order EI_DATA
    ∷ []

-- the rules about what the file is for
abbrev pub target_rules : Kind → Header → List (Option ElfFault)
target_rules kind h =
    unless (h.e_type == type_of kind) Kind_ E_TYPE_PLACE
    ∷ unless (h.e_machine == EM_RISCV) Machine E_MACHINE_PLACE
    ∷ unless (bit_and h.e_flags EF_RISCV_RVC == 0 && bit_and h.e_flags EF_RISCV_RVE == 0) Flags
    E_FLAGS_PLACE
    ∷ []

-- the rules about the tables of headers, in a file of so many bytes
abbrev pub layout_rules : ℕ → Header → List (Option ElfFault)
layout_rules size h =
    unless (h.e_phnum == 0 || h.e_phentsize == PHENTSIZE) Table E_PHENTSIZE_PLACE
    ∷ unless (h.e_phnum == 0 || nat_le (h.e_phoff + PHENTSIZE * h.e_phnum) size) Table E_PHOFF_PLACE
    ∷ unless (if h.e_shnum == 0 then h.e_shoff == 0 else h.e_shentsize == SHENTSIZE) Table
    E_SHENTSIZE_PLACE
    ∷ unless (nat_le (h.e_shoff + SHENTSIZE * h.e_shnum) size) Table E_SHOFF_PLACE
    ∷ []

-- all rules of the header, behind the one that there is room for it
unfoldable pub header_rules : Kind → List ℕ → List (Option ElfFault)
header_rules kind bytes =
    (unless (nat_le EHSIZE (length bytes)) Short (length bytes) ∷ [])
    ++ ident_rules bytes
    ++ target_rules kind (header_of bytes)
    ++ layout_rules (length bytes) (header_of bytes)

-- the rules of the segments
unfoldable pub segment_rules : ℕ → Header → List Segment → List (Option ElfFault)
segment_rules size h segments = unless_each (fits_file size) Range h.e_phoff PHENTSIZE segments ∷ []

-- the rules of the sections
unfoldable pub section_rules : ℕ → Header → List Section → List (Option ElfFault)
section_rules size h sections =
    unless_each (lies_in_file size) Range h.e_shoff SHENTSIZE sections
    ∷ unless (h.e_shnum == 0 || h.e_shstrndx == 0 || is_strings sections h.e_shstrndx) Strings
    E_SHSTRNDX_PLACE
    ∷ unless_each (is_only_symtab sections) Table h.e_shoff SHENTSIZE (enumerate_from 0 sections)
    ∷ []

-- the rules of the symbols
unfoldable pub symbol_rules : Header → SymbolTable → List Symbol → List (Option ElfFault)
symbol_rules h t symbols =
    unless_each (ends_in t.names) Strings t.at SYMENTSIZE symbols
    ∷ unless_each (has_home h.e_shnum) Table t.at SYMENTSIZE symbols
    ∷ []

-- the rule of the entries of a section, in a file with so many symbols
abbrev pub entry_rule : List ℕ → ℕ → Section → Option ElfFault
entry_rule bytes symbols s =
    if is_rela s
    then unless_each (has_symbol symbols) Table s.sh_offset RELAENTSIZE (relas_in bytes s)
    else None

-- the rules of section i about relocations: its header's and then its entries'
abbrev pub link_rules : List ℕ → Header → List Section → ℕ → ℕ × Section → List (Option ElfFault)
link_rules bytes h sections symbols (i, s) =
    unless (is_linked sections s) Table (h.e_shoff + SHENTSIZE * i)
    ∷ entry_rule bytes symbols s
    ∷ []

-- the rules of relocations, section by section; those of an executable file are not looked at
unfoldable pub rela_rules : Kind → List ℕ → Header → List Section → ℕ → List (Option ElfFault)
rela_rules Exec bytes h sections symbols = []
rela_rules Rel bytes h sections symbols =
    flat_map (link_rules bytes h sections symbols) (enumerate_from 0 sections)

-- the first rule that is broken, and where
unfoldable pub first_fault : Kind → List ℕ → Option ElfFault
first_fault kind bytes =
    let size = length bytes in
    let h = header_of bytes in
    let sections = sections_of bytes h in
    let t = symbol_table sections in
    let symbols = symbols_of bytes t in
    first_of (
    header_rules kind bytes
    ++ segment_rules size h (segments_of bytes h)
    ++ section_rules size h sections
    ++ symbol_rules h t symbols
    ++ rela_rules kind bytes h sections (length symbols)
    )
