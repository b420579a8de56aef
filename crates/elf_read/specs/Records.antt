-- What stands in a file: each record with the fields of ELF64 at their places from its start, and
-- tables of records (System V ABI, "ELF Header", "Program Header", "Section Header", "Symbol
-- Table", "String Table" and "Relocation").
use Rattle.std.specs.Prelude.{ℕ, ◌+◌, ◌*◌, ◌/◌, ◌==◌, Bool, if◌then◌else◌, List, [], ◌∷◌, drop, find, map, slice_get, slice_index, slice_range, unwrap_or}
use Rattle.std.specs.Int.{cast_signed, w64}
use Rattle.std.specs.List.{enumerate_from, flat_map, position_or_len, range_with_len}
use Rattle.std.specs.Option.{option_map, option_and_then}
use Rattle.elf_read.specs.declared.elf.Kind.{Kind}
use Rattle.elf_read.specs.declared.elf.Kind.TheVariants.{Exec, Rel}
use Rattle.elf_read.specs.declared.header.Header.{Header}
use Rattle.elf_read.specs.declared.records.Rela.{Rela}
use Rattle.elf_read.specs.declared.records.Segment.{Segment}
use Rattle.elf_read.specs.declared.records.Section.{Section}
use Rattle.elf_read.specs.declared.records.Span.{Span}
use Rattle.elf_read.specs.declared.records.Symbol.{Symbol}
use Rattle.elf_read.specs.declared.symbols.SymbolTable.{SymbolTable}
use Rattle.elf_read.specs.declared.constants.TheConstants.{E_TYPE_PLACE, E_MACHINE_PLACE, E_ENTRY_PLACE, E_PHOFF_PLACE, E_SHOFF_PLACE, E_FLAGS_PLACE, E_PHENTSIZE_PLACE, E_PHNUM_PLACE, E_SHENTSIZE_PLACE, E_SHNUM_PLACE, E_SHSTRNDX_PLACE, PHENTSIZE, SHENTSIZE, SYMENTSIZE, RELAENTSIZE, SHT_SYMTAB, SHT_RELA}
use Rattle.elf_read.specs.Fields.{field}
use Rattle.elf_read.specs.Relas.{RelaGroupValue}

-- the header of the file
unfoldable pub header_of : List ℕ → Header
header_of bytes = record {
  e_type = field 2 E_TYPE_PLACE bytes;
  e_machine = field 2 E_MACHINE_PLACE bytes;
  e_entry = field 8 E_ENTRY_PLACE bytes;
  e_phoff = field 8 E_PHOFF_PLACE bytes;
  e_shoff = field 8 E_SHOFF_PLACE bytes;
  e_flags = field 4 E_FLAGS_PLACE bytes;
  e_phentsize = field 2 E_PHENTSIZE_PLACE bytes;
  e_phnum = field 2 E_PHNUM_PLACE bytes;
  e_shentsize = field 2 E_SHENTSIZE_PLACE bytes;
  e_shnum = field 2 E_SHNUM_PLACE bytes;
  e_shstrndx = field 2 E_SHSTRNDX_PLACE bytes;
}

-- a program header
unfoldable pub segment_at : List ℕ → ℕ → Segment
segment_at bytes at = record {
  p_type = field 4 at bytes;
  p_flags = field 4 (at + 4) bytes;
  p_offset = field 8 (at + 8) bytes;
  p_vaddr = field 8 (at + 16) bytes;
  p_paddr = field 8 (at + 24) bytes;
  p_filesz = field 8 (at + 32) bytes;
  p_memsz = field 8 (at + 40) bytes;
  p_align = field 8 (at + 48) bytes;
}

-- a section header
unfoldable pub section_at : List ℕ → ℕ → Section
section_at bytes at = record {
  sh_name = field 4 at bytes;
  sh_type = field 4 (at + 4) bytes;
  sh_flags = field 8 (at + 8) bytes;
  sh_addr = field 8 (at + 16) bytes;
  sh_offset = field 8 (at + 24) bytes;
  sh_size = field 8 (at + 32) bytes;
  sh_link = field 4 (at + 40) bytes;
  sh_info = field 4 (at + 44) bytes;
  sh_addralign = field 8 (at + 48) bytes;
  sh_entsize = field 8 (at + 56) bytes;
}

-- the bytes of a part of the file
abbrev pub part : List ℕ → Span → List ℕ
part bytes span = slice_range bytes span.at (span.at + span.len)

-- the name at a place of a string table: the bytes there before the first zero byte
unfoldable pub name_at : List ℕ → Span → ℕ → Span
name_at bytes names at = record {
  at = names.at + at;
  len = position_or_len (λ b. b == 0) (drop at (part bytes names));
}

-- a symbol, whose names stand in a string table
unfoldable pub symbol_at : List ℕ → Span → ℕ → Symbol
symbol_at bytes names at = record {
  st_name = name_at bytes names (field 4 at bytes);
  st_info = slice_index bytes (at + 4);
  st_other = slice_index bytes (at + 5);
  st_shndx = field 2 (at + 6) bytes;
  st_value = field 8 (at + 8) bytes;
  st_size = field 8 (at + 16) bytes;
}

-- an entry of a table of relocations with addends
unfoldable pub rela_at : List ℕ → ℕ → Rela
rela_at bytes at = record {
  r_offset = field 8 at bytes;
  r_info = field 8 (at + 8) bytes;
  r_addend = cast_signed w64 (field 8 (at + 16) bytes);
}

-- the n records of a table, one after another from a place on, each of so many bytes
abbrev pub table : {X : Type 0} → (ℕ → X) → ℕ → ℕ → ℕ → List X
table read at size n = map (λ i. read (at + size * i)) (range_with_len 0 n)

-- the program headers
abbrev pub segments_of : List ℕ → Header → List Segment
segments_of bytes h = table (segment_at bytes) h.e_phoff PHENTSIZE h.e_phnum

-- the section headers
abbrev pub sections_of : List ℕ → Header → List Section
sections_of bytes h = table (section_at bytes) h.e_shoff SHENTSIZE h.e_shnum

-- the section is a symbol table
abbrev pub is_symtab : Section → Bool
is_symtab s = s.sh_type == SHT_SYMTAB

-- the symbol table is the first section of its type; its names stand in the section that it is
-- linked to. A file without one has an empty one.
unfoldable pub symbol_table : List Section → SymbolTable
symbol_table sections =
    unwrap_or
    (option_and_then (λ symtab. option_map (λ strtab. record {
      at = symtab.sh_offset;
      count = symtab.sh_size / SYMENTSIZE;
      names = record { at = strtab.sh_offset; len = strtab.sh_size };
    }) (slice_get sections symtab.sh_link)) (find is_symtab sections))
    (record { at = 0; count = 0; names = record { at = 0; len = 0 } })

-- the symbols
abbrev pub symbols_of : List ℕ → SymbolTable → List Symbol
symbols_of bytes t = table (symbol_at bytes t.names) t.at SYMENTSIZE t.count

-- the section is a table of relocations with addends
abbrev pub is_rela : Section → Bool
is_rela s = s.sh_type == SHT_RELA

-- the entries of such a section
abbrev pub relas_in : List ℕ → Section → List Rela
relas_in bytes s = table (rela_at bytes) s.sh_offset RELAENTSIZE (s.sh_size / RELAENTSIZE)

-- the group of section i, which is a table of relocations; any other section has none
abbrev pub group_of : List ℕ → ℕ × Section → List RelaGroupValue
group_of bytes (i, s) =
    if is_rela s
    then record { section = i; target = s.sh_info; relas = relas_in bytes s } ∷ []
    else []

-- the relocations by section; those of an executable file are not read
abbrev pub relas_of : Kind → List ℕ → List Section → List RelaGroupValue
relas_of Exec bytes sections = []
relas_of Rel bytes sections = flat_map (group_of bytes) (enumerate_from 0 sections)
