-- The headers of segments and sections in a file (System V ABI, "Program Header" and "Section
-- Header").
use Rattle.std.specs.Prelude.{ℕ, ◌+◌, ◌-◌, ◌*◌, ◌==◌, List, [], ◌∷◌, ◌++◌, length, if◌then◌else◌}
use Rattle.elf_read.specs.declared.records.Segment.{Segment}
use Rattle.elf_read.specs.declared.records.Section.{Section}
use Rattle.elf_read.specs.declared.constants.TheConstants.{PT_LOAD, PF_X, PF_W, PF_R, SHT_NULL, SHT_PROGBITS, SHT_SYMTAB, SHT_STRTAB, SHT_NOBITS, SHT_RELA}
use Rattle.elf_write.specs.declared.constants.TheConstants.{SHF_WRITE, SHF_ALLOC, SHF_EXECINSTR, SHF_INFO_LINK}
use Rattle.elf_write.specs.declared.layout.Bases.{Bases}
use Rattle.elf_write.specs.declared.layout.Layout.{Layout}
use Rattle.elf_write.specs.declared.layout.Sizes.{Sizes}
use Rattle.elf_write.specs.declared.module.Form.{Form}
use Rattle.elf_write.specs.declared.module.Form.TheVariants.{Exec, Object}
use Rattle.elf_write.specs.Names.{name_places, section_names, table_count}
use Rattle.elf_write.specs.Places.{if_any, words, xwords}

-- the bytes of a program header
unfoldable pub segment_bytes : Segment → List ℕ
segment_bytes s =
    words (s.p_type ∷ s.p_flags ∷ [])
    ++ xwords (s.p_offset ∷ s.p_vaddr ∷ s.p_paddr ∷ s.p_filesz ∷ s.p_memsz ∷ s.p_align ∷ [])

-- the bytes of a section header: to sh_size, and from sh_link on
unfoldable pub section_front : Section → List ℕ
section_front s =
    words (s.sh_name ∷ s.sh_type ∷ [])
    ++ xwords (s.sh_flags ∷ s.sh_addr ∷ s.sh_offset ∷ s.sh_size ∷ [])

-- the last four fields of a section header
unfoldable pub section_back : Section → List ℕ
section_back s =
    words (s.sh_link ∷ s.sh_info ∷ []) ++ xwords (s.sh_addralign ∷ s.sh_entsize ∷ [])

-- a section header
abbrev pub section_bytes : Section → List ℕ
section_bytes s = section_front s ++ section_back s

-- a segment to be loaded, with rights, from a place of the file to an address, of so many bytes
-- there and in memory
abbrev pub load : ℕ → ℕ → ℕ → ℕ → ℕ → Segment
load rights offset addr filesz memsz = record {
  p_type = PT_LOAD;
  p_flags = rights;
  p_offset = offset;
  p_vaddr = addr;
  p_paddr = addr;
  p_filesz = filesz;
  p_memsz = memsz;
  p_align = 4096;
}

-- the memory of the segment of .data: its bytes, and .bss behind them
abbrev pub data_memory : Sizes → Bases → ℕ
data_memory s bases = if s.bss == 0 then s.rwdata else bases.bss + s.bss - bases.rwdata

-- where the bytes of .data stand; nothing stands at place 0
abbrev pub data_place : Sizes → Layout → ℕ
data_place s l = if s.rwdata == 0 then 0 else l.rwdata

-- the segments: of .text, of .rodata, and of .data with .bss; an object has none
unfoldable pub segments_of : Form → Sizes → Layout → Bases → List Segment
segments_of Exec s l bases =
    if_any s.text (load (PF_R + PF_X) l.text bases.text s.text s.text)
    ++ if_any s.rodata (load PF_R l.rodata bases.rodata s.rodata s.rodata)
    ++ if_any (s.rwdata + s.bss)
    (load (PF_R + PF_W) (data_place s l) bases.rwdata s.rwdata (data_memory s bases))
segments_of Object s l bases = []

-- a section that is loaded: where its name stands, its type, rights, address, place and size
abbrev pub contents : ℕ → ℕ → ℕ → ℕ → ℕ → ℕ → Section
contents name kind rights addr offset size = record {
  sh_name = name;
  sh_type = kind;
  sh_flags = rights;
  sh_addr = addr;
  sh_offset = offset;
  sh_size = size;
  sh_link = 0;
  sh_info = 0;
  sh_addralign = 8;
  sh_entsize = 0;
}

-- section 0
abbrev pub null_section : Section
null_section = record {
  sh_name = 0;
  sh_type = SHT_NULL;
  sh_flags = 0;
  sh_addr = 0;
  sh_offset = 0;
  sh_size = 0;
  sh_link = 0;
  sh_info = 0;
  sh_addralign = 0;
  sh_entsize = 0;
}

-- Where sections of relocations are, so many: .symtab is section 5 + tables, behind .bss and them;
-- its names are in the next section, and so many symbols behind symbol 0 are local.
abbrev pub symtab_section : ℕ → ℕ → ℕ → ℕ → ℕ → Section
symtab_section tables name offset size locals = record {
  sh_name = name;
  sh_type = SHT_SYMTAB;
  sh_flags = 0;
  sh_addr = 0;
  sh_offset = offset;
  sh_size = size;
  sh_link = 6 + tables;
  sh_info = 1 + locals;
  sh_addralign = 8;
  sh_entsize = 24;
}

-- so many relocations of a section, whose symbols are in .symtab
abbrev pub rela_section : ℕ → ℕ → ℕ → ℕ → ℕ → Section
rela_section tables name offset count target = record {
  sh_name = name;
  sh_type = SHT_RELA;
  sh_flags = SHF_INFO_LINK;
  sh_addr = 0;
  sh_offset = offset;
  sh_size = 24 * count;
  sh_link = 5 + tables;
  sh_info = target;
  sh_addralign = 8;
  sh_entsize = 24;
}

-- The sections that the program has: null, .text, .rodata, .data and .bss, whose names stand in
-- .shstrtab at 1, 7, 15 and 21.
unfoldable pub program_sections : Sizes → Layout → Bases → List Section
program_sections s l bases =
    null_section
    ∷ contents 1 SHT_PROGBITS (SHF_ALLOC + SHF_EXECINSTR) bases.text l.text s.text
    ∷ contents 7 SHT_PROGBITS SHF_ALLOC bases.rodata l.rodata s.rodata
    ∷ contents 15 SHT_PROGBITS (SHF_WRITE + SHF_ALLOC) bases.rwdata l.rwdata s.rwdata
    ∷ contents 21 SHT_NOBITS (SHF_WRITE + SHF_ALLOC) bases.bss (l.rwdata + s.rwdata) s.bss
    ∷ []

-- those of relocations: .rela.text, .rela.rodata and .rela.data, each where it has entries
unfoldable pub rela_sections : Sizes → Layout → List Section
rela_sections s l =
    let tables = table_count s in
    let names = name_places s in
    let rodata = l.relas + 24 * s.text_relas in
    let rwdata = rodata + 24 * s.rodata_relas in
    if_any s.text_relas (rela_section tables 26 l.relas s.text_relas 1)
    ++ if_any s.rodata_relas (rela_section tables names.rodata rodata s.rodata_relas 2)
    ++ if_any s.rwdata_relas (rela_section tables names.rwdata rwdata s.rwdata_relas 3)

-- .symtab, .strtab and .shstrtab; so many symbols are local
unfoldable pub table_sections : Sizes → Layout → ℕ → List Section
table_sections s l locals =
    let name = (name_places s).symtab in
    symtab_section (table_count s) name l.symtab (24 * (s.symbols + 1)) locals
    ∷ contents (name + 8) SHT_STRTAB 0 0 l.strtab s.strings
    ∷ contents (name + 16) SHT_STRTAB 0 0 l.shstrtab (length (section_names s))
    ∷ []
