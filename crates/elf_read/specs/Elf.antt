-- Files that were read, without where they lie in memory.
use Rattle.std.specs.Prelude.{◌≡◌, ◌<◌, ◌≤◌, ◌+◌, ◌*◌, ◌^◌, ◌⊎◌, ℕ, List, All, EachIndex, length}
use Rattle.elf_read.specs.declared.elf.Kind.{Kind}
use Rattle.elf_read.specs.declared.header.Header.{Header}
use Rattle.elf_read.specs.declared.records.Segment.{Segment}
use Rattle.elf_read.specs.declared.records.Section.{Section}
use Rattle.elf_read.specs.declared.records.Symbol.{Symbol}
use Rattle.elf_read.specs.declared.constants.TheConstants.{PHENTSIZE, PT_LOAD, SHN_LORESERVE, SHT_NOBITS, SHT_NULL}
use Rattle.elf_read.specs.Records.{header_of, segments_of, sections_of, symbol_table, symbols_of, relas_of}
use Rattle.elf_read.specs.Relas.{RelaGroupValue, IsRooted}

-- a file that was read, as clauses see it: its kind and its bytes, the address at which the program
-- begins, and the records of its tables
pub record ElfValue : Type 0 where
  pub kind : Kind
  pub bytes : List ℕ
  pub entry : ℕ
  pub segments : List Segment
  pub sections : List Section
  pub symbols : List Symbol
  pub relas : List RelaGroupValue

-- a file of this kind stands in these bytes
pub record IsElf (kind : Kind) (bytes : List ℕ) (elf : ElfValue) : Type 0 where
  pub told : elf.kind ≡ kind
  pub whole : elf.bytes ≡ bytes
  pub entry : elf.entry ≡ (header_of bytes).e_entry
  pub segments : elf.segments ≡ segments_of bytes (header_of bytes)
  pub sections : elf.sections ≡ sections_of bytes (header_of bytes)
  pub symbols : elf.symbols ≡ symbols_of bytes (symbol_table elf.sections)
  pub relas : elf.relas ≡ relas_of kind bytes elf.sections

-- where the header of segment i stands in the file
abbrev pub segment_place : List ℕ → ℕ → ℕ
segment_place bytes i = (header_of bytes).e_phoff + PHENTSIZE * i

-- the segment's part of a file of so many bytes lies there, it has memory for that part, and its
-- memory ends at 2 ^ 64 or below
pub record IsInFile (size : ℕ) (s : Segment) : Type 0 where
  pub in_file : s.p_offset + s.p_filesz ≤ size
  pub in_memory : s.p_filesz ≤ s.p_memsz
  pub in_space : s.p_vaddr + s.p_memsz ≤ 2 ^ 64

-- a segment that is to be loaded, PT_LOAD, lies in a file of so many bytes
abbrev pub FitsFile : ℕ → Segment → Type 0
FitsFile size s = s.p_type ≡ PT_LOAD → IsInFile size s

-- a section lies in a file of so many bytes, but for one of type NULL or NOBITS, which has none
-- there
abbrev pub LiesInFile : ℕ → Section → Type 0
LiesInFile size s =
    (s.sh_type ≡ SHT_NULL) ⊎ (s.sh_type ≡ SHT_NOBITS) ⊎ (s.sh_offset + s.sh_size ≤ size)

-- the name lies in a file of so many bytes, and a byte follows it there
abbrev pub IsNamed : ℕ → Symbol → Type 0
IsNamed size s = s.st_name.at + s.st_name.len < size

-- a symbol's section is one of so many, or has a number that is kept for a meaning of its own
abbrev pub HasHome : ℕ → Symbol → Type 0
HasHome sections s = (s.st_shndx < sections) ⊎ (SHN_LORESERVE ≤ s.st_shndx)

-- what a file keeps that was read
pub record IsKept (bytes : List ℕ) (h : Header) (segments : List Segment) (sections : List Section)
    (symbols : List Symbol) (relas : List RelaGroupValue) : Type 0 where
  pub few : length bytes < 2 ^ 32
  pub few_sections : length sections < 2 ^ 32
  pub few_symbols : length symbols < 2 ^ 32
  pub header : h ≡ header_of bytes
  pub places : EachIndex segments (λ i. segment_place bytes i + PHENTSIZE ≤ length bytes)
  pub fit : All (FitsFile (length bytes)) segments
  pub lie : All (LiesInFile (length bytes)) sections
  pub named : All (IsNamed (length bytes)) symbols
  pub homes : All (HasHome (length sections)) symbols
  pub rooted : All (IsRooted (length sections) (length symbols)) relas
