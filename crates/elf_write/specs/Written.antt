-- The file that holds a module, and which modules have one.
use Rattle.std.specs.Prelude.{◌≡◌, ◌≤◌, ◌<◌, ◌^◌, ◌+◌, ℕ, ◌==◌, ◌++◌, List, [], ◌∷◌, All, length, if◌then◌else◌}
use Rattle.std.specs.List.{flat_map}
use Rattle.elf_read.specs.declared.records.Segment.{Segment}
use Rattle.elf_read.specs.declared.records.Section.{Section}
use Rattle.elf_read.specs.declared.constants.TheConstants.{ET_EXEC, ET_REL, EM_RISCV, EV_CURRENT}
use Rattle.elf_write.specs.declared.layout.Layout.{Layout}
use Rattle.elf_write.specs.declared.layout.Plan.{Plan}
use Rattle.elf_write.specs.declared.module.Form.{Form}
use Rattle.elf_write.specs.declared.module.Form.TheVariants.{Exec, Object}
use Rattle.elf_write.specs.Layout.{file_length, plan_of}
use Rattle.elf_write.specs.Modules.{ModuleValue}
use Rattle.elf_write.specs.Names.{section_names, table_count}
use Rattle.elf_write.specs.Parts.{locals, rela_bytes, strings, symbol_table, undefined, AreBySection, AreInOrder, AreLinked, IsSymbol}
use Rattle.elf_write.specs.Places.{halves, placed, words, xwords}
use Rattle.elf_write.specs.Records.{program_sections, rela_sections, section_bytes, segment_bytes, segments_of, table_sections}

-- the segments of a module with this plan
abbrev pub segments_in : Plan → List Segment
segments_in p = segments_of p.form p.sizes p.layout p.bases

-- the sections of a module with this plan and so many local symbols
abbrev pub sections_in : Plan → ℕ → List Section
sections_in p locals =
    program_sections p.sizes p.layout p.bases
    ++ rela_sections p.sizes p.layout
    ++ table_sections p.sizes p.layout locals

-- e_type
unfoldable pub type_of : Form → ℕ
type_of Exec = ET_EXEC
type_of Object = ET_REL

-- a field of the header that is 0 in a file without segments
abbrev pub if_segments : ℕ → ℕ → ℕ
if_segments count number = if count == 0 then 0 else number

-- The header, to e_entry: the first 16 bytes say ELF, 64 bits, the lowest byte first, version 1
-- and no system.
abbrev pub target_bytes : Form → ℕ → List ℕ
target_bytes form entry =
    (0x7F ∷ 0x45 ∷ 0x4C ∷ 0x46 ∷ 2 ∷ 1 ∷ 1 ∷ 0 ∷ 0 ∷ 0 ∷ 0 ∷ 0 ∷ 0 ∷ 0 ∷ 0 ∷ 0 ∷ [])
    ++ halves (type_of form ∷ EM_RISCV ∷ [])
    ++ words (EV_CURRENT ∷ [])
    ++ xwords (entry ∷ [])

-- The header from e_phoff on, of a file with so many segments and sections, the names of which are
-- in one of them: e_phoff, e_shoff; e_flags; e_ehsize, e_phentsize, e_phnum, e_shentsize, e_shnum
-- and e_shstrndx.
abbrev pub table_bytes : ℕ → ℕ → ℕ → ℕ → List ℕ
table_bytes segments headers sections names =
    xwords (if_segments segments 64 ∷ headers ∷ [])
    ++ words (0 ∷ [])
    ++ halves (64 ∷ if_segments segments 56 ∷ segments ∷ 64 ∷ sections ∷ names ∷ [])

-- the header and the headers of the segments; the names of the sections are in the last one
unfoldable pub front_bytes : Plan → ℕ → List Segment → List ℕ
front_bytes p entry segments =
    let tables = table_count p.sizes in
    target_bytes p.form entry
    ++ table_bytes (length segments) p.layout.headers (8 + tables) (7 + tables)
    ++ flat_map segment_bytes segments

-- the contents of the sections and the relocations behind them
abbrev pub with_contents : ModuleValue → Layout → List ℕ → List ℕ
with_contents m l front =
    placed l.relas (flat_map rela_bytes m.relas)
    (placed l.rwdata m.rwdata (placed l.rodata m.rodata (placed l.text m.text front)))

-- the symbols, their names, the names of the sections and the headers of the sections behind them
abbrev pub with_tables : Layout → List ℕ → List ℕ → List ℕ → List ℕ → List ℕ → List ℕ
with_tables l symbols names sections headers front =
    placed l.headers headers
    (placed l.shstrtab sections (placed l.strtab names (placed l.symtab symbols front)))

-- The file that holds a module with this plan: header, headers of segments, contents, relocations,
-- symbols, their names, the names of the sections, and the headers of the sections, each part at
-- its place.
unfoldable pub written_by : Plan → ModuleValue → List ℕ
written_by p m =
    with_tables p.layout (symbol_table m.symbols) (strings m.symbols) (section_names p.sizes)
    (flat_map section_bytes (sections_in p (length (locals m.symbols))))
    (with_contents m p.layout (front_bytes p m.entry (segments_in p)))

-- the file that holds a module
abbrev pub written : ModuleValue → List ℕ
written m = written_by (plan_of m) m

-- an executable file has nothing left to be linked, and an object has no entry
abbrev pub FitsForm : Form → ModuleValue → Type 0
FitsForm Exec m = (m.relas ≡ []) × (undefined m.symbols ≡ [])
FitsForm Object m = m.entry ≡ 0

-- What a module keeps that has a file: the symbols stand in its sections or in other files, in
-- their order, under names without zero bytes; the relocations stand by their sections, and their
-- symbols are there; it fits its form; and .bss and the file are not too long.
pub record IsWritable (m : ModuleValue) : Type 0 where
  pub order : AreInOrder m.symbols
  pub symbols : All IsSymbol m.symbols
  pub by_section : AreBySection m.relas
  pub linked : AreLinked (length m.symbols) m.relas
  pub form : FitsForm m.form m
  pub bss : m.bss ≤ 2 ^ 32
  pub length : file_length m < 2 ^ 32
