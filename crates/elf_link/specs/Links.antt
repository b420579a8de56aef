-- What a section is linked with.
use Rattle.std.specs.Prelude.{◌≡◌, ◌≤◌, ◌+◌, ◌==◌, ◌||◌, ℕ, List, [], Option, Some, replicate, slice_get, slice_range, unwrap_or, if◌then◌else◌}
use Rattle.std.specs.List.{filter, flat_map}
use Rattle.std.specs.Option.{option_and_then, option_map_or}
use Rattle.elf_read.specs.declared.records.Rela.{Rela}
use Rattle.elf_read.specs.declared.records.Section.{Section}
use Rattle.elf_read.specs.declared.constants.TheConstants.{SHT_NULL, SHT_NOBITS}
use Rattle.elf_read.specs.Elf.{ElfValue}
use Rattle.elf_syms.specs.Names.{NamesValue}
use Rattle.wf_outside.specs.declared.sizes.TheConstants.{DATA_END}

-- a section of an object that is linked: the object, the address of each of its sections that is
-- loaded, by number, what is found of names, and the number of the section
pub record LinkValue : Type 0 where
  pub object : ElfValue
  pub places : List (Option ℕ)
  pub names : NamesValue
  pub section : ℕ

-- the same, of what `relocate` is given
abbrev pub link_of : ElfValue → List (Option ℕ) → NamesValue → ℕ → LinkValue
link_of object places names section =
    record { object = object; places = places; names = names; section = section }

-- the address of the section with this number, where it is loaded
abbrev pub place_of : List (Option ℕ) → ℕ → Option ℕ
place_of places n = option_and_then (λ place. place) (slice_get places n)

-- the address of the section that is linked
abbrev pub place_in : LinkValue → ℕ
place_in link = unwrap_or (place_of link.places link.section) 0

-- the entries for a section: those of the relocation sections that have it as target, by number
abbrev pub relas_for : ElfValue → ℕ → List Rela
relas_for elf section = flat_map (λ g. g.relas) (filter (λ g. g.target == section) elf.relas)

-- the entries for the section that is linked
abbrev pub relas_in : LinkValue → List Rela
relas_in link = relas_for link.object link.section

-- the bytes of a section: zeros where it is of type NULL or NOBITS, else those of its part of the
-- file (System V ABI, "Section Header")
abbrev pub bytes_of : List ℕ → Section → List ℕ
bytes_of file s =
    if s.sh_type == SHT_NULL || s.sh_type == SHT_NOBITS
    then replicate s.sh_size 0
    else slice_range file s.sh_offset (s.sh_offset + s.sh_size)

-- the bytes of the section with this number
abbrev pub contents_of : ElfValue → ℕ → List ℕ
contents_of elf n = option_map_or (bytes_of elf.bytes) (slice_get elf.sections n) []

-- how many bytes the section with this number has
abbrev pub size_of : ElfValue → ℕ → ℕ
size_of elf n = option_map_or (λ s. s.sh_size) (slice_get elf.sections n) 0

-- each section that is loaded ends at or below the first address past those of data
abbrev pub AreLow : List (Option ℕ) → List Section → Type 0
AreLow places sections = (n place : ℕ) (s : Section)
    → place_of places n ≡ Some place → slice_get sections n ≡ Some s → place + s.sh_size ≤ DATA_END
