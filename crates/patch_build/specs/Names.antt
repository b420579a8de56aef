-- The names of a patch (System V ABI, "Symbol Table").
use Rattle.std.specs.Prelude.{ℕ, ◌+◌, ◌%◌, ◌/◌, ◌^◌, ◌==◌, ◌&&◌, Bool, false, not, if◌then◌else◌, List, [], ◌∷◌, Option, None, Some, nat_lt, slice_get, unwrap_or}
use Rattle.std.specs.Option.{option_map_or}
use Rattle.wf_outside.specs.declared.image.Name.{Name}
use Rattle.elf_read.specs.declared.constants.TheConstants.{SHN_UNDEF, SHN_ABS, SHN_COMMON, STB_LOCAL}
use Rattle.elf_read.specs.declared.records.Section.{Section}
use Rattle.elf_read.specs.declared.records.Symbol.{Symbol}
use Rattle.elf_read.specs.Elf.{ElfValue}
use Rattle.elf_link.specs.Links.{place_of}
use Rattle.elf_link.specs.Symbols.{symbol_name}
use Rattle.patch_build.specs.declared.fault.BuildFault.{BuildFault}
use Rattle.patch_build.specs.declared.fault.BuildFault.TheVariants as build
use Rattle.patch_build.specs.declared.naming.Wanted.{Wanted}
use Rattle.patch_build.specs.declared.naming.Wanted.TheVariants.{Every, Functions}
use Rattle.patch_build.specs.declared.region.Region.TheVariants.{Text}
use Rattle.patch_build.specs.Sections.{is_loaded, is_of}

-- the first of these symbols that is still to be given a place, st_shndx SHN_COMMON; the first one
-- has this number
abbrev pub common_fault : ℕ → List Symbol → Option BuildFault
common_fault n [] = None
common_fault n (y ∷ ys) =
    if y.st_shndx == SHN_COMMON then Some (build.Common n) else common_fault (n + 1) ys

-- the sections whose names are wanted: all that are loaded, or those of text alone
abbrev pub is_wanted : Wanted → Section → Bool
is_wanted Every s = is_loaded s
is_wanted Functions s = is_of Text s

-- a symbol has a name, and is in such a section: its st_shndx is the number of one
abbrev pub is_named : Wanted → List Section → Symbol → Bool
is_named wanted sections y =
    nat_lt 0 y.st_name.len
    && not (y.st_shndx == SHN_UNDEF)
    && not (y.st_shndx == SHN_ABS)
    && option_map_or (is_wanted wanted) (slice_get sections y.st_shndx) false

-- the address of the symbol with this number, as relocations take it: its value behind its
-- section's address, and 0 for symbol 0
abbrev pub address_at : List (Option ℕ) → ℕ → Symbol → ℕ
address_at places n y =
    if n == 0 then 0 else (unwrap_or (place_of places y.st_shndx) 0 + y.st_value) % 2 ^ 64

-- the name of the symbol with this number
abbrev pub name_at : List ℕ → List (Option ℕ) → ℕ → Symbol → Name
name_at file places n y = record {
  name = symbol_name file y;
  addr = address_at places n y;
  size = y.st_size;
  global = not (y.st_info / 16 == STB_LOCAL);
}

-- the wanted names among these symbols, in their order; the first symbol has this number
abbrev pub names_from : Wanted → ElfValue → List (Option ℕ) → ℕ → List Symbol → List Name
names_from wanted object places n [] = []
names_from wanted object places n (y ∷ ys) =
    if is_named wanted object.sections y
    then name_at object.bytes places n y ∷ names_from wanted object places (n + 1) ys
    else names_from wanted object places (n + 1) ys

-- the wanted names of an object whose sections stand at these places
abbrev pub names_of : Wanted → ElfValue → List (Option ℕ) → List Name
names_of wanted object places = names_from wanted object places 0 object.symbols
