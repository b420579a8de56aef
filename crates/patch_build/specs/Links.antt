-- The sections of a patch as relocated.
use Rattle.std.specs.Prelude.{◌≡◌, ◌≤◌, ℕ, ◌+◌, ◌==◌, if◌then◌else◌, List, [], ◌∷◌, Option, Some, None, Result, Ok, Err, IsSome, slice_get, length, true}
use Rattle.std.specs.List.{AllZip}
use Rattle.std.specs.Option.{option_and_then, option_or}
use Rattle.elf_read.specs.declared.records.Section.{Section}
use Rattle.elf_read.specs.Elf.{ElfValue}
use Rattle.elf_read.specs.Relas.{RelaGroupValue}
use Rattle.elf_syms.specs.Names.{NamesValue}
use Rattle.elf_link.specs.declared.fault.LinkFault.{LinkFault}
use Rattle.elf_link.specs.declared.fault.LinkFault.TheVariants as link
use Rattle.elf_link.specs.Applied.{relocated}
use Rattle.elf_link.specs.Links.{link_of, place_of}
use Rattle.patch_build.specs.declared.fault.BuildFault.{BuildFault}
use Rattle.patch_build.specs.declared.fault.BuildFault.TheVariants as build
use Rattle.patch_build.specs.Sections.{is_loaded}

-- a section after relocation: its bytes, or the first of its entries that can't be applied
pub record LinkedValue : Type 0 where
  pub bytes : List ℕ
  pub fault : Option LinkFault

-- the same, of what relocation gives
abbrev pub linked_as : Result (List ℕ) LinkFault → LinkedValue
linked_as (Ok bytes) = record { bytes = bytes; fault = None }
linked_as (Err fault) = record { bytes = []; fault = Some fault }

-- the section with this number, relocated where it is loaded
abbrev pub linked_at : ElfValue → List (Option ℕ) → NamesValue → ℕ → Section → LinkedValue
linked_at object places names n s =
    if is_loaded s
    then linked_as (relocated (link_of object places names n))
    else record { bytes = []; fault = None }

-- these sections, the first of which has this number
abbrev pub linked_from : ElfValue → List (Option ℕ) → NamesValue → ℕ → List Section
    → List LinkedValue
linked_from object places names n [] = []
linked_from object places names n (s ∷ ss) =
    linked_at object places names n s ∷ linked_from object places names (n + 1) ss

-- each section of an object, by number
abbrev pub linked_of : ElfValue → List (Option ℕ) → NamesValue → List LinkedValue
linked_of object places names = linked_from object places names 0 object.sections

-- the fault of a section, where it stands in this relocation section
abbrev pub fault_in : ℕ → Option LinkFault → Option BuildFault
fault_in group None = None
fault_in group (Some link.Memory) = None
fault_in group (Some (link.Rule section index rule)) =
    if section == group then Some (build.Link section index rule) else None

-- the fault of the section that a relocation section changes, where it stands in that
abbrev pub group_fault : List LinkedValue → RelaGroupValue → Option BuildFault
group_fault linked g =
    option_and_then (λ l. fault_in g.section l.fault) (slice_get linked g.target)

-- the first entry that can't be applied, relocation section by relocation section
abbrev pub link_fault : List LinkedValue → List RelaGroupValue → Option BuildFault
link_fault linked [] = None
link_fault linked (g ∷ gs) = option_or (group_fault linked g) (link_fault linked gs)

-- each section that is loaded has a place
abbrev pub HasPlaces : List Section → List (Option ℕ) → Type 0
HasPlaces sections places = (n : ℕ) (s : Section)
    → slice_get sections n ≡ Some s → is_loaded s ≡ true → IsSome (place_of places n)

-- no section that is loaded has more bytes than it is to have
abbrev pub AreSized : List Section → List LinkedValue → Type 0
AreSized sections linked =
    AllZip (λ s l. is_loaded s ≡ true → length l.bytes ≤ s.sh_size) sections linked
