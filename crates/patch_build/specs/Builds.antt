-- What is built of a patch's file and its object, over an area, or why nothing is.
use Rattle.std.specs.Prelude.{◌≡◌, ◌⊎◌, ℕ, List, [], Option, Some, None, Result, Ok, Err}
use Rattle.wf_outside.specs.declared.image.Jump.{Jump}
use Rattle.elf_read.specs.Elf.{ElfValue}
use Rattle.elf_syms.specs.Names.{NamesValue}
use Rattle.elf_syms.specs.Telling.{told_of}
use Rattle.elf_link.specs.Results.{and_then}
use Rattle.patch_file.specs.Patches.{PatchValue}
use Rattle.patch_build.specs.declared.fault.BuildFault.{BuildFault}
use Rattle.patch_build.specs.declared.fault.BuildFault.TheVariants.{Memory}
use Rattle.patch_build.specs.declared.layout.Starts.{Starts}
use Rattle.patch_build.specs.declared.naming.Wanted.TheVariants.{Every, Functions}
use Rattle.patch_build.specs.Areas.{AreaValue, BuiltValue}
use Rattle.patch_build.specs.Jumps.{jumps_behind}
use Rattle.patch_build.specs.Layout.{area_fault, places_of, starts_of}
use Rattle.patch_build.specs.Links.{LinkedValue, linked_of, link_fault}
use Rattle.patch_build.specs.Names.{common_fault, names_of}
use Rattle.patch_build.specs.Pages.{delta_with}
use Rattle.patch_build.specs.Sections.{section_fault}

-- a value, where there is no fault
abbrev pub unless_fault : {A : Type 0} → Option BuildFault → Result A BuildFault
    → Result A BuildFault
unless_fault None r = r
unless_fault (Some fault) r = Err fault

-- what is built of an object whose sections are relocated at these places, with these jumps
unfoldable pub built_with : ElfValue → Starts → List (Option ℕ) → List LinkedValue → List Jump
    → BuiltValue
built_with object starts places linked jumps = record {
  delta = delta_with starts object.sections linked jumps;
  names = names_of Every object places;
  next = starts.end;
}

-- what is built of an object whose sections stand at these places: first its lines make jumps, and
-- then its sections are relocated
unfoldable pub built_at : PatchValue → ElfValue → NamesValue → AreaValue → Starts
    → List (Option ℕ) → Result BuiltValue BuildFault
built_at patch object names area starts places =
    and_then
    (jumps_behind (told_of (names_of Functions object places)) names area [] patch.replaces)
    (λ jumps. unless_fault (link_fault (linked_of object places names) object.relas)
    (Ok (built_with object starts places (linked_of object places names) jumps)))

-- What is built of a patch's file and its object, or the first fault: of sections, of symbols, of
-- the area, of lines, of relocations.
unfoldable pub built_of : PatchValue → ElfValue → NamesValue → AreaValue
    → Result BuiltValue BuildFault
built_of patch object names area =
    unless_fault (section_fault 0 object.sections)
    (unless_fault (common_fault 0 object.symbols)
    (unless_fault (area_fault area.next object.sections)
    (built_at patch object names area (starts_of area.next object.sections)
    (places_of (starts_of area.next object.sections) object.sections))))

-- the fault is that of the definition, or want of memory
abbrev pub IsFault : {A : Type 0} → Result A BuildFault → BuildFault → Type 0
IsFault expected fault = (fault ≡ Memory) ⊎ (expected ≡ Err fault)

-- the fault is one that was found, or want of memory
abbrev pub IsFound : Option BuildFault → BuildFault → Type 0
IsFound found fault = (fault ≡ Memory) ⊎ (found ≡ Some fault)
