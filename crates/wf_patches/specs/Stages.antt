-- What the files of patches mean over an image: what each patch brings, or the answer of the first
-- stage that fails. The stages of a patch are its file, its object, and what is built of both.
use Rattle.std.specs.Prelude.{ℕ, ◌+◌, List, [], ◌∷◌, Option, Some, None, Result, Ok, Err}
use Rattle.wf_outside.specs.Images.{DeltaValue, ImageValue}
use Rattle.elf_read.specs.declared.elf.Kind.TheVariants.{Rel}
use Rattle.elf_read.specs.declared.fault.ElfFault.{ElfFault}
use Rattle.elf_read.specs.declared.fault.ElfFault.TheVariants as elf
use Rattle.elf_read.specs.Elf.{ElfValue}
use Rattle.elf_read.specs.Records.{header_of, segments_of, sections_of, symbol_table, symbols_of, relas_of}
use Rattle.elf_read.specs.Rules.{first_fault}
use Rattle.elf_link.specs.Results.{or_told}
use Rattle.patch_file.specs.Patches.{PatchValue}
use Rattle.patch_file.specs.Reading.{patch_of}
use Rattle.patch_build.specs.declared.fault.BuildFault.{BuildFault}
use Rattle.patch_build.specs.declared.fault.BuildFault.TheVariants as build
use Rattle.patch_build.specs.Areas.{BuiltValue}
use Rattle.patch_build.specs.Builds.{built_of}
use Rattle.wf_status.specs.declared.patches.PatchWhy.TheVariants as why
use Rattle.wf_status.specs.declared.status.Status.{Status}
use Rattle.wf_status.specs.declared.status.Status.TheVariants.{Memory, Patch}
use Rattle.wf_fetch.specs.Stages.{◌>>=◌, bytes_stage}
use Rattle.wf_patches.specs.Bases.{BaseValue, base_over, base_with}

-- the file of the patch of this number in its bytes, or its first fault
unfoldable pub file_in : ℕ → List ℕ → Result PatchValue Status
file_in patch bytes = or_told (λ line. Patch patch (why.Text line)) (patch_of bytes)

-- the file of a patch
abbrev pub file_stage : ℕ → Option (List ℕ) → Result PatchValue Status
file_stage patch held = do
  bytes ← bytes_stage held
  file_in patch bytes

-- what stands in the bytes of a relocatable file
unfoldable pub object_of : List ℕ → ElfValue
object_of bytes = record {
  kind = Rel;
  bytes = bytes;
  entry = (header_of bytes).e_entry;
  segments = segments_of bytes (header_of bytes);
  sections = sections_of bytes (header_of bytes);
  symbols = symbols_of bytes (symbol_table (sections_of bytes (header_of bytes)));
  relas = relas_of Rel bytes (sections_of bytes (header_of bytes));
}

-- an object, or the first rule that its bytes break, with its place
abbrev pub unless_broken : ℕ → Option ElfFault → ElfValue → Result ElfValue Status
unless_broken patch None object = Ok object
unless_broken patch (Some (elf.Rule rule at)) object = Err (Patch patch (why.Elf rule at))
unless_broken patch (Some elf.Memory) object = Err Memory

-- the object of the patch of this number in its bytes, or the first rule that they break
unfoldable pub object_in : ℕ → List ℕ → Result ElfValue Status
object_in patch bytes = unless_broken patch (first_fault Rel bytes) (object_of bytes)

-- the object of a patch
abbrev pub object_stage : ℕ → Option (List ℕ) → Result ElfValue Status
object_stage patch held = do
  bytes ← bytes_stage held
  object_in patch bytes

-- the answer for a patch that is not built
abbrev pub fault_status : ℕ → BuildFault → Status
fault_status patch (build.Section index rule) = Patch patch (why.Section index rule)
fault_status patch (build.Common symbol) = Patch patch (why.Common symbol)
fault_status patch (build.Area pages) = Patch patch (why.Area pages)
fault_status patch (build.Line line rule) = Patch patch (why.Line line rule)
fault_status patch (build.Link group index rule) = Patch patch (why.Link group index rule)
fault_status patch build.Memory = Memory

-- what is built of a patch over this base, by what is held under each name
unfoldable pub patch_stage : (List ℕ → Option (List ℕ)) → ℕ → BaseValue → List ℕ
    → Result BuiltValue Status
patch_stage held patch base name = do
  file ← file_stage patch (held name)
  object ← object_stage patch (held file.object)
  or_told (fault_status patch) (built_of file object base.names base.area)

-- what the patches of these names bring, the first of which has this number, each built over the
-- base and those before it
abbrev pub patches_from : (List ℕ → Option (List ℕ)) → ℕ → BaseValue → List (List ℕ)
    → Result (List DeltaValue) Status
patches_from held patch base [] = Ok []
patches_from held patch base (name ∷ names) = do
  built ← patch_stage held patch base name
  deltas ← patches_from held (patch + 1) (base_with base built) names
  Ok (built.delta ∷ deltas)

-- what the patches of these names bring to an image
unfoldable pub patches_stage : (List ℕ → Option (List ℕ)) → ImageValue → List (List ℕ)
    → Result (List DeltaValue) Status
patches_stage held image names = patches_from held 0 (base_over image) names
