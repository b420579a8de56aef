-- The jumps of patches that were built.
use Rattle.std.specs.Prelude.{ℕ, List, [], ◌∷◌, ◌++◌, Option, Ok, false, ◌≡◌, ◌⊎◌, ◌%◌}
use Rattle.std.specs.List.{AllByRecursion}
use Rattle.rv_encode.specs.Jumps.{CanJump, jump_bytes}
use Rattle.elf_read.specs.Elf.{ElfValue}
use Rattle.elf_syms.specs.Names.{NamesValue}
use Rattle.wf_outside.specs.declared.image.Jump.{Jump}
use Rattle.wf_outside.specs.Images.{DeltaValue, ImageValue}
use Rattle.patch_file.specs.Patches.{PatchValue}
use Rattle.patch_build.specs.Areas.{AreaValue, BuiltValue}
use Rattle.patch_build.specs.Builds.{built_of}
use Rattle.patch_build.specs.Fits.{FitBehind}
use Rattle.patch_build.specs.Jumps.{overlap}
use Rattle.wf_patches.specs.Stages.{patches_stage}

-- a jump is at a multiple of 4, and its bytes are those of a jump to an address that it can lead to
pub record IsBuiltJump (jump : Jump) : Type 0 where
  pub even : jump.at % 4 ≡ 0
  pub to : ℕ
  pub reach : CanJump jump.at to
  pub bytes : jump.bytes ≡ jump_bytes jump.at to

-- each jump of each patch is so
abbrev pub AreBuiltJumps : List DeltaValue → Type 0
AreBuiltJumps deltas =
    AllByRecursion (λ delta. AllByRecursion IsBuiltJump delta.jumps) deltas

-- a patch is what is built of some file and its object, over some names and area
pub record IsBuilt (delta : DeltaValue) : Type 0 where
  pub patch : PatchValue
  pub object : ElfValue
  pub names : NamesValue
  pub area : AreaValue
  pub built : BuiltValue
  pub is : built_of patch object names area ≡ Ok built
  pub brings : built.delta ≡ delta

-- The jumps of patches that were built are at multiples of 4, and have the bytes of jumps.
abbrev pub BuiltPatchesHaveBuiltJumps : Type 0
BuiltPatchesHaveBuiltJumps =
    (deltas : List DeltaValue) → AllByRecursion IsBuilt deltas → AreBuiltJumps deltas

-- So are the jumps of the patches that files mean over an image.
abbrev pub FilesBringBuiltJumps : Type 0
FilesBringBuiltJumps =
    (held : List ℕ → Option (List ℕ)) (image : ImageValue) (names : List (List ℕ))
    (deltas : List DeltaValue)
    → patches_stage held image names ≡ Ok deltas → AreBuiltJumps deltas

-- the jumps of all patches
abbrev pub all_jumps : List DeltaValue → List Jump
all_jumps [] = []
all_jumps (delta ∷ deltas) = delta.jumps ++ all_jumps deltas

-- a jump at an address begins at the same byte as another, or shares none with it
abbrev pub IsClear : ℕ → Jump → Type 0
IsClear at other = (at ≡ other.at) ⊎ (overlap at other.at ≡ false)

-- a jump is so with each of these
abbrev pub IsClearOf : List Jump → Jump → Type 0
IsClearOf jumps jump = AllByRecursion (IsClear jump.at) jumps

-- No two jumps of patches that fit one behind the other overlap in part.
abbrev pub FittingJumpsAreClear : Type 0
FittingJumpsAreClear =
    (area : AreaValue) (deltas : List DeltaValue) → FitBehind area deltas
    → AllByRecursion (IsClearOf (all_jumps deltas)) (all_jumps deltas)
