-- The names of files that are read for patches, and the answers of such reads.
use Rattle.std.specs.Prelude.{◌≡◌, ◌+◌, ◌⊎◌, ℕ, List, [], ◌∷◌, Option, Ok}
use Rattle.wf_outside.specs.Files.{File, first_bytes}
use Rattle.wf_outside.specs.Images.{ImageValue}
use Rattle.patch_file.specs.Patches.{PatchValue}
use Rattle.patch_build.specs.Areas.{BuiltValue}
use Rattle.wf_status.specs.declared.status.Status.{Status}
use Rattle.wf_status.specs.declared.status.Status.TheVariants.{Limit, Memory, Patch, Shelf}
use Rattle.wf_status.specs.declared.status.LimitKind.TheVariants.{File as OfFile}
use Rattle.wf_patches.specs.Bases.{BaseValue, base_over, base_with}
use Rattle.wf_patches.specs.Stages.{file_stage, patch_stage}

-- what is held under a name
abbrev pub held_in : List File → List ℕ → Option (List ℕ)
held_in files name = first_bytes name files

-- P of some name
pub record OfSome (P : List ℕ → Type 0) : Type 0 where
  pub name : List ℕ
  pub is : P name

-- there is a file of a patch under this name, with P of the name of its object
pub record OfObject (held : List ℕ → Option (List ℕ)) (patch : ℕ) (name : List ℕ)
    (P : List ℕ → Type 0) : Type 0 where
  pub file : PatchValue
  pub is : file_stage patch (held name) ≡ Ok file
  pub object : P file.object

-- P of a name that is read for one patch: that of its file, or that of its object
abbrev pub OfRead : (List ℕ → Option (List ℕ)) → ℕ → List ℕ → (List ℕ → Type 0) → Type 0
OfRead held patch name P = P name ⊎ OfObject held patch name P

-- a patch is built, with P of it
pub record OfBuilt (held : List ℕ → Option (List ℕ)) (patch : ℕ) (base : BaseValue)
    (name : List ℕ) (P : BuiltValue → Type 0) : Type 0 where
  pub built : BuiltValue
  pub is : patch_stage held patch base name ≡ Ok built
  pub fits : P built

-- P of a name that is read for patches, up to the first that is none
abbrev pub OfReads : (List ℕ → Option (List ℕ)) → ℕ → BaseValue → List (List ℕ)
    → (List ℕ → Type 0) → Type 0
OfReads held patch base [] P = ⊥
OfReads held patch base (name ∷ names) P =
    OfRead held patch name P
    ⊎ OfBuilt held patch base name
    (λ built. OfReads held (patch + 1) (base_with base built) names P)

-- P of a needed name of the patches of an image
unfoldable pub OfNeeded : (List ℕ → Option (List ℕ)) → ImageValue → List (List ℕ)
    → (List ℕ → Type 0) → Type 0
OfNeeded held image names P = OfReads held 0 (base_over image) names P

-- what the fetch of patches may answer where nothing is known of what is held
abbrev pub MayFetchPatches : Status → Type 0
MayFetchPatches Shelf = Unit {0}
MayFetchPatches Memory = Unit {0}
MayFetchPatches (Limit OfFile number most) = Unit {0}
MayFetchPatches (Patch patch fault) = Unit {0}
MayFetchPatches status = ⊥
