-- Stages over bases that are the same, and what bytes mean.
use Rattle.std.proofs.Common.{◌≡◌, ◌+◌, ℕ, List, [], ◌∷◌, Option, Result, Ok, refl, ap, sym, ◌∙◌, inl, inr}
use Rattle.std.proofs.Math.Path.{fun_ext}
use Rattle.wf_outside.specs.Images.{DeltaValue}
use Rattle.elf_link.specs.Results.{or_told}
use Rattle.elf_read.specs.Elf.{ElfValue}
use Rattle.patch_file.specs.Patches.{PatchValue}
use Rattle.patch_build.specs.declared.fault.BuildFault.{BuildFault}
use Rattle.patch_build.specs.Areas.{BuiltValue}
use Rattle.patch_build.proofs.SameLemmas.{same_builds}
use Rattle.wf_status.specs.declared.status.Status.{Status}
use Rattle.wf_fetch.specs.Stages.{◌>>=◌}
use Rattle.wf_patches.specs.Bases.{BaseValue, IsSameBase, base_with}
use Rattle.wf_patches.specs.Needed.{OfReads}
use Rattle.wf_patches.specs.Stages.{fault_status, file_stage, object_stage, patch_stage, patches_from}
use Rattle.wf_patches.proofs.BaseLemmas.{bases_same}

-- the same is built over bases that are the same
pub patch_same : (held : List ℕ → Option (List ℕ)) (patch : ℕ) (one other : BaseValue) (name : List ℕ) → IsSameBase one other
    → patch_stage held patch one name ≡ patch_stage held patch other name
unfolding patch_stage
patch_same held patch one other name same =
    ap (λ (built : PatchValue → ElfValue → Result BuiltValue BuildFault).
    file_stage patch (held name) >>= (λ file. object_stage patch (held file.object) >>= (λ object. or_told (fault_status patch) (built file object))))
    (fun_ext (λ file. fun_ext (λ object. same_builds file object one.names other.names one.area other.area same.names same.area)))

pub from_same : (held : List ℕ → Option (List ℕ)) (patch : ℕ) (one other : BaseValue) (names : List (List ℕ)) → IsSameBase one other
    → patches_from held patch one names ≡ patches_from held patch other names
from_same held patch one other [] same = refl
from_same held patch one other (name ∷ names) same =
    ap (λ (o : Result BuiltValue Status). o >>= (λ built. patches_from held (patch + 1) (base_with one built) names >>= (λ deltas. Ok (built.delta ∷ deltas))))
    (patch_same held patch one other name same)
    ∙ ap (λ (rest : BuiltValue → Result (List DeltaValue) Status). patch_stage held patch other name >>= (λ built. rest built >>= (λ deltas. Ok (built.delta ∷ deltas))))
    (fun_ext (λ built. from_same held (patch + 1) (base_with one built) (base_with other built) names (bases_same one other built same)))

-- and the same names are read
pub reads_same : (held : List ℕ → Option (List ℕ)) (patch : ℕ) (one other : BaseValue) (names : List (List ℕ)) (P : List ℕ → Type 0) → IsSameBase one other
    → OfReads held patch one names P → OfReads held patch other names P
reads_same held patch one other [] P same reads = absurd reads
reads_same held patch one other (name ∷ names) P same (inl read) = inl read
reads_same held patch one other (name ∷ names) P same (inr more) = inr (record {
  built = more.built;
  is = sym (patch_same held patch one other name same) ∙ more.is;
  fits = reads_same held (patch + 1) (base_with one more.built) (base_with other more.built) names P (bases_same one other more.built same) more.fits;
})
