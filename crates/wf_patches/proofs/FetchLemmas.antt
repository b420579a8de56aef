-- What the files of one patch mean, stage by stage.
use Rattle.std.proofs.Common.{◌≡◌, ◌⊎◌, ◌∙◌, ℕ, List, Option, None, Some, Result, Ok, Err, IfSome, ap, inl, inr, subst, sym}
use Rattle.wf_outside.specs.Files.{File, first_bytes}
use Rattle.elf_link.specs.Results.{or_told}
use Rattle.elf_read.specs.Elf.{ElfValue}
use Rattle.patch_file.specs.Patches.{PatchValue}
use Rattle.patch_build.specs.declared.fault.BuildFault.{BuildFault}
use Rattle.patch_build.specs.Areas.{BuiltValue}
use Rattle.patch_build.specs.Builds.{IsFault, built_of}
use Rattle.wf_status.specs.declared.status.Status.{Status}
use Rattle.wf_fetch.specs.Stages.{◌>>=◌, IsReadFault}
use Rattle.wf_patches.specs.Bases.{BaseValue}
use Rattle.wf_patches.specs.Needed.{held_in}
use Rattle.wf_patches.specs.Stages.{fault_status, file_stage, object_stage, patch_stage}

-- the answer is that of the stages, or that of a read
abbrev pub IsCause : List File → ℕ → BaseValue → List ℕ → Status → Type 0
IsCause files patch base name status = IsReadFault status ⊎ (patch_stage (held_in files) patch base name ≡ Err status)

no_file : (files : List File) (patch : ℕ) (base : BaseValue) (name : List ℕ) (status : Status)
    → file_stage patch (first_bytes name files) ≡ Err status → patch_stage (held_in files) patch base name ≡ Err status
unfolding patch_stage
no_file files patch base name status e =
    ap (λ (o : Result PatchValue Status). o >>= (λ file. object_stage patch (first_bytes file.object files) >>= (λ object. or_told (fault_status patch) (built_of file object base.names base.area)))) e

with_file : (files : List File) (patch : ℕ) (base : BaseValue) (name : List ℕ) (file : PatchValue) → file_stage patch (first_bytes name files) ≡ Ok file
    → patch_stage (held_in files) patch base name
    ≡ (object_stage patch (first_bytes file.object files) >>= (λ object. or_told (fault_status patch) (built_of file object base.names base.area)))
unfolding patch_stage
with_file files patch base name file e =
    ap (λ (o : Result PatchValue Status). o >>= (λ file. object_stage patch (first_bytes file.object files) >>= (λ object. or_told (fault_status patch) (built_of file object base.names base.area)))) e

with_object : (files : List File) (patch : ℕ) (base : BaseValue) (name : List ℕ) (file : PatchValue) (o : Result ElfValue Status) → file_stage patch (first_bytes name files) ≡ Ok file
    → object_stage patch (first_bytes file.object files) ≡ o
    → patch_stage (held_in files) patch base name ≡ (o >>= (λ object. or_told (fault_status patch) (built_of file object base.names base.area)))
with_object files patch base name file o e f =
    with_file files patch base name file e
    ∙ ap (λ (x : Result ElfValue Status). x >>= (λ object. or_told (fault_status patch) (built_of file object base.names base.area))) f

pub cause_file : (o : Option (List File)) (patch : ℕ) (base : BaseValue) (name : List ℕ) (status : Status)
    → IfSome o (λ files. IsReadFault status ⊎ (file_stage patch (first_bytes name files) ≡ Err status))
    → IfSome o (λ files. IsCause files patch base name status)
cause_file None patch base name status h = tt
cause_file (Some files) patch base name status (inl fault) = inl fault
cause_file (Some files) patch base name status (inr e) = inr (no_file files patch base name status e)

pub cause_object : (o p : Option (List File)) → p ≡ o → (patch : ℕ) (base : BaseValue) (name : List ℕ) (file : PatchValue) (named : List ℕ) → named ≡ file.object → (status : Status)
    → IfSome o (λ files. file_stage patch (first_bytes name files) ≡ Ok file)
    → IfSome p (λ files. IsReadFault status ⊎ (object_stage patch (first_bytes named files) ≡ Err status))
    → IfSome o (λ files. IsCause files patch base name status)
cause_object None p is patch base name file named n status e h = tt
cause_object (Some files) p is patch base name file named n status e h =
    by_cause (subst (λ (q : Option (List File)). IfSome q (λ files. IsReadFault status ⊎ (object_stage patch (first_bytes named files) ≡ Err status))) is h)
  where
    by_cause : (IsReadFault status ⊎ (object_stage patch (first_bytes named files) ≡ Err status)) → IsCause files patch base name status
    by_cause (inl fault) = inl fault
    by_cause (inr f) =
        inr (with_object files patch base name file (Err status) e (ap (λ (x : List ℕ). object_stage patch (first_bytes x files)) (sym n) ∙ f))

object_of_file : (files : List File) (patch : ℕ) (file : PatchValue) (named : List ℕ) (p : Option (List File)) (object : ElfValue) → named ≡ file.object → p ≡ Some files
    → IfSome p (λ files. object_stage patch (first_bytes named files) ≡ Ok object) → object_stage patch (first_bytes file.object files) ≡ Ok object
object_of_file files patch file named p object n is h =
    ap (λ (x : List ℕ). object_stage patch (first_bytes x files)) (sym n)
    ∙ subst (λ (q : Option (List File)). IfSome q (λ files. object_stage patch (first_bytes named files) ≡ Ok object)) is h

pub found_built : (o p : Option (List File)) → p ≡ o → (patch : ℕ) (base : BaseValue) (name : List ℕ) (file : PatchValue) (named : List ℕ) → named ≡ file.object → (object : ElfValue) (built : BuiltValue)
    → IfSome o (λ files. file_stage patch (first_bytes name files) ≡ Ok file)
    → IfSome p (λ files. object_stage patch (first_bytes named files) ≡ Ok object)
    → built_of file object base.names base.area ≡ Ok built
    → IfSome o (λ files. patch_stage (held_in files) patch base name ≡ Ok built)
found_built None p is patch base name file named n object built e h b = tt
found_built (Some files) p is patch base name file named n object built e h b =
    with_object files patch base name file (Ok object) e (object_of_file files patch file named p object n is h)
    ∙ ap (λ (x : Result BuiltValue BuildFault). or_told (fault_status patch) x) b

pub cause_fault : (o p : Option (List File)) → p ≡ o → (patch : ℕ) (base : BaseValue) (name : List ℕ) (file : PatchValue) (named : List ℕ) → named ≡ file.object → (object : ElfValue) (fault : BuildFault) (status : Status)
    → IfSome o (λ files. file_stage patch (first_bytes name files) ≡ Ok file)
    → IfSome p (λ files. object_stage patch (first_bytes named files) ≡ Ok object)
    → IsFault (built_of file object base.names base.area) fault → status ≡ fault_status patch fault
    → IfSome o (λ files. IsCause files patch base name status)
cause_fault None p is patch base name file named n object fault status e h b s = tt
cause_fault (Some files) p is patch base name file named n object fault status e h (inl memory) s =
    inl (inr (s ∙ ap (λ (f : BuildFault). fault_status patch f) memory))
cause_fault (Some files) p is patch base name file named n object fault status e h (inr f) s =
    inr (with_object files patch base name file (Ok object) e (object_of_file files patch file named p object n is h)
    ∙ ap (λ (x : Result BuiltValue BuildFault). or_told (fault_status patch) x) f ∙ ap (λ (x : Status). Err x) (sym s))
