-- Which names are needed, and whose counts rose.
use Rattle.std.proofs.Common.{ℕ, List, Option, Some, None, inl, inr}
use Rattle.std.specs.Prelude.{IfSome}
use Rattle.wf_outside.specs.Files.{File, HasRisen, first_bytes}
use Rattle.wf_outside.specs.Images.{ImageValue}
use Rattle.wf_script.specs.Commands.{ScriptValue}
use Rattle.wf_patches.specs.Needed as patches
use Rattle.wf_patches.specs.Needed.{OfSome, held_in}
use Rattle.wf_usage.specs.declared.sizes.Sizes.{Sizes}
use Rattle.wf_run.specs.Answers.{OfNeeded}
use Rattle.wf_patches.proofs.NeedLemmas.{Counts, Rises, patches_more}
use Rattle.wf_fetch.proofs.StageLemmas.{image_found}
use Rattle.wf_run.proofs.FileLemmas.{HasImage, HasScript}

pub some_is : (old new : Counts) (name : List ℕ) → Rises old new name → OfSome (λ other. HasRisen (old other) (new other))
some_is old new name h = record { name = name; is = h }

-- ---- names of a run

pub needed_image : (holds : Option (List File)) (sizes : Sizes) (image_name script_name : List ℕ) (P : List ℕ → Type 0) → P image_name
    → IfSome holds (λ files. OfNeeded sizes (held_in files) image_name script_name P)
needed_image None sizes image_name script_name P p = tt
needed_image (Some files) sizes image_name script_name P p = inl p

pub needed_script : (holds : Option (List File)) (sizes : Sizes) (image_name script_name : List ℕ) (image : ImageValue) (P : List ℕ → Type 0) → HasImage holds image_name image → P script_name
    → IfSome holds (λ files. OfNeeded sizes (held_in files) image_name script_name P)
needed_script None sizes image_name script_name image P found p = tt
needed_script (Some files) sizes image_name script_name image P found p =
    inr (record { image = image; is = image_found (first_bytes image_name files) image found; fits = inl p })

pub needed_patches : (holds : Option (List File)) (sizes : Sizes) (image_name script_name : List ℕ) (image : ImageValue) (script : ScriptValue) (P Q : List ℕ → Type 0) → HasImage holds image_name image
    → HasScript holds script_name sizes.harts script → ((n : List ℕ) → Q n → P n) → IfSome holds (λ files. patches.OfNeeded (held_in files) image script.patches Q)
    → IfSome holds (λ files. OfNeeded sizes (held_in files) image_name script_name P)
needed_patches None sizes image_name script_name image script P Q found read more h = tt
needed_patches (Some files) sizes image_name script_name image script P Q found read more h =
    inr (record {
      image = image;
      is = image_found (first_bytes image_name files) image found;
      fits = inr (record { script = script; is = read; fits = patches_more (held_in files) image script.patches Q P more h });
    })
