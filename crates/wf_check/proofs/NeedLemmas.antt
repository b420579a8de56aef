-- Which names are needed, and whose counts rose.
use Rattle.std.proofs.Common.{ℕ, List, Option, Some, None, inl, inr}
use Rattle.std.specs.Prelude.{IfSome}
use Rattle.wf_outside.specs.Files.{File, HasRisen, first_bytes}
use Rattle.wf_outside.specs.Images.{ImageValue}
use Rattle.wf_journal.specs.Journals.{JournalValue}
use Rattle.wf_patches.specs.Needed as patches
use Rattle.wf_patches.specs.Needed.{OfSome, held_in}
use Rattle.wf_check.specs.Checking.{OfNeeded}
use Rattle.wf_patches.proofs.NeedLemmas.{Counts, Rises, patches_more}
use Rattle.wf_fetch.proofs.StageLemmas.{image_found}
use Rattle.wf_check.proofs.FileLemmas.{HasImage, HasJournal}

pub some_is : (old new : Counts) (name : List ℕ) → Rises old new name → OfSome (λ other. HasRisen (old other) (new other))
some_is old new name h = record { name = name; is = h }

-- ---- names of a check

pub needed_image : (holds : Option (List File)) (image_name journal_name : List ℕ) (P : List ℕ → Type 0) → P image_name
    → IfSome holds (λ files. OfNeeded (held_in files) image_name journal_name P)
needed_image None image_name journal_name P p = tt
needed_image (Some files) image_name journal_name P p = inl p

pub needed_journal : (holds : Option (List File)) (image_name journal_name : List ℕ) (image : ImageValue) (P : List ℕ → Type 0) → HasImage holds image_name image → P journal_name
    → IfSome holds (λ files. OfNeeded (held_in files) image_name journal_name P)
needed_journal None image_name journal_name image P found p = tt
needed_journal (Some files) image_name journal_name image P found p =
    inr (record { image = image; is = image_found (first_bytes image_name files) image found; fits = inl p })

pub needed_patches : (holds : Option (List File)) (image_name journal_name : List ℕ) (image : ImageValue) (journal : JournalValue) (P Q : List ℕ → Type 0) → HasImage holds image_name image
    → HasJournal holds journal_name journal → ((n : List ℕ) → Q n → P n) → IfSome holds (λ files. patches.OfNeeded (held_in files) image journal.patches Q)
    → IfSome holds (λ files. OfNeeded (held_in files) image_name journal_name P)
needed_patches None image_name journal_name image journal P Q found read more h = tt
needed_patches (Some files) image_name journal_name image journal P Q found read more h =
    inr (record {
      image = image;
      is = image_found (first_bytes image_name files) image found;
      fits = inr (record { journal = journal; is = read; fits = patches_more (held_in files) image journal.patches Q P more h });
    })
