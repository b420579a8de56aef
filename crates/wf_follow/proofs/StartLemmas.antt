-- The start of an image is between two units.
use Rattle.std.proofs.Common.{◌++◌, ◌+◌, ℕ, zero, suc, List, [], ◌∷◌, map, refl}
use Rattle.std.specs.List.{AllByRecursion}
use Rattle.wf_outside.specs.Pages.{DataPageValue, LimitsValue}
use Rattle.wf_outside.specs.Images.{DeltaValue, ImageValue}
use Rattle.wf_flat.specs.State.{PageState}
use Rattle.wf_flat.specs.Lists.{sorted_by}
use Rattle.wf_flat.specs.Boot.{boot_hart, boot_harts, boot_pages, fresh_page, numbered_from, stack_of, stacks_of}
use Rattle.wf_flat.proofs.ListLemmas.{all_append}
use Rattle.wf_flat.proofs.SortLemmas.{all_sorted}
use Rattle.wf_follow.specs.Runs.{start_of}
use Rattle.wf_follow.proofs.PageLemmas.{IsFree}
use Rattle.wf_follow.proofs.UnitLemmas.{IsStill}
use Rattle.wf_follow.proofs.EntryLemmas.{AtRest}

all_fresh : (pages : List DataPageValue) → AllByRecursion IsFree (map fresh_page pages)
all_fresh [] = tt
all_fresh (page ∷ pages) = ((refl, refl), all_fresh pages)

stacks_free : (n : ℕ) → AllByRecursion IsFree (stacks_of n)
unfolding stacks_of
stacks_free zero = tt
stacks_free (suc n) = all_append IsFree (stacks_of n) (stack_of n) (stacks_free n) ((refl, refl), ((refl, refl), ((refl, refl), ((refl, refl), tt))))

numbered_free : (birth : ℕ) (pages : List PageState) → AllByRecursion IsFree pages → AllByRecursion IsFree (numbered_from birth pages)
unfolding numbered_from
numbered_free birth [] all = tt
numbered_free birth (page ∷ pages) all = (all.0, numbered_free (birth + 1) pages all.1)

boot_free : (image : ImageValue) (harts : ℕ) → AllByRecursion IsFree (boot_pages image harts)
boot_free image harts =
    numbered_free 0 (sorted_by (λ page. page.number) (map fresh_page image.pages) ++ stacks_of harts)
    (all_append IsFree (sorted_by (λ page. page.number) (map fresh_page image.pages)) (stacks_of harts) (all_sorted IsFree (λ (page : PageState). page.number) (map fresh_page image.pages) (all_fresh image.pages)) (stacks_free harts))

harts_still : (entry n : ℕ) → AllByRecursion IsStill (boot_harts entry n)
unfolding boot_harts
harts_still entry zero = tt
harts_still entry (suc n) = all_append IsStill (boot_harts entry n) (boot_hart entry n ∷ []) (harts_still entry n) ((refl, refl), tt)

pub start_rests : (deltas : List DeltaValue) (image : ImageValue) (harts : ℕ) (limits : LimitsValue) → AtRest (start_of deltas image harts limits)
start_rests deltas image harts limits = (record { harts = harts_still image.entry harts; pages = boot_free image harts; inside = refl }, refl)
