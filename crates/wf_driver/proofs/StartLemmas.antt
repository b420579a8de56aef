-- The machine at its start: every page is free, every hart is in no try, and so many there are.
use Rattle.std.proofs.Common.{◌≡◌, ◌≤◌, ◌++◌, ◌+◌, ℕ, zero, suc, List, [], ◌∷◌, Bool, Option, None, length, map, refl, sym, subst, ap, ◌∙◌, length-append, arith}
use Rattle.std.specs.List.{AllByRecursion}
use Rattle.wf_outside.specs.Pages.{DataPageValue, LimitsValue}
use Rattle.wf_outside.specs.Images.{ImageValue}
use Rattle.wf_flat.specs.declared.event.Entry.{Entry}
use Rattle.wf_flat.specs.State.{FlatState, HartState, PageState}
use Rattle.wf_flat.specs.Lists.{sorted_by}
use Rattle.wf_flat.specs.Ordered.{IsOrdered}
use Rattle.wf_flat.specs.Boot.{boot_harts, boot_hart, boot_of, boot_pages, fresh_page, numbered_from, stack_of, stacks_of}
use Rattle.wf_flat.proofs.ListLemmas.{all_append}
use Rattle.wf_flat.proofs.SortLemmas.{all_sorted}
use Rattle.wf_outside.specs.declared.sizes.TheConstants.{MOST_FRAMES}
use Rattle.wf_outside.specs.Images.{DeltaValue}
use Rattle.wf_flat.specs.Counts.{used_of}
use Rattle.wf_legal.specs.Legal.{at_rest}
use Rattle.wf_sound.specs.Laws.{IsStart, StartsAreSound}
use Rattle.wf_sound.specs.Sound.{IsSound}
use Rattle.wf_service.specs.Resting.{IsSettled}
use Rattle.wf_homes.specs.Homes.{Homes}
use Rattle.home_laws.specs.Laws.{HomesSettle}
use Rattle.wf_report.specs.Listings.{ListingValue}
use Rattle.wf_driver.specs.Housing.{own_homes}
use Rattle.wf_driver.specs.Machines.{homes_wanted, machine_at}
use Rattle.wf_driver.specs.Keeping.{IsKept, IsReady}
use Rattle.wf_driver.proofs.HousingLemmas.{start_accounted, start_of}
use Rattle.wf_driver.proofs.PlaceLemmas.{shown}

fresh_settled : (pages : List DataPageValue) → AllByRecursion IsSettled (map fresh_page pages)
fresh_settled [] = tt
fresh_settled (page ∷ pages) = ((refl, refl), fresh_settled pages)

stacks_settled : (n : ℕ) → AllByRecursion IsSettled (stacks_of n)
unfolding stacks_of
stacks_settled zero = tt
stacks_settled (suc n) = all_append IsSettled (stacks_of n) (stack_of n) (stacks_settled n) ((refl, refl), ((refl, refl), ((refl, refl), ((refl, refl), tt))))

numbered_settled : (birth : ℕ) (pages : List PageState) → AllByRecursion IsSettled pages → AllByRecursion IsSettled (numbered_from birth pages)
unfolding numbered_from
numbered_settled birth [] all = tt
numbered_settled birth (page ∷ pages) all = (all.0, numbered_settled (birth + 1) pages all.1)

boot_settled : (image : ImageValue) (harts : ℕ) → AllByRecursion IsSettled (boot_pages image harts)
boot_settled image harts =
    let pages : List PageState = map fresh_page image.pages in
    numbered_settled 0 (sorted_by (λ page. page.number) pages ++ stacks_of harts)
    (all_append IsSettled (sorted_by (λ page. page.number) pages) (stacks_of harts) (all_sorted IsSettled (λ (page : PageState). page.number) pages (fresh_settled image.pages)) (stacks_settled harts))

no_tries : (entry n : ℕ) → AllByRecursion (λ hart. hart.fetched ≡ None) (boot_harts entry n)
unfolding boot_harts
no_tries entry zero = tt
no_tries entry (suc n) = all_append (λ (hart : HartState). hart.fetched ≡ None) (boot_harts entry n) (boot_hart entry n ∷ []) (no_tries entry n) (refl, tt)

harts_length : (entry n : ℕ) → length (boot_harts entry n) ≡ n
unfolding boot_harts
harts_length entry zero = refl
harts_length entry (suc n) = let rest = harts_length entry n in let both = length-append (boot_harts entry n) (boot_hart entry n ∷ []) in omega arith

-- the births of a start are its pages, of which there are no more than frames
few_births : (image : ImageValue) (harts : ℕ) (limits : LimitsValue) → used_of (boot_of image harts limits) ≤ limits.frames → limits.frames ≤ MOST_FRAMES → (boot_of image harts limits).births ≤ MOST_FRAMES
few_births image harts limits fits few = omega arith

boot_ready : (deltas : List DeltaValue) (image : ImageValue) (harts : ℕ) (limits : LimitsValue) → 1 ≤ harts → IsStart deltas image harts limits → IsOrdered (boot_of image harts limits) → IsSound (at_rest deltas (boot_of image harts limits))
    → IsReady deltas (boot_of image harts limits) []
boot_ready deltas image harts limits some start ordered sound =
    let e : length (boot_harts image.entry harts) ≡ harts = harts_length image.entry harts in
    record {
      rests = record { no_one = refl; no_try = no_tries image.entry harts; ordered = ordered; free = boot_settled image harts };
      some = rw e some;
      few = rw e start.few_harts;
      start = boot_of image harts limits;
      sound = sound;
      births = few_births image harts limits start.frames start.sizes.many_frames;
      legal = tt;
      reached = refl;
    }

-- so it is ready
pub starts_ready : (deltas : List DeltaValue) (image : ImageValue) (harts : ℕ) (limits : LimitsValue) (flat : FlatState) (entries : List Entry) → flat ≡ boot_of image harts limits → entries ≡ [] → 1 ≤ harts → IsStart deltas image harts limits → IsOrdered flat → StartsAreSound
    → IsReady deltas flat entries
starts_ready deltas image harts limits flat entries is none some start ordered law =
    subst (IsReady deltas flat) (sym none) (subst (λ (s : FlatState). IsReady deltas s []) (sym is) (boot_ready deltas image harts limits some start (subst IsOrdered is ordered) (law deltas image harts limits start)))

-- and its homes, where they are wanted, account for all entries
pub starts_kept : HomesSettle → (deltas : List DeltaValue) (flat : FlatState) (entries : List Entry) (homes : Option Homes) (wanted : Bool) → homes ≡ homes_wanted wanted flat → entries ≡ [] → IsReady deltas flat entries → IsKept deltas flat entries homes 0
starts_kept law deltas flat entries homes wanted is none ready = record { ready = ready; housed = start_of law wanted flat homes entries is none }

-- so these are its parts
pub starts_at : HomesSettle → (deltas : List DeltaValue) (image : ImageValue) (harts : ℕ) (limits : LimitsValue) (wanted : Bool) (flat : FlatState) (homes : Option Homes) (entries : List Entry) (listings : List ListingValue)
    → flat ≡ boot_of image harts limits → homes ≡ homes_wanted wanted flat → entries ≡ [] → listings ≡ []
    → shown deltas flat (own_homes homes 0 entries flat) entries listings None ≡ machine_at deltas image harts limits wanted
starts_at law deltas image harts limits wanted flat homes entries listings is are none nothing =
    let now : own_homes homes 0 entries flat ≡ homes_wanted wanted (boot_of image harts limits) = start_accounted law wanted flat homes entries are none ∙ ap (homes_wanted wanted) is in
    ap (λ (h : Option Homes). shown deltas flat h entries listings None) now
    ∙ ap (λ (s : FlatState). shown deltas s (homes_wanted wanted (boot_of image harts limits)) entries listings None) is
    ∙ ap (λ (es : List Entry). shown deltas (boot_of image harts limits) (homes_wanted wanted (boot_of image harts limits)) es listings None) none
    ∙ ap (λ (ls : List ListingValue). shown deltas (boot_of image harts limits) (homes_wanted wanted (boot_of image harts limits)) [] ls None) nothing
