-- The machine at its start: nobody holds a page, each page of data is whole, no hart has a reservation, and
-- all are in generation 0.
use Rattle.std.proofs.Common.{◌≡◌, ◌++◌, ◌+◌, ◌<◌, ◌≤◌, ℕ, zero, suc, List, [], ◌∷◌, Option, None, true, length, map, replicate, refl, sym, subst, ap, arith}
use Rattle.std.specs.Option.{IfSome}
use Rattle.std.specs.List.{AllByRecursion}
use Rattle.std.proofs.lemmas.List.{length-replicate}
use Rattle.wf_outside.specs.Pages.{DataPageValue}
use Rattle.wf_outside.specs.Images.{ImageValue}
use Rattle.wf_outside.specs.Pages.{LimitsValue}
use Rattle.wf_flat.specs.declared.state.Life.TheVariants.{Running}
use Rattle.wf_flat.specs.State.{FlatState, GenState, PageState, HartState}
use Rattle.wf_flat.specs.Steps.{OfHart}
use Rattle.wf_effects.specs.Generations.{is_live}
use Rattle.wf_legal.proofs.JournalLemmas.{legal_front}
use Rattle.wf_laws.specs.Dead.{StandsByNumber}
use Rattle.wf_laws.specs.Holders.{IsTryingAt}
use Rattle.wf_flat.specs.Lists.{sorted_by}
use Rattle.wf_flat.specs.Boot.{boot_gen, boot_of, fresh_page, stacks_of, stack_of, numbered_from, boot_pages, boot_hart, boot_harts}
use Rattle.wf_laws.specs.Starts.{FrontsAreLegal, StartsAreQuiet}
use Rattle.wf_flat.proofs.ListLemmas.{all_append}
use Rattle.wf_flat.proofs.SortLemmas.{all_sorted}

-- a page of data that nobody holds and that has its 512 words
abbrev IsFree : PageState → Type 0
IsFree page = (page.holder ≡ None) × (length page.words ≡ 512)

-- a hart without a reservation
abbrev IsUnreserved : HartState → Type 0
IsUnreserved hart = hart.reservation ≡ None

-- pages of an image are free at first
fresh_free : (pages : List DataPageValue) → AllByRecursion (λ page. length page.words ≡ 512) pages → AllByRecursion IsFree (map fresh_page pages)
fresh_free [] whole = tt
fresh_free (page ∷ pages) whole = ((refl, whole.0), fresh_free pages whole.1)

-- so are the stacks
stacks_free : (n : ℕ) → AllByRecursion IsFree (stacks_of n)
unfolding stacks_of
stacks_free zero = tt
stacks_free (suc n) =
    let zeros : length {A = ℕ} (replicate 512 0) ≡ 512 = length-replicate {A = ℕ} 512 0 in
    all_append IsFree (stacks_of n) (stack_of n) (stacks_free n) ((refl, zeros), ((refl, zeros), ((refl, zeros), ((refl, zeros), tt))))

-- and numbering leaves them so
numbered_free : (birth : ℕ) (pages : List PageState) → AllByRecursion IsFree pages → AllByRecursion IsFree (numbered_from birth pages)
unfolding numbered_from
numbered_free birth [] all = tt
numbered_free birth (page ∷ pages) all = (all.0, numbered_free (birth + 1) pages all.1)

harts_unreserved : (entry n : ℕ) → AllByRecursion IsUnreserved (boot_harts entry n)
unfolding boot_harts
harts_unreserved entry zero = tt
harts_unreserved entry (suc n) = all_append IsUnreserved (boot_harts entry n) (boot_hart entry n ∷ []) (harts_unreserved entry n) (refl, tt)

unheld : (pages : List PageState) → AllByRecursion IsFree pages → AllByRecursion (λ page. page.holder ≡ None) pages
unheld [] all = tt
unheld (page ∷ pages) all = (all.0.0, unheld pages all.1)

whole : (pages : List PageState) → AllByRecursion IsFree pages → AllByRecursion (λ page. length page.words ≡ 512) pages
whole [] all = tt
whole (page ∷ pages) all = (all.0.1, whole pages all.1)

tries : (s : FlatState) (pages : List PageState) → AllByRecursion IsFree pages → AllByRecursion (λ page. IfSome page.holder (λ h. OfHart s h (IsTryingAt s h page.number))) pages
tries s [] all = tt
tries s (page ∷ pages) all = (subst (λ (o : Option ℕ). IfSome o (λ h. OfHart s h (IsTryingAt s h page.number))) (sym all.0.0) tt, tries s pages all.1)

-- births are numbered
length_numbered : (birth : ℕ) (pages : List PageState) → length (numbered_from birth pages) ≡ length pages
unfolding numbered_from
length_numbered birth [] = refl
length_numbered birth (page ∷ pages) = ap suc (length_numbered (birth + 1) pages)

births_old : (birth last : ℕ) (pages : List PageState) → birth + length pages ≤ last → AllByRecursion (λ page. page.birth < last) (numbered_from birth pages)
unfolding numbered_from
births_old birth last [] low = tt
births_old birth last (page ∷ pages) low = (omega arith, births_old (birth + 1) last pages (omega arith))

-- each hart is in generation 0
harts_first : (entry n : ℕ) → AllByRecursion (λ (hart : HartState). hart.generation ≡ 0) (boot_harts entry n)
unfolding boot_harts
harts_first entry zero = tt
harts_first entry (suc n) = all_append (λ (hart : HartState). hart.generation ≡ 0) (boot_harts entry n) (boot_hart entry n ∷ []) (harts_first entry n) (refl, tt)

first_lives : (s : FlatState) (harts : List HartState) → is_live s 0 ≡ true → AllByRecursion (λ (hart : HartState). hart.generation ≡ 0) harts → AllByRecursion (λ (hart : HartState). hart.life ≡ Running → is_live s hart.generation ≡ true) harts
first_lives s [] live all = tt
first_lives s (hart ∷ harts) live all = (λ runs. subst (λ (g : ℕ). is_live s g ≡ true) (sym all.0) live, first_lives s harts live all.1)

stands : (image : ImageValue) (harts : ℕ) (limits : LimitsValue) → StandsByNumber (boot_of image harts limits)
stands image harts limits zero gen is = (let same : boot_gen image harts ≡ gen = cc in sym (ap (λ (gen : GenState). gen.number) same))
stands image harts limits (suc g) gen is = absurd (cc)

pub quiet : StartsAreQuiet
quiet image harts limits full =
    let s : FlatState = boot_of image harts limits in
    let sorted : List PageState = sorted_by (λ (page : PageState). page.number) (map fresh_page image.pages) in
    let free : AllByRecursion IsFree (boot_pages image harts) =
    numbered_free 0 (sorted ++ stacks_of harts) (all_append IsFree sorted (stacks_of harts) (all_sorted IsFree (λ (page : PageState). page.number) (map fresh_page image.pages) (fresh_free image.pages full)) (stacks_free harts)) in
    let count : length (boot_pages image harts) ≡ length (sorted ++ stacks_of harts) = length_numbered 0 (sorted ++ stacks_of harts) in
    record {
      holds_none = unheld (boot_pages image harts) free;
      holders_try = tries s (boot_pages image harts) free;
      no_reservation = harts_unreserved image.entry harts;
      whole_pages = whole (boot_pages image harts) free;
      old_births = births_old 0 (length (boot_pages image harts)) (sorted ++ stacks_of harts) (omega arith);
      by_number = stands image harts limits;
      in_live = first_lives s (boot_harts image.entry harts) refl (harts_first image.entry harts);
    }

pub fronts : FrontsAreLegal
fronts m front back l = legal_front m front back l
