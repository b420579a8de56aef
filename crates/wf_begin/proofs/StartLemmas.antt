-- The state at the start of an image is one of a first generation.
use Rattle.std.proofs.Common.{◌≡◌, ◌<◌, ◌≤◌, ◌+◌, ◌/◌, ◌++◌, ℕ, true, nat_eq, zero, suc, List, [], ◌∷◌, Some, None, length, map, refl, sym, ap, ◌∙◌, inl, inr, arith, length-append}
use Rattle.std.specs.Prelude.{◌↔◌, slice_get}
use Rattle.std.specs.List.{AllByRecursion}
use Rattle.std.specs.Set.{is_member}
use Rattle.std.proofs.lemmas.Bool.{cases_lt}
use Rattle.std.proofs.lemmas.Option.{slice_get_past}
use Rattle.wf_outside.specs.Images.{ImageValue, IsImage, text_numbers}
use Rattle.wf_outside.specs.Pages.{DataPageValue, LimitsValue}
use Rattle.wf_flat.specs.declared.state.Life.TheVariants.{Running}
use Rattle.wf_flat.specs.Boot.{boot_gen, boot_hart, boot_harts, boot_of, boot_pages, boot_text, fresh_page, numbered_from, places_with, stacks_of}
use Rattle.wf_flat.specs.Counts.{used_of}
use Rattle.wf_flat.specs.Lists.{sorted_by}
use Rattle.wf_flat.specs.State.{HartState, PageState}
use Rattle.wf_flat.proofs.ListLemmas.{and_some, some_and}
use Rattle.wf_flat.proofs.SortLemmas.{all_sorted}
use Rattle.wf_homes.specs.Kept.{IsResident}
use Rattle.wf_homes.proofs.ListLemmas.{all_both, all_more, map_all}
use Rattle.wf_homes.proofs.StartLemmas.{start_tidy}
use Rattle.wf_start.specs.Start.{IsFirst, IsFreshPage, IsReached}
use Rattle.wf_start.proofs.PairLemmas.{place_back, place_front}
use Rattle.wf_start.proofs.TreeLemmas.{places_have, places_keep}

-- all pages are fresh
mapped_fresh : (pages : List DataPageValue) → AllByRecursion IsFreshPage (map fresh_page pages)
mapped_fresh [] = tt
mapped_fresh (p ∷ ps) = (record { here = refl; free = refl; unwritten = refl }, mapped_fresh ps)

stacks_fresh : (n : ℕ) → AllByRecursion IsFreshPage (stacks_of n)
unfolding stacks_of
stacks_fresh zero = tt
stacks_fresh (suc n) =
    all_both IsFreshPage (stacks_of n) _ (stacks_fresh n)
    (record { here = refl; free = refl; unwritten = refl }, (record { here = refl; free = refl; unwritten = refl }, (record { here = refl; free = refl; unwritten = refl }, (record { here = refl; free = refl; unwritten = refl }, tt))))

numbered_fresh : (birth : ℕ) (pages : List PageState) → AllByRecursion IsFreshPage pages → AllByRecursion IsFreshPage (numbered_from birth pages)
unfolding numbered_from
numbered_fresh birth [] all = tt
numbered_fresh birth (p ∷ ps) all = (record { here = all.0.here; free = all.0.free; unwritten = all.0.unwritten }, numbered_fresh (birth + 1) ps all.1)

pages_fresh : (image : ImageValue) (harts : ℕ) → AllByRecursion IsFreshPage (boot_pages image harts)
pages_fresh image harts =
    let sorted : List PageState = sorted_by (λ (page : PageState). page.number) (map fresh_page image.pages) in
    numbered_fresh 0 (sorted ++ stacks_of harts) (all_both IsFreshPage sorted (stacks_of harts) (all_sorted IsFreshPage (λ (page : PageState). page.number) (map fresh_page image.pages) (mapped_fresh image.pages)) (stacks_fresh harts))

-- the harts
harts_length : (entry n : ℕ) → length (boot_harts entry n) ≡ n
unfolding boot_harts
harts_length entry zero = refl
harts_length entry (suc n) = length-append (boot_harts entry n) (boot_hart entry n ∷ []) ∙ (let l : length (boot_harts entry n) ≡ n = harts_length entry n in omega arith)

hart_at : (entry n h : ℕ) → h < n → slice_get (boot_harts entry n) h ≡ Some (boot_hart entry h)
unfolding boot_harts
hart_at entry zero h lt = absurd (omega arith)
hart_at entry (suc n) h lt = elim (cases_lt h n) [
  | inl low ↦ place_front (boot_harts entry n) (boot_hart entry n ∷ []) h (boot_hart entry h) (hart_at entry n h low)
  | inr ge ↦ (
      let e : h ≡ n = omega arith in
      let l : length (boot_harts entry n) ≡ n = harts_length entry n in
      let z : h ≡ length (boot_harts entry n) + 0 = omega arith in
      ap (slice_get (boot_harts entry n ++ boot_hart entry n ∷ [])) z ∙ place_back (boot_harts entry n) (boot_hart entry n ∷ []) 0 ∙ ap (λ (i : ℕ). Some (boot_hart entry i)) (sym e)
      )
]

module _ (image : ImageValue) (harts : ℕ) (limits : LimitsValue) where
  abbrev runs : HartState → Type 0
  runs hart = (hart.life ≡ Running) × (hart.generation ≡ 0)

  resident : (h : ℕ) → (h < harts) ↔ IsResident (boot_of image harts limits) 0 h
  resident h = (
    λ lt. and_some (slice_get (boot_harts image.entry harts) h) runs (boot_hart image.entry h) (hart_at image.entry harts h lt) (refl, refl),
    λ is. elim (cases_lt h harts) [
      | inl lt ↦ lt
      | inr ge ↦ absurd (
          let l : length (boot_harts image.entry harts) ≡ harts = harts_length image.entry harts in
          let none : slice_get (boot_harts image.entry harts) h ≡ None = slice_get_past (boot_harts image.entry harts) h (omega arith) in
          let there = some_and (slice_get (boot_harts image.entry harts) h) runs is in
          let k : None ≡ Some there.0 = sym none ∙ there.1 in cc
          )
    ],
  )

  abbrev text_places : List ℕ
  text_places = places_with [] (text_numbers (boot_text image))

  abbrev data_numbers : List ℕ
  data_numbers = map (λ (page : PageState). page.number) (boot_pages image harts)

  text_reached : AllByRecursion (IsReached (boot_gen image harts)) (text_numbers (boot_text image))
  text_reached = all_more (λ n. is_member nat_eq text_places (n / 512) ≡ true) (IsReached (boot_gen image harts)) (λ n e. places_keep text_places data_numbers (n / 512) e) (text_numbers (boot_text image)) (places_have [] (text_numbers (boot_text image)))

  data_reached : AllByRecursion (λ (page : PageState). IsReached (boot_gen image harts) page.number) (boot_pages image harts)
  data_reached = map_all (λ (page : PageState). IsReached (boot_gen image harts) page.number) (IsReached (boot_gen image harts)) (λ (page : PageState). page.number) (λ page e. e) (boot_pages image harts) (places_have text_places data_numbers)

  pub start_first : IsImage image.text image.pages image.entry → used_of (boot_of image harts limits) ≤ limits.frames → IsFirst (boot_of image harts limits) (boot_gen image harts) harts
  start_first is fits = record {
    only = refl;
    number = refl;
    live = refl;
    unmet = refl;
    unworn = refl;
    births = refl;
    fresh = pages_fresh image harts;
    text_reached = text_reached;
    data_reached = data_reached;
    residents = resident;
    tidy = start_tidy image harts limits is;
    fits = fits;
  }
