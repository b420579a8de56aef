-- What the invariant says of the pages that are mapped.
use Rattle.std.proofs.Common.{◌≡◌, ◌==◌, ◌+◌, ◌*◌, ◌<◌, ℕ, List, [], ◌∷◌, true, false, Option, Some, None, is_some, refl, sym, subst, ◌∙◌, inl, inr, arith, if◌then◌else◌}
use Rattle.std.specs.Prelude.{IsSomeAnd}
use Rattle.std.specs.List.{AllByRecursion}
use Rattle.std.proofs.lemmas.Bool.Decides.{nat_tests}
use Rattle.wf_outside.specs.Images.{DeltaValue}
use Rattle.wf_flat.specs.Accesses.{is_ending}
use Rattle.wf_flat.specs.Lists.{found_by}
use Rattle.wf_flat.specs.Memory.{data_in, has_met, met_key}
use Rattle.wf_flat.specs.State.{FlatState, PageState}
use Rattle.wf_sound.specs.Sound.{IsMet, IsSoundPage, IsSoundState}
use Rattle.wf_sound.proofs.AllLemmas.{all_both, all_more, all_named, true_or_false}
use Rattle.wf_space.proofs.MeetLemmas.{found_each}
use Rattle.wf_translation.specs.Translations.{IsMapped}

-- the number of a page that is found
pub number_is : (pages : List PageState) (n : ℕ) (page : PageState) → data_in pages n ≡ Some page → page.number ≡ n
number_is [] n page e = absurd cc
number_is (x ∷ xs) n page e = elim (true_or_false (x.number == n)) [
  | inl t ↦ (
      let here : Some x ≡ Some page = (let k : (if x.number == n then Some x else data_in xs n) ≡ Some page = e in rw t at k) in
      let same : x ≡ page = cc in
      let number : x.number ≡ n = grind (arith, nat_tests) in
      subst (λ (p : PageState). p.number ≡ n) same number
      )
  | inr t ↦ (let k : (if x.number == n then Some x else data_in xs n) ≡ Some page = e in number_is xs n page (rw t at k))
]

module _ (deltas : List DeltaValue) (s : FlatState) (sound : IsSoundState deltas s) where
  low_pages : AllByRecursion (λ page. page.number < 0x4000000) s.pages
  low_pages = all_more (IsSoundPage s.limits s.births) (λ page. page.number < 0x4000000) (λ page is. is.is_page.low) s.pages sound.pages

  low_met : (pair : ℕ × ℕ) → IsMet s pair → pair.1 < 0x4000000
  low_met pair met = by_found (data_in s.pages pair.1) refl met.1
    where
      by_found : (o : Option PageState) → data_in s.pages pair.1 ≡ o → IsSomeAnd o (λ page. is_ending page.stage ≡ false) → pair.1 < 0x4000000
      by_found None e is = absurd is
      by_found (Some page) e is = subst (λ (n : ℕ). n < 0x4000000) (number_is s.pages pair.1 page e) (found_each (λ (p : PageState). p.number < 0x4000000) s.pages pair.1 page low_pages e)

  -- a page that was met is there, and not ending
  met_stays : (met : List (ℕ × ℕ)) (g page : ℕ) → page < 0x4000000 → AllByRecursion (IsMet s) met → has_met met g page ≡ true → IsSomeAnd (data_in s.pages page) (λ p. is_ending p.stage ≡ false)
  met_stays [] g page low all has = absurd cc
  met_stays (x ∷ xs) g page low all has = elim (true_or_false (met_key x == met_key (g, page))) [
    | inl t ↦ (
        let e : x.0 * 0x4000000 + x.1 ≡ g * 0x4000000 + page = grind (arith, nat_tests) in
        let below : x.1 < 0x4000000 = low_met x all.0 in
        let same : x.1 ≡ page = omega arith in
        subst (λ (n : ℕ). IsSomeAnd (data_in s.pages n) (λ p. is_ending p.stage ≡ false)) same all.0.1
        )
    | inr t ↦ (let k : is_some (if met_key x == met_key (g, page) then Some x else found_by met_key xs (met_key (g, page))) ≡ true = has in met_stays xs g page low all.1 (rw t at k))
  ]

  ending_unmet : (page : PageState) → page.number < 0x4000000 → data_in s.pages page.number ≡ Some page → is_ending page.stage ≡ true → (g : ℕ) → has_met s.met g page.number ≡ false
  ending_unmet page low there ending g = elim (true_or_false (has_met s.met g page.number)) [
    | inl t ↦ absurd (
        let stays : is_ending page.stage ≡ false = (let k : IsSomeAnd (Some page) (λ p. is_ending p.stage ≡ false) = subst (λ (o : Option PageState). IsSomeAnd o (λ p. is_ending p.stage ≡ false)) there (met_stays s.met g page.number low sound.met t) in k) in
        let no : true ≡ false = sym ending ∙ stays in
        cc
        )
    | inr f ↦ f
  ]

  pub sound_mapped : IsMapped s
  sound_mapped = record {
    text_low = all_more _ (λ gen. AllByRecursion (λ page. page.number < 0x4000000) gen.text) (λ gen is. all_more _ (λ page. page.number < 0x4000000) (λ page whole. whole.low) gen.text is.whole) s.gens sound.gens;
    data_low = low_pages;
    met_stay = all_both (λ (page : PageState). page.number < 0x4000000) (λ (page : PageState). data_in s.pages page.number ≡ Some page) (λ page. is_ending page.stage ≡ true → (g : ℕ) → has_met s.met g page.number ≡ false)
        (λ page low there. ending_unmet page low there) s.pages low_pages (all_named (λ (page : PageState). page.number) s.pages sound.ordered.pages);
  }
