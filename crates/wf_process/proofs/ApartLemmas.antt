-- What the invariant says of text: a page of it is no page of data.
use Rattle.std.proofs.Common.{◌≡◌, ◌==◌, ℕ, List, [], ◌∷◌, true, false, Option, Some, None, is_some, refl, subst, inl, inr, arith, if◌then◌else◌}
use Rattle.std.specs.Prelude.{slice_get, unwrap_or}
use Rattle.std.specs.Option.{option_map}
use Rattle.std.specs.List.{AllByRecursion}
use Rattle.std.proofs.lemmas.Bool.Decides.{nat_tests}
use Rattle.wf_outside.specs.Images.{DeltaValue, text_numbers}
use Rattle.wf_outside.specs.Pages.{PageValue}
use Rattle.wf_flat.specs.Accesses.{text_in}
use Rattle.wf_flat.specs.Memory.{data_in, page_in}
use Rattle.wf_flat.specs.State.{FlatState, GenState, PageState}
use Rattle.wf_effects.specs.Generations.{is_live}
use Rattle.wf_effects.specs.Ranges.{is_data}
use Rattle.wf_sound.specs.Sound.{IsSoundGen, IsSoundState}
use Rattle.wf_sound.proofs.AllLemmas.{all_get, true_or_false}
use Rattle.wf_process.specs.Finding.{IsApartFromText}

module _ (s : FlatState) (page : ℕ) where
  text_apart : (text : List PageValue) → AllByRecursion (λ n. is_data s n ≡ false) (text_numbers text) → is_some (page_in text page) ≡ true → is_data s page ≡ false
  text_apart [] all e = absurd cc
  text_apart (x ∷ xs) all e = elim (true_or_false (x.number == page)) [
    | inl t ↦ (let same : x.number ≡ page = grind (arith, nat_tests) in subst (λ (n : ℕ). is_data s n ≡ false) same all.0)
    | inr t ↦ (let k : is_some (if x.number == page then Some x else page_in xs page) ≡ true = e in text_apart xs all.1 (rw t at k))
  ]

  none_there : (o : Option PageState) → is_some o ≡ false → o ≡ None
  none_there None e = refl
  none_there (Some p) e = absurd cc

  -- a page of text of a generation that lives is no page of data
  pub live_apart : (deltas : List DeltaValue) (g : ℕ) → IsSoundState deltas s → is_live s g ≡ true → IsApartFromText s g page
  live_apart deltas g sound live there = by_gen (slice_get s.gens g) refl live there
    where
      by_gen : (o : Option GenState) → slice_get s.gens g ≡ o → unwrap_or (option_map (λ gen. gen.live) o) false ≡ true → is_some (page_in (text_in o) page) ≡ true → data_in s.pages page ≡ None
      by_gen None e l t = absurd cc
      by_gen (Some gen) e l t = none_there (data_in s.pages page) (text_apart gen.text ((all_get (IsSoundGen deltas s) s.gens g gen sound.gens e).apart l) t)
