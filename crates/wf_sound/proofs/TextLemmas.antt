-- A generation that is born of one that lives is sound.
use Rattle.std.proofs.Common.{◌≡◌, ◌<◌, ◌+◌, ◌/◌, ◌%◌, ◌==◌, ◌&&◌, ◌||◌, ◌++◌, ℕ, List, [], ◌∷◌, Bool, true, false, Option, Some, None, refl, sym, ap, subst, ◌∙◌, inl, inr, arith, is_some, nat_eq, length-set, if◌then◌else◌, unwrap_or}
use Rattle.std.specs.Prelude.{slice_get}
use Rattle.std.specs.Option.{option_map}
use Rattle.std.specs.List.{AllByRecursion, IsDistinct, fold, list_any}
use Rattle.std.proofs.lemmas.List.{map-append}
use Rattle.std.proofs.lemmas.Bool.Decides.{nat_tests}
use Rattle.std.proofs.lemmas.Option.{slice_get_within}
use Rattle.wf_outside.specs.declared.image.Jump.{Jump}
use Rattle.wf_outside.specs.Images.{DeltaValue, text_numbers}
use Rattle.wf_outside.specs.Lists.{IsRising}
use Rattle.wf_outside.specs.Pages.{IsPage, PageValue, page_of}
use Rattle.wf_flat.specs.Boot.{places_with}
use Rattle.wf_flat.specs.Lists.{with_number}
use Rattle.wf_flat.specs.Memory.{page_in}
use Rattle.wf_flat.specs.State.{FlatState, GenState}
use Rattle.wf_flat.specs.Accesses.{generation_text, text_in}
use Rattle.wf_flat.proofs.ListLemmas.{all_append}
use Rattle.wf_flat.proofs.RisingLemmas.{IsRising-with_number}
use Rattle.wf_flat.proofs.SortLemmas.{IsRising-sorted_by, all_sorted}
use Rattle.wf_effects.specs.Effects.{born_text, generation_born, here_numbers, newborn}
use Rattle.wf_effects.specs.Generations.{is_live, patches_in}
use Rattle.wf_effects.specs.Ranges.{is_data, is_live_text}
use Rattle.wf_effects.specs.Texts.{IsSpliceable, page_with, spliced, text_with, with_jump, with_pages}
use Rattle.wf_effects.proofs.TextLemmas.{jump_kept}
use Rattle.wf_sound.specs.Sound.{IsDelta, IsSoundGen, IsSoundState, IsUnused}
use Rattle.wf_sound.proofs.AllLemmas.{all_get, all_map, all_more, distinct_both, found_here, found_past, map_all, one_or_two}
use Rattle.wf_sound.proofs.GenerationLemmas.{live_gen}

-- rising places stay so with more
pub places_rise : (places ns : List ℕ) → IsRising places → IsRising (places_with places ns)
unfolding places_with
places_rise places [] up = up
places_rise places (n ∷ ns) up = places_rise (with_number (n / 512) places) ns (IsRising-with_number (n / 512) places up)

-- rising numbers differ
pub distinct_rising : (ns : List ℕ) → IsRising ns → IsDistinct nat_eq ns
unfolding IsDistinct
distinct_rising [] up = tt
distinct_rising (n ∷ ns) up = (all_more (λ m. n < m) (λ m. nat_eq n m ≡ false) (λ m lt. grind (arith, nat_tests)) ns up.0, distinct_rising ns up.1)

page_there : (text : List PageValue) → AllByRecursion (λ m. is_some (page_in text m) ≡ true) (text_numbers text)
page_there [] = tt
page_there (page ∷ pages) = (
  ap is_some (found_here (λ (p : PageValue). p.number) page pages page.number refl),
  all_more (λ m. is_some (page_in pages m) ≡ true) (λ m. is_some (page_in (page ∷ pages) m) ≡ true) (λ m e. (elim (one_or_two page.number m) [
    | inl same ↦ ap is_some (found_here (λ (p : PageValue). p.number) page pages m same)
    | inr apart ↦ (ap is_some (found_past (λ (p : PageValue). p.number) page pages m apart) ∙ e)
  ])) (text_numbers pages) (page_there pages),
)

abbrev has_text : List GenState → ℕ → Bool
has_text gens m = list_any (λ gen. gen.live && is_some (page_in gen.text m)) gens

or_first : (a b : Bool) → a ≡ true → (a || b) ≡ true
or_first a b e = rw e refl

or_second : (a b : Bool) → b ≡ true → (a || b) ≡ true
or_second true b e = refl
or_second false b e = e

-- the text of a generation that lives is live text
live_texts : (gens : List GenState) → AllByRecursion (λ gen. gen.live ≡ true → AllByRecursion (λ m. has_text gens m ≡ true) (text_numbers gen.text)) gens
live_texts [] = tt
live_texts (gen ∷ gens) = (
  (λ live. all_more (λ m. is_some (page_in gen.text m) ≡ true) (λ m. has_text (gen ∷ gens) m ≡ true) (λ m e. or_first (gen.live && is_some (page_in gen.text m)) (has_text gens m) (rw live e)) (text_numbers gen.text) (page_there gen.text)),
  all_more (λ (other : GenState). other.live ≡ true → AllByRecursion (λ m. has_text gens m ≡ true) (text_numbers other.text)) (λ (other : GenState). other.live ≡ true → AllByRecursion (λ m. has_text (gen ∷ gens) m ≡ true) (text_numbers other.text))
      (λ other is live. all_more (λ m. has_text gens m ≡ true) (λ m. has_text (gen ∷ gens) m ≡ true) (λ m e. or_second (gen.live && is_some (page_in gen.text m)) (has_text gens m) e) (text_numbers other.text) (is live)) gens (live_texts gens),
)

pub texts_live : (s : FlatState) → AllByRecursion (λ gen. gen.live ≡ true → AllByRecursion (λ m. is_live_text s m ≡ true) (text_numbers gen.text)) s.gens
texts_live s = live_texts s.gens

jumps_kept : (text : List PageValue) (jumps : List Jump) → text_numbers (fold with_jump text jumps) ≡ text_numbers text
jumps_kept text [] = refl
jumps_kept text (jump ∷ jumps) = jumps_kept (with_jump text jump) jumps ∙ jump_kept text jump

-- whole pages stay whole under jumps
abbrev IsWhole : PageValue → Type 0
IsWhole page = IsPage page.number page.words

whole_with : (at value n : ℕ) (page : PageValue) → IsWhole page → IsWhole (if page.number == n then page_with at value page else page)
whole_with at value n page is = by_test (page.number == n)
  where
    by_test : (b : Bool) → IsWhole (if b then page_with at value page else page)
    by_test true = record { whole = rw length-set (is.whole); low = is.low }
    by_test false = is

whole_text : (text : List PageValue) (at value : ℕ) → AllByRecursion IsWhole text → AllByRecursion IsWhole (text_with text at value)
whole_text text at value all = all_map IsWhole IsWhole _ (whole_with (at % 4096) value (page_of at)) text all

whole_jumps : (text : List PageValue) (jumps : List Jump) → AllByRecursion IsWhole text → AllByRecursion IsWhole (fold with_jump text jumps)
whole_jumps text [] all = all
whole_jumps text (jump ∷ jumps) all = whole_jumps (with_jump text jump) jumps (whole_text (text_with text jump.at _) (jump.at + 4) _ (whole_text text jump.at _ all))

-- a patch, of whose private pages none is live text, fits the text of a generation that lives
pub fits_live : (deltas : List DeltaValue) (s : FlatState) (parent : ℕ) (delta : DeltaValue) → IsSoundState deltas s → is_live s parent ≡ true → IsDelta delta → AllByRecursion (IsUnused s) (text_numbers delta.private) → IsSpliceable (generation_text s parent) delta
fits_live deltas s parent delta sound live is unused =
    let w = live_gen s parent live in
    let gen = all_get (IsSoundGen deltas s) s.gens parent w.0 sound.gens w.1 in
    let texts = all_get (λ (gen : GenState). gen.live ≡ true → AllByRecursion (λ m. is_live_text s m ≡ true) (text_numbers gen.text)) s.gens parent w.0 (texts_live s) w.1 in
    let text : generation_text s parent ≡ w.0.text = ap text_in w.1 in
    let apart : AllByRecursion (λ x. AllByRecursion (λ y. nat_eq x y ≡ false) (text_numbers delta.private)) (text_numbers w.0.text) =
    all_more (λ m. is_live_text s m ≡ true) (λ x. AllByRecursion (λ y. nat_eq x y ≡ false) (text_numbers delta.private))
    (λ x is_text. all_more (IsUnused s) (λ y. nat_eq x y ≡ false) (λ y none. differ s x y is_text none.1) (text_numbers delta.private) unused) (text_numbers w.0.text) (texts w.2) in
    record {
      distinct = rw (text, map-append (λ (page : PageValue). page.number) w.0.text delta.private) (distinct_both (text_numbers w.0.text) (text_numbers delta.private) (distinct_rising (text_numbers w.0.text) gen.kept.rising) (distinct_rising (text_numbers delta.private) is.private_rising) apart);
      placed = is.placed;
    }
  where
    differ : (s : FlatState) (x y : ℕ) → is_live_text s x ≡ true → is_live_text s y ≡ false → nat_eq x y ≡ false
    differ s x y e f = elim (one_or_two x y) [
      | inl same ↦ absurd (let k : is_live_text s y ≡ true = subst (λ (m : ℕ). is_live_text s m ≡ true) same e in cc)
      | inr apart ↦ grind (arith, nat_tests)
    ]

-- the generation that is born without a patch
pub newborn_clone : (deltas : List DeltaValue) (s : FlatState) (parent : ℕ) → IsSoundState deltas s → is_live s parent ≡ true → IsSoundGen deltas (generation_born deltas s parent None) (newborn deltas s parent None)
newborn_clone deltas s parent sound live =
    let w = live_gen s parent live in
    let gen = all_get (IsSoundGen deltas s) s.gens parent w.0 sound.gens w.1 in
    let text : generation_text s parent ≡ w.0.text = ap text_in w.1 in
    let patches : patches_in s parent ≡ w.0.patches = ap (λ (o : Option GenState). unwrap_or (option_map (λ (gen : GenState). gen.patches) o) 0) w.1 in
    let few = gen.patches in
    record {
      kept = record {
        rising = rw text (gen.kept.rising);
        reach_rising = places_rise (places_with [] (text_numbers (generation_text s parent))) (here_numbers s) (places_rise [] (text_numbers (generation_text s parent)) tt);
      };
      whole = rw text (gen.whole);
      patches = omega arith;
      apart = λ lives. rw text (gen.apart w.2);
    }

-- the generation that is born with a patch
pub newborn_patched : (deltas : List DeltaValue) (s : FlatState) (parent patch : ℕ) (delta : DeltaValue) → IsSoundState deltas s → is_live s parent ≡ true → slice_get deltas patch ≡ Some delta → IsDelta delta → AllByRecursion (IsUnused s) (text_numbers delta.private)
    → IsSoundGen deltas (generation_born deltas s parent (Some patch)) (newborn deltas s parent (Some patch))
newborn_patched deltas s parent patch delta sound live of_run is unused =
    let w = live_gen s parent live in
    let gen = all_get (IsSoundGen deltas s) s.gens parent w.0 sound.gens w.1 in
    let old : List PageValue = generation_text s parent in
    let text_is : old ≡ w.0.text = ap text_in w.1 in
    let fits = fits_live deltas s parent delta sound live is unused in
    let new : List PageValue = born_text s parent (slice_get deltas patch) in
    let new_is : new ≡ spliced old delta = ap (born_text s parent) of_run in
    let numbers : text_numbers new ≡ text_numbers (with_pages old delta.private) = ap text_numbers new_is ∙ jumps_kept (with_pages old delta.private) delta.jumps in
    let rising : IsRising (text_numbers (with_pages old delta.private)) = IsRising-sorted_by (λ (page : PageValue). page.number) (old ++ delta.private) fits.distinct in
    let old_whole : AllByRecursion IsWhole old = rw text_is (gen.whole) in
    let both_whole : AllByRecursion IsWhole (with_pages old delta.private) = all_sorted IsWhole (λ (page : PageValue). page.number) (old ++ delta.private) (all_append IsWhole old delta.private old_whole is.private_pages) in
    let old_apart : AllByRecursion (λ n. is_data s n ≡ false) (text_numbers old) = rw text_is (gen.apart w.2) in
    let P : PageValue → Type 0 = λ page. is_data s page.number ≡ false in
    let N : ℕ → Type 0 = λ n. is_data s n ≡ false in
    let old_pages : AllByRecursion P old = map_all P N (λ page. page.number) (λ page e. e) old old_apart in
    let more_pages : AllByRecursion P delta.private = map_all P (IsUnused s) (λ page. page.number) (λ page e. e.0) delta.private unused in
    let all_apart : AllByRecursion N (text_numbers (with_pages old delta.private)) =
    all_map P N (λ page. page.number) (λ page e. e) (with_pages old delta.private) (all_sorted P (λ (page : PageValue). page.number) (old ++ delta.private) (all_append P old delta.private old_pages more_pages)) in
    let below = slice_get_within deltas patch delta of_run in
    record {
      kept = record {
        rising = subst IsRising (sym numbers) rising;
        reach_rising = places_rise (places_with [] (text_numbers new)) (here_numbers s) (places_rise [] (text_numbers new) tt);
      };
      whole = subst (AllByRecursion IsWhole) (sym new_is) (whole_jumps (with_pages old delta.private) delta.jumps both_whole);
      patches = omega arith;
      apart = λ lives. subst (AllByRecursion N) (sym numbers) all_apart;
    }
