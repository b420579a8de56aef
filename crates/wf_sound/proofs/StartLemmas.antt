-- The invariant holds at the start of a run.
use Rattle.std.proofs.Common.{◌≡◌, ◌≢◌, ◌<◌, ◌≤◌, ◌+◌, ◌++◌, ℕ, zero, suc, List, [], ◌∷◌, false, Option, Some, None, length, map, replicate, refl, sym, ap, subst, arith, is_some, nat_eq, length-append}
use Rattle.std.specs.Prelude.{slice_get, slice_set, IfSome}
use Rattle.std.specs.List.{AllByRecursion, range_with_len}
use Rattle.std.proofs.lemmas.List.{length-replicate}
use Rattle.std.proofs.lemmas.List.Elements.{recursion_from_All}
use Rattle.wf_outside.specs.Images.{DeltaValue, ImageValue, data_numbers, text_numbers}
use Rattle.wf_outside.specs.Pages.{DataPageValue, IsPage, LimitsValue, PageValue}
use Rattle.wf_flat.specs.State.{FlatState, GenState, HartState, PageState}
use Rattle.wf_flat.specs.Boot.{boot_gen, boot_hart, boot_harts, boot_of, boot_pages, boot_text, fresh_page, numbered_from, places_with, stack_of, stack_top, stacks_of}
use Rattle.wf_flat.specs.Lists.{sorted_by}
use Rattle.wf_flat.specs.Ordered.{page_numbers}
use Rattle.wf_flat.specs.Accesses.{is_going}
use Rattle.wf_flat.proofs.BootLemmas.{distinct_front}
use Rattle.wf_flat.proofs.ListLemmas.{all_append}
use Rattle.wf_flat.proofs.OrderedLemmas.{boot_ordered}
use Rattle.wf_flat.proofs.SortLemmas.{IsRising-sorted_by, all_sorted}
use Rattle.wf_effects.specs.Generations.{is_live}
use Rattle.wf_effects.specs.Ranges.{is_data}
use Rattle.wf_flat.specs.Steps.{OfHart}
use Rattle.std.proofs.lemmas.Bool.Decides.{nat_tests}
use Rattle.wf_legal.specs.Legal.{at_rest}
use Rattle.wf_sound.specs.Laws.{IsStart}
use Rattle.wf_sound.specs.Sound.{HasHolder, IsHolder, IsInPlace, IsLeft, IsSound, IsSoundGen, IsSoundHart, IsSoundPage}
use Rattle.wf_sound.proofs.AllLemmas.{all_both, all_get, all_map, all_more, distinct_apart, found_none, map_all}
use Rattle.wf_sound.proofs.MapLemmas.{range_rises}
use Rattle.wf_sound.proofs.RegisterLemmas.{AreRegisters, set_kept}
use Rattle.wf_sound.proofs.TextLemmas.{distinct_rising, places_rise}

-- a page at the start: whole, here, held by nobody, and not written
pub record IsFresh (page : PageState) : Type 0 where
  pub is_page : IsPage page.number page.words
  pub calm : is_going page.stage ≡ false
  pub free : page.holder ≡ None
  pub unwritten : page.writes ≡ 0

fresh_image : (pages : List DataPageValue) → AllByRecursion (λ page. IsPage page.number page.words) pages → AllByRecursion IsFresh (map fresh_page pages)
fresh_image [] all = tt
fresh_image (page ∷ pages) all = (record { is_page = record { whole = all.0.whole; low = all.0.low }; calm = refl; free = refl; unwritten = refl }, fresh_image pages all.1)

fresh_stack : (i : ℕ) → i < 64 → AllByRecursion IsFresh (stack_of i)
fresh_stack i lt =
    let zeros : length {A = ℕ} (replicate 512 0) ≡ 512 = length-replicate {A = ℕ} 512 0 in (
      record { is_page = record { whole = zeros; low = omega arith }; calm = refl; free = refl; unwritten = refl },
      (
        record { is_page = record { whole = zeros; low = omega arith }; calm = refl; free = refl; unwritten = refl },
        (
          record { is_page = record { whole = zeros; low = omega arith }; calm = refl; free = refl; unwritten = refl },
          (record { is_page = record { whole = zeros; low = omega arith }; calm = refl; free = refl; unwritten = refl }, tt),
        ),
      ),
    )

fresh_stacks : (n : ℕ) → n ≤ 64 → AllByRecursion IsFresh (stacks_of n)
unfolding stacks_of
fresh_stacks zero le = tt
fresh_stacks (suc n) le = all_append IsFresh (stacks_of n) (stack_of n) (fresh_stacks n (omega arith)) (fresh_stack n (omega arith))

-- the pages are numbered in their order
numbered_fresh : (birth : ℕ) (pages : List PageState) → AllByRecursion IsFresh pages → AllByRecursion IsFresh (numbered_from birth pages)
unfolding numbered_from
numbered_fresh birth [] all = tt
numbered_fresh birth (page ∷ pages) all = (record { is_page = all.0.is_page; calm = all.0.calm; free = all.0.free; unwritten = all.0.unwritten }, numbered_fresh (birth + 1) pages all.1)

numbered_births : (birth : ℕ) (pages : List PageState) → map (λ (page : PageState). page.birth) (numbered_from birth pages) ≡ range_with_len birth (length pages)
unfolding numbered_from
numbered_births birth [] = refl
numbered_births birth (page ∷ pages) = ap (λ (ns : List ℕ). birth ∷ ns) (numbered_births (birth + 1) pages)

numbered_length : (birth : ℕ) (pages : List PageState) → length (numbered_from birth pages) ≡ length pages
unfolding numbered_from
numbered_length birth [] = refl
numbered_length birth (page ∷ pages) = ap suc (numbered_length (birth + 1) pages)

numbered_below : (birth : ℕ) (pages : List PageState) (n : ℕ) → birth + length pages ≤ n → AllByRecursion (λ page. page.birth < n) (numbered_from birth pages)
unfolding numbered_from
numbered_below birth [] n le = tt
numbered_below birth (page ∷ pages) n le = (omega arith, numbered_below (birth + 1) pages n (omega arith))

numbered_numbers : (birth : ℕ) (pages : List PageState) → page_numbers (numbered_from birth pages) ≡ page_numbers pages
unfolding numbered_from
numbered_numbers birth [] = refl
numbered_numbers birth (page ∷ pages) = ap (λ (ns : List ℕ). page.number ∷ ns) (numbered_numbers (birth + 1) pages)

stack_above : (n : ℕ) → AllByRecursion (λ page. 65011712 ≤ page.number) (stack_of n)
stack_above n = (omega arith, (omega arith, (omega arith, (omega arith, tt))))

stacks_above : (n : ℕ) → AllByRecursion (λ page. 65011712 ≤ page.number) (stacks_of n)
unfolding stacks_of
stacks_above zero = tt
stacks_above (suc n) = all_append (λ page. 65011712 ≤ page.number) (stacks_of n) (stack_of n) (stacks_above n) (stack_above n)

-- a hart at the start
pub record IsFirst (hart : HartState) : Type 0 where
  pub generation : hart.generation ≡ 0
  pub fetched : hart.fetched ≡ None
  pub reservation : hart.reservation ≡ None
  pub put : hart.put ≡ false
  pub registers : AreRegisters hart.arch.x

first_hart : (entry i : ℕ) → IsFirst (boot_hart entry i)
first_hart entry i =
    let zeros : AreRegisters (replicate 32 0) = record { count = length-replicate {A = ℕ} 32 0; zero_first = refl } in
    let stack : AreRegisters (slice_set (replicate 32 0) 2 (stack_top i)) = set_kept (replicate 32 0) 2 (stack_top i) (λ e. absurd (omega arith)) zeros in
    record {
      generation = refl;
      fetched = refl;
      reservation = refl;
      put = refl;
      registers = set_kept (slice_set (replicate 32 0) 2 (stack_top i)) 10 i (λ e. absurd (omega arith)) stack;
    }

first_harts : (entry n : ℕ) → AllByRecursion IsFirst (boot_harts entry n)
unfolding boot_harts
first_harts entry zero = tt
first_harts entry (suc n) = all_append IsFirst (boot_harts entry n) (boot_hart entry n ∷ []) (first_harts entry n) (first_hart entry n, tt)

harts_length : (entry n : ℕ) → length (boot_harts entry n) ≡ n
unfolding boot_harts
harts_length entry zero = refl
harts_length entry (suc n) = let rest = harts_length entry n in let both = length-append (boot_harts entry n) (boot_hart entry n ∷ []) in omega arith

numbered_apart : (n birth : ℕ) (pages : List PageState) → AllByRecursion (λ page. page.number ≢ n) pages → AllByRecursion (λ page. page.number ≢ n) (numbered_from birth pages)
unfolding numbered_from
numbered_apart n birth [] all = tt
numbered_apart n birth (page ∷ pages) all = (all.0, numbered_apart n (birth + 1) pages all.1)

fresh_apart : (n : ℕ) (pages : List DataPageValue) → AllByRecursion (λ m. nat_eq n m ≡ false) (data_numbers pages) → AllByRecursion (λ page. page.number ≢ n) (map fresh_page pages)
fresh_apart n [] all = tt
fresh_apart n (page ∷ pages) all = ((λ (e : page.number ≡ n). (let k : nat_eq n page.number ≡ false = all.0 in grind (arith, nat_tests))), fresh_apart n pages all.1)

module _ (deltas : List DeltaValue) (image : ImageValue) (harts : ℕ) (limits : LimitsValue) (start : IsStart deltas image harts limits) where
  -- text is no data
  text_apart : (n : ℕ) → AllByRecursion (λ m. nat_eq n m ≡ false) (data_numbers image.pages) → n < 65011712 → is_data (boot_of image harts limits) n ≡ false
  text_apart n apart low =
      let number : PageState → ℕ = λ page. page.number in
      let sorted : List PageState = sorted_by number (map fresh_page image.pages) in
      let front = all_sorted (λ page. page.number ≢ n) number (map fresh_page image.pages) (fresh_apart n image.pages apart) in
      let back = all_more (λ page. 65011712 ≤ page.number) (λ page. page.number ≢ n) (λ page le e. (let k : 65011712 ≤ page.number = le in omega arith)) (stacks_of harts) (stacks_above harts) in
      ap is_some (found_none number (boot_pages image harts) n (numbered_apart n 0 (sorted ++ stacks_of harts) (all_append (λ page. page.number ≢ n) sorted (stacks_of harts) front back)))

  first_gen : IsSoundGen deltas (boot_of image harts limits) (boot_gen image harts)
  first_gen =
      let number : PageValue → ℕ = λ page. page.number in
      let P : PageValue → Type 0 = λ page. is_data (boot_of image harts limits) page.number ≡ false in
      let apart = distinct_apart (text_numbers image.text) (data_numbers image.pages) start.is_image.distinct in
      let low = recursion_from_All (λ n. n < 65011712) (text_numbers image.text) start.is_image.text_low in
      let numbers : AllByRecursion (λ n. is_data (boot_of image harts limits) n ≡ false) (text_numbers image.text) =
      all_both (λ n. AllByRecursion (λ m. nat_eq n m ≡ false) (data_numbers image.pages)) (λ n. n < 65011712) (λ n. is_data (boot_of image harts limits) n ≡ false) (λ n a b. text_apart n a b) (text_numbers image.text) apart low in
      record {
        kept = record {
          rising = IsRising-sorted_by number image.text (distinct_front (text_numbers image.text) (data_numbers image.pages) start.is_image.distinct);
          reach_rising = places_rise (places_with [] (text_numbers (boot_text image))) (map (λ (page : PageState). page.number) (boot_pages image harts)) (places_rise [] (text_numbers (boot_text image)) tt);
        };
        whole = all_sorted (λ page. IsPage page.number page.words) number image.text start.text;
        patches = omega arith;
        apart = λ live. all_map P (λ n. is_data (boot_of image harts limits) n ≡ false) number (λ page e. e) (boot_text image)
            (all_sorted P number image.text (map_all P (λ n. is_data (boot_of image harts limits) n ≡ false) number (λ page e. e) image.text numbers));
      }

  first_place : (g : ℕ) (gen : GenState) → slice_get (boot_gen image harts ∷ []) g ≡ Some gen → IsInPlace g gen
  first_place zero gen e = let k : boot_gen image harts ≡ gen = cc in subst (IsInPlace 0) k (refl, tt)
  first_place (suc g) gen e = absurd cc

  hart_sound : (h : ℕ) (hart : HartState) → slice_get (boot_harts image.entry harts) h ≡ Some hart → IsSoundHart (boot_of image harts limits) h hart
  hart_sound h hart e =
      let is = all_get IsFirst (boot_harts image.entry harts) h hart (first_harts image.entry harts) e in
      let generation = is.generation in
      record {
        generation = omega arith;
        live = λ runs. ap (is_live (boot_of image harts limits)) generation;
        registers = is.registers.count;
        zero_register = is.registers.zero_first;
        reservation = subst (λ (o : Option _). IfSome o (IsLeft (boot_of image harts limits))) (sym is.reservation) tt;
        written = λ access wants writes put. absurd (let k : hart.put ≡ false = is.put in cc);
      }

  -- the start
  pub start_sound : IsSound (at_rest deltas (boot_of image harts limits))
  start_sound =
      let s : FlatState = boot_of image harts limits in
      let number : PageState → ℕ = λ page. page.number in
      let sorted : List PageState = sorted_by number (map fresh_page image.pages) in
      let all : List PageState = sorted ++ stacks_of harts in
      let fresh : AllByRecursion IsFresh (boot_pages image harts) = numbered_fresh 0 all (all_append IsFresh sorted (stacks_of harts) (all_sorted IsFresh number (map fresh_page image.pages) (fresh_image image.pages start.pages)) (fresh_stacks harts start.few_harts)) in
      let len : length (boot_pages image harts) ≡ length all = numbered_length 0 all in
      let births = numbered_below 0 all (length (boot_pages image harts)) (omega arith) in
      let many = harts_length image.entry harts in
      let few = start.few_harts in
      let frames = start.frames in
      record {
        few_deltas = start.few_patches;
        deltas = start.patches;
        state = record {
          ordered = boot_ordered image harts limits start.is_image;
          pages = all_both IsFresh (λ page. page.birth < length (boot_pages image harts)) (IsSoundPage limits (length (boot_pages image harts)))
              (λ page is below. record { is_page = is.is_page; writes = (let w = is.unwritten in omega arith); birth = below }) (boot_pages image harts) fresh births;
          births = rw (numbered_births 0 all) (distinct_rising (range_with_len 0 (length all)) (range_rises 0 (length all)));
          held = all_more IsFresh (HasHolder s) (λ page is. subst (λ (o : Option ℕ). IfSome o (λ h. OfHart s h (IsHolder s h page.number))) (sym is.free) tt) (boot_pages image harts) fresh;
          some_gens = omega arith;
          few_gens = omega arith;
          placed = first_place;
          gens = (first_gen, tt);
          few_harts = omega arith;
          harts = hart_sound;
          met = tt;
          limits = start.sizes;
          frames = omega arith;
        };
        call = all_more IsFresh (λ page. is_going page.stage ≡ false) (λ page is. is.calm) (boot_pages image harts) fresh;
      }
