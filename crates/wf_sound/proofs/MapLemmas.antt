-- The invariant is kept where pages are mapped.
use Rattle.std.proofs.Common.{◌≡◌, ◌≢◌, ◌<◌, ◌≤◌, ◌+◌, ◌++◌, ℕ, zero, suc, List, ◌∷◌, Bool, true, false, Option, Some, None, length, map, replicate, refl, sym, ap, subst, ◌∙◌, arith, is_some, nat_eq, if◌then◌else◌, unwrap_or}
use Rattle.std.specs.Prelude.{slice_get, IfSome}
use Rattle.std.specs.Option.{option_map}
use Rattle.std.specs.List.{AllByRecursion, IsDistinct, range_with_len}
use Rattle.std.proofs.lemmas.Bool.Decides.{nat_tests}
use Rattle.std.proofs.lemmas.List.{length-map, length-replicate, map-append}
use Rattle.std.proofs.lemmas.Option.{slice_get-map}
use Rattle.wf_outside.specs.Images.{DeltaValue, text_numbers}
use Rattle.wf_outside.specs.Lists.{IsRising}
use Rattle.wf_outside.specs.Pages.{DataPageValue, IsPage, LimitsValue, page_of}
use Rattle.wf_flat.specs.State.{FlatState, GenState, PageState}
use Rattle.wf_flat.specs.Boot.{places_with}
use Rattle.wf_flat.specs.Counts.{used_of}
use Rattle.wf_flat.specs.Lists.{found_by}
use Rattle.wf_flat.specs.Memory.{data_in}
use Rattle.wf_flat.specs.Accesses.{Access, holds_page, is_ending}
use Rattle.wf_flat.proofs.ListLemmas.{all_append, and_some, some_and}
use Rattle.wf_flat.proofs.SortLemmas.{all_sorted}
use Rattle.wf_effects.specs.Effects.{mapped, mapped_pages, new_reach, reaching, shared_words, words_of}
use Rattle.wf_effects.specs.Generations.{is_live}
use Rattle.wf_effects.specs.Ranges.{is_data, is_live_text}
use Rattle.wf_effects.proofs.MappedLemmas.{mapped_numbers, mapped_ordered}
use Rattle.wf_sound.specs.Sound.{HasHolder, IsDelta, IsInPlace, IsMet, IsSoundGen, IsSoundPage, IsSoundState, IsUnused}
use Rattle.wf_sound.proofs.AllLemmas.{all_both, all_found, all_map, all_more, distinct_both, distinct_sorted, found_back, found_front, found_none, found_sorted, map_all}
use Rattle.wf_sound.proofs.KernelLemmas.{change_sound}
use Rattle.wf_sound.proofs.TextLemmas.{distinct_rising, places_rise, texts_live}

-- a patch's words for a page are whole
shared_whole : (shared : List DataPageValue) (page : ℕ) → AllByRecursion (λ page. IsPage page.number page.words) shared → length (shared_words shared page) ≡ 512
shared_whole shared page all = by_found (found_by (λ (p : DataPageValue). p.number) shared page) refl
  where
    by_found : (o : Option DataPageValue) → found_by (λ (p : DataPageValue). p.number) shared page ≡ o → length (unwrap_or (option_map (λ (p : DataPageValue). p.words) o) (replicate 512 0)) ≡ 512
    by_found None e = length-replicate {A = ℕ} 512 0
    by_found (Some p) e = (all_found (λ (p : DataPageValue). p.number) (λ page. IsPage page.number page.words) shared page p all e).whole

words_whole : (delta : Option DeltaValue) (page : ℕ) → IfSome delta IsDelta → length (words_of delta page) ≡ 512
words_whole None page is = length-replicate {A = ℕ} 512 0
words_whole (Some delta) page is = shared_whole delta.shared page is.shared_pages

-- the pages that are mapped are sound
pages_sound : (delta : Option DeltaValue) (write : Bool) (page birth n : ℕ) (limits : LimitsValue) (births : ℕ) → IfSome delta IsDelta → page + n ≤ 67108864 → birth + n ≤ births → AllByRecursion (IsSoundPage limits births) (mapped_pages delta write page birth n)
pages_sound delta write page birth zero limits births is low few = tt
pages_sound delta write page birth (suc n) limits births is low few = (
  record { is_page = record { whole = words_whole delta page is; low = omega arith }; writes = omega arith; birth = omega arith },
  pages_sound delta write (page + 1) (birth + 1) n limits births is (omega arith) (omega arith),
)

pages_free : (s : FlatState) (delta : Option DeltaValue) (write : Bool) (page birth n : ℕ) → AllByRecursion (HasHolder s) (mapped_pages delta write page birth n)
pages_free s delta write page birth zero = tt
pages_free s delta write page birth (suc n) = (tt, pages_free s delta write (page + 1) (birth + 1) n)

births_are : (delta : Option DeltaValue) (write : Bool) (page birth n : ℕ) → map (λ (page : PageState). page.birth) (mapped_pages delta write page birth n) ≡ range_with_len birth n
births_are delta write page birth zero = refl
births_are delta write page birth (suc n) = ap (λ (ns : List ℕ). birth ∷ ns) (births_are delta write (page + 1) (birth + 1) n)

range_above : (a b n : ℕ) → a < b → AllByRecursion (λ m. a < m) (range_with_len b n)
range_above a b zero lt = tt
range_above a b (suc n) lt = (lt, range_above a (b + 1) n (omega arith))

pub range_rises : (a n : ℕ) → IsRising (range_with_len a n)
range_rises a zero = tt
range_rises a (suc n) = (range_above a (a + 1) n (omega arith), range_rises (a + 1) n)

births_distinct : (pages : List PageState) (delta : Option DeltaValue) (write : Bool) (first births n : ℕ) → AllByRecursion (λ page. page.birth < births) pages → IsDistinct nat_eq (map (λ page. page.birth) pages) → IsDistinct nat_eq (map (λ page. page.birth) (pages ++ mapped_pages delta write first births n))
births_distinct pages delta write first births n old d =
    rw (map-append (λ (page : PageState). page.birth) pages (mapped_pages delta write first births n), births_are delta write first births n)
    (distinct_both (map (λ (page : PageState). page.birth) pages) (range_with_len births n) d (distinct_rising (range_with_len births n) (range_rises births n))
    (all_map (λ (page : PageState). page.birth < births) (λ x. AllByRecursion (λ y. nat_eq x y ≡ false) (range_with_len births n)) (λ page. page.birth)
    (λ page lt. all_more (λ m. page.birth < m) (λ y. nat_eq page.birth y ≡ false) (λ y below. grind (arith, nat_tests)) (range_with_len births n) (range_above page.birth births n lt)) pages old))

-- a page that was there is found as before
pub mapped_front : (s : FlatState) (first n : ℕ) (write : Bool) (delta : Option DeltaValue) (m : ℕ) (page : PageState) → data_in s.pages m ≡ Some page → data_in (mapped s first n write delta).pages m ≡ Some page
mapped_front s first n write delta m page e =
    let new : List PageState = mapped_pages delta write first s.births n in
    found_sorted (λ (page : PageState). page.number) (s.pages ++ new) m ∙ found_front (λ (page : PageState). page.number) s.pages new m page e

no_page : (o : Option PageState) → is_some o ≡ false → o ≡ None
no_page None e = refl
no_page (Some page) e = absurd cc

-- a page that is none of those is there as before
pub mapped_past : (s : FlatState) (first n : ℕ) (write : Bool) (delta : Option DeltaValue) (m : ℕ) → AllByRecursion (λ k. k ≢ m) (range_with_len first n) → is_data s m ≡ false → is_data (mapped s first n write delta) m ≡ false
mapped_past s first n write delta m apart e =
    let new : List PageState = mapped_pages delta write first s.births n in
    let number : PageState → ℕ = λ page. page.number in
    let others : AllByRecursion (λ k. k ≢ m) (map number new) = subst (AllByRecursion (λ (k : ℕ). k ≢ m)) (sym (mapped_numbers delta write first s.births n)) apart in
    ap is_some (found_sorted number (s.pages ++ new) m ∙ found_back number s.pages new m (no_page (data_in s.pages m) e) ∙ found_none number new m (map_all (λ page. page.number ≢ m) (λ k. k ≢ m) number (λ page f. f) new others))

-- pages that are not used are none that are text
unused_apart : (s : FlatState) (ns : List ℕ) (m : ℕ) → is_live_text s m ≡ true → AllByRecursion (IsUnused s) ns → AllByRecursion (λ k. k ≢ m) ns
unused_apart s ns m text unused = all_more (IsUnused s) (λ k. k ≢ m) (λ k none same. (let e : is_live_text s m ≡ false = subst (λ (j : ℕ). is_live_text s j ≡ false) same none.1 in absurd cc)) ns unused

reach_kept : (numbers : List ℕ) (gen : GenState) → IsRising gen.reach → IsRising (new_reach numbers gen)
reach_kept numbers gen up = by_live gen.live
  where
    by_live : (b : Bool) → IsRising (if b then places_with gen.reach numbers else gen.reach)
    by_live true = places_rise gen.reach numbers up
    by_live false = up

mapped_gen : (numbers : List ℕ) → (o : Option GenState) → unwrap_or (option_map (λ (gen : GenState). gen.live) (option_map (reaching numbers) o)) false ≡ unwrap_or (option_map (λ (gen : GenState). gen.live) o) false
mapped_gen numbers None = refl
mapped_gen numbers (Some gen) = refl

-- the same generations live
pub mapped_live : (s : FlatState) (first n : ℕ) (write : Bool) (delta : Option DeltaValue) (g : ℕ) → is_live (mapped s first n write delta) g ≡ is_live s g
mapped_live s first n write delta g =
    ap (λ (o : Option GenState). unwrap_or (option_map (λ (gen : GenState). gen.live) o) false) (slice_get-map (reaching (range_with_len first n)) s.gens g)
    ∙ mapped_gen (range_with_len first n) (slice_get s.gens g)

mapped_place : (numbers : List ℕ) (g : ℕ) (o : Option GenState) → ((gen : GenState) → o ≡ Some gen → IsInPlace g gen) → (gen : GenState) → option_map (reaching numbers) o ≡ Some gen → IsInPlace g gen
mapped_place numbers g None placed gen e = absurd cc
mapped_place numbers g (Some old) placed gen e = let same : reaching numbers old ≡ gen = cc in subst (IsInPlace g) same (placed old refl)

-- pages that are not used are mapped
pub mapped_sound : (deltas : List DeltaValue) (s : FlatState) (first n : ℕ) (write : Bool) (delta : Option DeltaValue) → IsSoundState deltas s → IfSome delta IsDelta → first + n ≤ 67108864 → AllByRecursion (IsUnused s) (range_with_len first n)
    → used_of (mapped s first n write delta) + s.worn ≤ s.limits.frames → IsSoundState deltas (mapped s first n write delta)
mapped_sound deltas s first n write delta sound is low unused frames =
    let t : FlatState = mapped s first n write delta in
    let number : PageState → ℕ = λ page. page.number in
    let new : List PageState = mapped_pages delta write first s.births n in
    let numbers : List ℕ = range_with_len first n in
    let none : AllByRecursion (λ m. is_data s m ≡ false) numbers = all_more (IsUnused s) (λ m. is_data s m ≡ false) (λ m e. e.0) numbers unused in
    let len = length-map s.gens (reaching numbers) in
    let few = sound.few_gens in
    change_sound deltas s t.pages t.gens t.met t.births t.worn sound (record {
      ordered = mapped_ordered s first n write delta sound.ordered none;
      pages = all_sorted (IsSoundPage s.limits (s.births + n)) number (s.pages ++ new) (all_append (IsSoundPage s.limits (s.births + n)) s.pages new
          (all_more (IsSoundPage s.limits s.births) (IsSoundPage s.limits (s.births + n)) (λ page old. record { is_page = old.is_page; writes = old.writes; birth = (let k = old.birth in omega arith) }) s.pages sound.pages)
          (pages_sound delta write first s.births n s.limits (s.births + n) is low (omega arith)));
      births = distinct_sorted (λ (page : PageState). page.birth) number (s.pages ++ new)
          (births_distinct s.pages delta write first s.births n (all_more (IsSoundPage s.limits s.births) (λ page. page.birth < s.births) (λ page old. old.birth) s.pages sound.pages) sound.births);
      held = all_sorted (HasHolder s) number (s.pages ++ new) (all_append (HasHolder s) s.pages new sound.held (pages_free s delta write first s.births n));
      more_gens = omega arith;
      few_gens = omega arith;
      placed = λ g gen e. mapped_place numbers g (slice_get s.gens g) (sound.placed g) gen (sym (slice_get-map (reaching numbers) s.gens g) ∙ e);
      gens = all_map (λ (gen : GenState). IsSoundGen deltas s gen × (gen.live ≡ true → AllByRecursion (λ m. is_live_text s m ≡ true) (text_numbers gen.text))) (IsSoundGen deltas t) (reaching numbers)
          (λ gen both. record {
            kept = record { rising = both.0.kept.rising; reach_rising = reach_kept numbers gen both.0.kept.reach_rising };
            whole = both.0.whole;
            patches = both.0.patches;
            apart = λ live. all_both (λ m. is_data s m ≡ false) (λ m. is_live_text s m ≡ true) (λ m. is_data t m ≡ false)
                (λ m e text. mapped_past s first n write delta m (unused_apart s numbers m text unused) e) (text_numbers gen.text) (both.0.apart live) (both.1 live);
          })
          s.gens (all_both (IsSoundGen deltas s) (λ (gen : GenState). gen.live ≡ true → AllByRecursion (λ m. is_live_text s m ≡ true) (text_numbers gen.text)) _ (λ gen a b. (a, b)) s.gens sound.gens (texts_live s));
      live = λ o hart known runs live. mapped_live s first n write delta hart.generation ∙ live;
      more_births = omega arith;
      holds = λ o access e. mapped_holds o access (data_in s.pages (page_of access.va)) refl e;
      met = all_more (IsMet s) (IsMet t) (λ pair met. (let w = some_and (data_in s.pages pair.1) (λ page. is_ending page.stage ≡ false) met.1 in
          (mapped_live s first n write delta pair.0 ∙ met.0, and_some (data_in t.pages pair.1) (λ page. is_ending page.stage ≡ false) w.0 (mapped_front s first n write delta pair.1 w.0 w.1) w.2))) s.met sound.met;
      frames = frames;
    })
  where
    mapped_holds : (o : ℕ) (access : Access) (p : Option PageState) → data_in s.pages (page_of access.va) ≡ p → holds_page o (data_in s.pages (page_of access.va)) ≡ true → holds_page o (data_in (mapped s first n write delta).pages (page_of access.va)) ≡ true
    mapped_holds o access None found e = absurd (let k : holds_page o (data_in s.pages (page_of access.va)) ≡ false = ap (holds_page o) found in cc)
    mapped_holds o access (Some page) found e = ap (holds_page o) (mapped_front s first n write delta (page_of access.va) page found) ∙ sym (ap (holds_page o) found) ∙ e
