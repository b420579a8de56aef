-- What a mapping is refused for by the records, and by the table of calls.
use Rattle.std.proofs.Common.{◌≡◌, ◌<◌, ◌≤◌, ◌+◌, ◌-◌, ◌==◌, ◌||◌, ◌&&◌, ℕ, suc, List, [], ◌∷◌, Bool, true, false, not, Option, Some, None, length, map, refl, sym, ap, subst, ◌∙◌, inl, inr, arith, is_some}
use Rattle.std.specs.Prelude.{IsSomeAnd, MatchOption, slice_get, unwrap_or}
use Rattle.std.specs.Option.{option_map}
use Rattle.std.specs.List.{AllByRecursion, find, list_any, range_with_len}
use Rattle.wf_outside.specs.declared.refusal.Refusal.{Refusal}
use Rattle.wf_outside.specs.declared.refusal.Refusal.TheVariants.{Leaving, Overlap}
use Rattle.wf_outside.specs.Images.{text_numbers}
use Rattle.wf_outside.specs.Lists.{IsRising, first_of}
use Rattle.wf_outside.specs.Pages.{PageValue, page_of}
use Rattle.wf_frames.specs.Layout.{WordsValue}
use Rattle.wf_views.specs.declared.pages.PageAt.{PageAt}
use Rattle.wf_views.specs.declared.records.Records.{Records}
use Rattle.wf_views.specs.declared.view.TextAt.{TextAt}
use Rattle.wf_views.specs.Lists.{found_by}
use Rattle.wf_views.specs.Pages.{page_at}
use Rattle.wf_views.specs.Views.{ViewValue, generation_number, view_of}
use Rattle.wf_flat.specs.declared.state.Stage.{Stage}
use Rattle.wf_flat.specs.declared.state.Stage.TheVariants.{Ending, Going, Here}
use Rattle.wf_flat.specs.Accesses.{is_ending, is_going, is_here}
use Rattle.wf_flat.specs.Counts.{used_of}
use Rattle.wf_flat.specs.Memory.{data_in, page_in}
use Rattle.wf_flat.specs.State.{FlatState, GenState, PageState}
use Rattle.wf_flat.proofs.FoundLemmas.{key_of_found}
use Rattle.wf_effects.specs.Effects.{mapped}
use Rattle.wf_effects.specs.Ranges.{is_live_text, is_page_ending, is_page_here}
use Rattle.wf_homes.specs.Homes.{DataOf, Homes, free_frames, home_frame}
use Rattle.wf_homes.specs.Kept.{IsKeptPage, IsKeptView, LiesIn, record_of, text_frame, text_page}
use Rattle.wf_homes.specs.Laws.{IsTidy}
use Rattle.wf_homes.specs.Stands.{StandsFor, living_at}
use Rattle.wf_homes.proofs.CountLemmas.{tenants_counted}
use Rattle.wf_homes.proofs.HomeLemmas.{free_counted}
use Rattle.wf_homes.proofs.ListLemmas.{true_or_false}
use Rattle.wf_space.proofs.MeetLemmas.{found_each, some_of}
use Rattle.wf_space.specs.Jobs.{is_ending_at, leaving_in}
use Rattle.wf_verdict.specs.Verdict.{bad_right, free_of, leaving, more_than_free, no_frames, overlap}
use Rattle.wf_mapping.specs.declared.layout.Mapping.{Mapping}
use Rattle.wf_mapping.specs.Laws.{MapRefusalsAgree, NoneGoing, mapped_by}
use Rattle.wf_mapping.specs.Layout.{free_in, need_of, numbers_of}
use Rattle.wf_mapping.specs.Refusals.{is_here_at, is_text_at, no_frames_in, overlap_in, stays}
use Rattle.wf_mapping.proofs.AnyLemmas.{any_flat, any_same}
use Rattle.wf_mapping.proofs.DataLemmas.{data_tenant}
use Rattle.wf_mapping.proofs.FreeLemmas.{free_agree}
use Rattle.wf_mapping.proofs.NeedLemmas.{need_counted}
use Rattle.wf_mapping.proofs.NodeLemmas.{all_each, flat_found, for_view, view_low}
use Rattle.wf_mapping.proofs.ReserveLemmas.{found_at}

find_same : (p q : ℕ → Bool) → ((n : ℕ) → p n ≡ q n) → (xs : List ℕ) → find p xs ≡ find q xs
find_same p q same [] = refl
find_same p q same (x ∷ xs) = elim (true_or_false (q x)) [
  | inl t ↦ (let u : p x ≡ true = same x ∙ t in rw (u, t) refl)
  | inr t ↦ (let u : p x ≡ false = same x ∙ t in rw (u, t) (find_same p q same xs))
]

or_none : (b : Bool) → (b || false) ≡ b
or_none true = refl
or_none false = refl

-- a test of each element, by its place
any_index : {A : Type 0} (p : A → Bool) (q : ℕ → Bool) (xs : List A) (a : ℕ) → ((i : ℕ) (x : A) → slice_get xs i ≡ Some x → p x ≡ q (a + i)) → list_any p xs ≡ list_any q (range_with_len a (length xs))
any_index p q [] a each = refl
any_index p q (x ∷ xs) a each =
    let z : a + 0 ≡ a = omega arith in
    ap (λ (b : Bool). b || list_any p xs) (each 0 x refl ∙ ap q z)
    ∙ ap (λ (b : Bool). q a || b) (any_index p q xs (a + 1) (λ i y e. (each (suc i) y e ∙ ap q (let k : a + suc i ≡ a + 1 + i = omega arith in k))))

-- a page is found among those of its numbers
text_found : (text : List TextAt) (n : ℕ) → is_some (option_map (λ t. t.frame) (found_by text_page text n)) ≡ list_any (λ k. k == n) (map text_page text)
text_found [] n = refl
text_found (x ∷ xs) n = elim (true_or_false (x.page == n)) [
  | inl t ↦ (rw t refl)
  | inr t ↦ (rw t (text_found xs n))
]

page_found : (text : List PageValue) (n : ℕ) → is_some (page_in text n) ≡ list_any (λ k. k == n) (text_numbers text)
page_found [] n = refl
page_found (x ∷ xs) n = elim (true_or_false (x.number == n)) [
  | inl t ↦ (rw t refl)
  | inr t ↦ (rw t (page_found xs n))
]

module _ (words : WordsValue) (r : Records) (homes : Homes) (s : FlatState) (st : StandsFor words r homes s) (tidy : IsTidy s) (up : IsRising (map generation_number r.views.views)) where
  none_is : {A : Type 0} (o : Option A) → is_some o ≡ false → o ≡ None
  none_is None e = refl
  none_is (Some p) e = absurd cc

  pub there_same : (n : ℕ) → is_some (page_at r.pages n) ≡ is_some (data_in s.pages n)
  there_same n = sym (framed (page_at r.pages n)) ∙ ap is_some (st.at_home (DataOf n)) ∙ st.housed.each (DataOf n) ∙ data_tenant s n
    where
      framed : (o : Option PageAt) → is_some (option_map (λ (p : PageAt). p.frame) o) ≡ is_some o
      framed None = refl
      framed (Some p) = refl

  -- a page of data by its record
  by_record : (f : PageAt → Bool) (g : PageState → Bool) → ((x : PageState) (frame : ℕ) → f (record_of x frame) ≡ g x) → (n : ℕ) → unwrap_or (option_map f (page_at r.pages n)) false ≡ unwrap_or (option_map g (data_in s.pages n)) false
  by_record f g same n = by_data (data_in s.pages n) refl
    where
      by_data : (o : Option PageState) → data_in s.pages n ≡ o → unwrap_or (option_map f (page_at r.pages n)) false ≡ unwrap_or (option_map g (data_in s.pages n)) false
      by_data None e =
          let none : page_at r.pages n ≡ None = none_is (page_at r.pages n) (there_same n ∙ ap is_some e) in
          rw (none, e) refl
      by_data (Some x) e =
          let number : x.number ≡ n = key_of_found (λ (y : PageState). y.number) s.pages n x e in
          let h = some_of (home_frame homes (DataOf x.number)) (LiesIn words r x) (found_each (IsKeptPage words r homes) s.pages n x st.pages e) in
          let recorded : page_at r.pages n ≡ Some (record_of x h.0) = ap (λ (k : ℕ). page_at r.pages k) (sym number) ∙ h.2.recorded in
          ap (λ (o : Option PageAt). unwrap_or (option_map f o) false) recorded ∙ same x h.0 ∙ sym (ap (λ (o : Option PageState). unwrap_or (option_map g o) false) e)

  pub here_same : (n : ℕ) → is_here_at r n ≡ is_page_here s n
  here_same n = by_record stays (λ page. is_here page.stage) (λ x frame. by_stage x.stage) n
    where
      by_stage : (stage : Stage) → (not (is_going stage) && not (is_ending stage)) ≡ is_here stage
      by_stage Here = refl
      by_stage Going = refl
      by_stage Ending = refl

  ending_same : (n : ℕ) → is_ending_at r n ≡ is_page_ending s n
  ending_same n = by_record (λ page. page.ending) (λ page. is_ending page.stage) (λ x frame. refl) n

  -- text by views, and by generations
  module _ (n : ℕ) where
    abbrev has_text : ViewValue → Bool
    has_text view = is_some (text_frame view n)

    abbrev one : ViewValue → List Bool
    one view = has_text view ∷ []

    abbrev by_view : ℕ → Bool
    by_view g = list_any (λ b. b) (for_view one (view_of r.views g))

    gen_same : (k : ℕ) (gen : GenState) → slice_get s.gens k ≡ Some gen → (gen.live && is_some (page_in gen.text n)) ≡ by_view k
    gen_same k gen at = by_live gen.live refl
      where
        in_view : (o : Option ViewValue) → IsSomeAnd o (IsKeptView words homes s gen) → is_some (page_in gen.text n) ≡ list_any (λ b. b) (for_view one o)
        in_view None kept = absurd kept
        in_view (Some view) kept =
            page_found gen.text n ∙ sym (ap (list_any (λ k. k == n)) kept.pages) ∙ sym (text_found view.text n) ∙ sym (or_none (has_text view))

        by_live : (b : Bool) → gen.live ≡ b → (gen.live && is_some (page_in gen.text n)) ≡ by_view k
        by_live true e =
            let living : living_at s k ≡ Some gen = rw (at, e) refl in
            let kept : IsSomeAnd (view_of r.views k) (IsKeptView words homes s gen) =
            (let h : MatchOption (Some gen) (view_of r.views k ≡ None) (λ gen. IsSomeAnd (view_of r.views k) (IsKeptView words homes s gen)) = subst (λ (o : Option GenState). MatchOption o (view_of r.views k ≡ None) (λ gen. IsSomeAnd (view_of r.views k) (IsKeptView words homes s gen))) living (st.views k) in h) in
            ap (λ (b : Bool). b && is_some (page_in gen.text n)) e ∙ in_view (view_of r.views k) kept
        by_live false e =
            let dead : living_at s k ≡ None = rw (at, e) refl in
            let none : view_of r.views k ≡ None =
            (let h : MatchOption None (view_of r.views k ≡ None) (λ gen. IsSomeAnd (view_of r.views k) (IsKeptView words homes s gen)) = subst (λ (o : Option GenState). MatchOption o (view_of r.views k ≡ None) (λ gen. IsSomeAnd (view_of r.views k) (IsKeptView words homes s gen))) dead (st.views k) in h) in
            ap (λ (b : Bool). b && is_some (page_in gen.text n)) e ∙ sym (ap (λ (o : Option ViewValue). list_any (λ b. b) (for_view one o)) none)

    text_same : is_text_at r n ≡ is_live_text s n
    text_same =
        let views : List ViewValue = r.views.views in
        let low : AllByRecursion (λ v. 0 ≤ v.generation) views = all_each (λ v. 0 ≤ v.generation) views (λ i v e. omega arith) in
        let high : AllByRecursion (λ v. v.generation < 0 + length s.gens) views = all_each (λ v. v.generation < 0 + length s.gens) views (λ i v e. (let lt : v.generation < length s.gens = view_low words r homes s st tidy [] v.generation (found_at generation_number views i v e) in omega arith)) in
        any_same has_text (λ view. has_text view || false) (λ view. sym (or_none (has_text view))) views
        ∙ sym (any_flat (λ b. b) one views)
        ∙ sym (ap (list_any (λ b. b)) (flat_found one views 0 (length s.gens) up low high))
        ∙ any_flat (λ b. b) (λ g. for_view one (view_of r.views g)) (range_with_len 0 (length s.gens))
        ∙ sym (any_index (λ gen. gen.live && is_some (page_in gen.text n)) by_view s.gens 0 (λ i gen e. (gen_same i gen e ∙ ap by_view (let z : i ≡ 0 + i = omega arith in z))))

  pub overlap_same : (ps : List ℕ) → overlap_in r ps ≡ overlap s ps
  overlap_same ps =
      ap (option_map Overlap)
      (find_same (λ page. is_here_at r page || is_text_at r page) (λ page. is_page_here s page || is_live_text s page) (λ n. (ap (λ (b : Bool). b || is_text_at r n) (here_same n) ∙ ap (λ (b : Bool). is_page_here s n || b) (text_same n))) ps)

  pub leaving_same : (ps : List ℕ) → leaving_in r ps ≡ leaving s ps
  leaving_same ps = ap (option_map Leaving) (find_same (is_ending_at r) (λ page. is_page_ending s page) ending_same ps)

  pub free_same : length (free_in r) ≡ free_of s
  free_same =
      let e : length (free_in r) ≡ length (free_frames s.limits.frames homes) = ap length (free_agree words r homes s st) in
      let c : length (free_frames s.limits.frames homes) + used_of s + s.worn ≡ s.limits.frames = free_counted homes s st.housed (tenants_counted s tidy) in
      omega arith

  module _ (mapping : Mapping) (going : NoneGoing s) where
    abbrev pages : List ℕ
    pages = numbers_of mapping

    frames_same : AllByRecursion (λ page. data_in s.pages page ≡ None) pages → no_frames_in r mapping ≡ no_frames s (mapped_by s mapping)
    unfolding no_frames
    frames_same absent =
        let n : used_of s + need_of r mapping ≡ used_of (mapped_by s mapping) = need_counted words r homes s mapping st tidy up absent in
        let d : need_of r mapping ≡ used_of (mapped_by s mapping) - used_of s = omega arith in
        ap (λ (k : ℕ). more_than_free k (length (free_in r))) d ∙ ap (more_than_free (used_of (mapped_by s mapping) - used_of s)) free_same

    -- where no page overlaps or leaves, none is a page of data
    absent_one : (n : ℕ) → (is_page_here s n || is_live_text s n) ≡ false → is_page_ending s n ≡ false → data_in s.pages n ≡ None
    absent_one n o l = by_data (data_in s.pages n) refl
      where
        first : (a b : Bool) → (a || b) ≡ false → a ≡ false
        first true b e = e
        first false b e = refl

        by_stage : (stage : Stage) → is_here stage ≡ false → is_ending stage ≡ false → is_going stage ≡ false → ⊥
        by_stage Here a b c = absurd cc
        by_stage Going a b c = absurd cc
        by_stage Ending a b c = absurd cc

        by_data : (o : Option PageState) → data_in s.pages n ≡ o → o ≡ None
        by_data None e = refl
        by_data (Some x) e =
            let a : is_here x.stage ≡ false = sym (ap (λ (o : Option PageState). unwrap_or (option_map (λ page. is_here page.stage) o) false) e) ∙ first (is_page_here s n) (is_live_text s n) o in
            let b : is_ending x.stage ≡ false = sym (ap (λ (o : Option PageState). unwrap_or (option_map (λ page. is_ending page.stage) o) false) e) ∙ l in
            let c : is_going x.stage ≡ false = found_each (λ page. is_going page.stage ≡ false) s.pages n x going e in
            absurd (by_stage x.stage a b c)

    pub all_absent : (ps : List ℕ) → overlap s ps ≡ None → leaving s ps ≡ None → AllByRecursion (λ page. data_in s.pages page ≡ None) ps
    all_absent [] o l = tt
    all_absent (n ∷ ps) o l = elim (true_or_false (is_page_here s n || is_live_text s n)) [
      | inl t ↦ absurd (let k : Some (Overlap n) ≡ None = rw t at o in cc)
      | inr t ↦ (elim (true_or_false (is_page_ending s n)) [
        | inl u ↦ absurd (let k : Some (Leaving n) ≡ None = rw u at l in cc)
        | inr u ↦ (absent_one n t u, all_absent ps (rw t at o) (rw u at l))
      ])
    ]

    -- the first that applies is the same
    firsts_same : (o l : Option Refusal) → overlap s pages ≡ o → leaving s pages ≡ l → first_of (o ∷ l ∷ no_frames_in r mapping ∷ []) ≡ first_of (o ∷ l ∷ no_frames s (mapped_by s mapping) ∷ [])
    firsts_same (Some x) l e f = refl
    firsts_same None (Some x) e f = refl
    firsts_same None None e f = ap (λ (o : Option Refusal). first_of (o ∷ [])) (frames_same (all_absent pages e f))

    three_same : first_of (overlap_in r pages ∷ leaving_in r pages ∷ no_frames_in r mapping ∷ []) ≡ first_of (overlap s pages ∷ leaving s pages ∷ no_frames s (mapped_by s mapping) ∷ [])
    three_same =
        ap (λ (o : Option Refusal). first_of (o ∷ leaving_in r pages ∷ no_frames_in r mapping ∷ [])) (overlap_same pages)
        ∙ ap (λ (o : Option Refusal). first_of (overlap s pages ∷ o ∷ no_frames_in r mapping ∷ [])) (leaving_same pages)
        ∙ firsts_same (overlap s pages) (leaving s pages) refl refl

pub refusals_same : MapRefusalsAgree
refusals_same words r homes s mapping right deltas next st tidy up going fine right_fine write =
    let ps : List ℕ = numbers_of mapping in
    three_same words r homes s st tidy up mapping going
    ∙ ap (λ (write : Bool). first_of (overlap s ps ∷ leaving s ps ∷ no_frames s (mapped s (page_of mapping.va) mapping.pages write None) ∷ [])) write
    ∙ sym (ap (λ (o : Option Refusal). first_of (o ∷ bad_right right ∷ overlap s ps ∷ leaving s ps ∷ no_frames s (mapped s (page_of mapping.va) mapping.pages (right == 3) None) ∷ [])) fine
    ∙ ap (λ (o : Option Refusal). first_of (None ∷ o ∷ overlap s ps ∷ leaving s ps ∷ no_frames s (mapped s (page_of mapping.va) mapping.pages (right == 3) None) ∷ [])) right_fine)
