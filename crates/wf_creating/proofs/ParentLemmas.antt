-- What records have of a generation that lives, and of pages of data, is what the state has.
use Rattle.std.proofs.Common.{◌≡◌, ◌<◌, ◌==◌, ℕ, suc, List, [], ◌∷◌, Bool, true, false, Option, Some, None, length, map, refl, sym, ap, subst, ◌∙◌, inl, inr, arith, is_some, nat_eq}
use Rattle.std.specs.Prelude.{IsSomeAnd, MatchOption, slice_get, unwrap_or}
use Rattle.std.specs.Option.{option_map}
use Rattle.std.specs.List.{AllByRecursion, filter}
use Rattle.std.specs.Set.{is_member}
use Rattle.std.proofs.lemmas.Bool.Decides.{nat_tests}
use Rattle.wf_outside.specs.Images.{text_numbers}
use Rattle.wf_outside.specs.Lists.{IsRising}
use Rattle.wf_frames.specs.Layout.{WordsValue}
use Rattle.wf_views.specs.declared.pages.PageAt.{PageAt}
use Rattle.wf_views.specs.declared.records.Records.{Records}
use Rattle.wf_views.specs.Lists.{found_by}
use Rattle.wf_views.specs.Pages.{page_at, page_number}
use Rattle.wf_views.specs.Views.{ViewValue, view_of}
use Rattle.wf_flat.specs.Accesses.{generation_text, is_here}
use Rattle.wf_flat.specs.Boot.{places_with}
use Rattle.wf_flat.specs.Memory.{data_in}
use Rattle.wf_flat.specs.Ordered.{page_numbers}
use Rattle.wf_flat.specs.State.{FlatState, GenState, PageState}
use Rattle.wf_effects.specs.Effects.{here_numbers, newborn}
use Rattle.wf_effects.specs.Generations.{is_live, jumps_in, patches_in}
use Rattle.wf_effects.specs.Ranges.{is_page_here}
use Rattle.wf_homes.specs.Homes.{Homes}
use Rattle.wf_homes.specs.Kept.{IsKeptView}
use Rattle.wf_homes.specs.Stands.{StandsFor, born_of, living_at}
use Rattle.wf_homes.proofs.ListLemmas.{all_more, true_or_false}
use Rattle.wf_mapping.specs.Refusals.{is_here_at, stays}
use Rattle.wf_mapping.proofs.AgreeLemmas.{here_same, there_same}
use Rattle.wf_mapping.proofs.PlaceLemmas.{rising_same}
use Rattle.wf_creating.specs.Laws.{StandsInOrder}
use Rattle.wf_creating.specs.Parents.{numbers_here, parent_jumps, parent_patches, reach_at_birth, text_numbers_of}

-- two lists that have elements at the same places have the same length
pub as_long : {A B : Type 0} (xs : List A) (ys : List B) → ((i : ℕ) → is_some (slice_get xs i) ≡ is_some (slice_get ys i)) → length xs ≡ length ys
as_long [] [] same = refl
as_long [] (y ∷ ys) same = absurd (let k : false ≡ true = same 0 in cc)
as_long (x ∷ xs) [] same = absurd (let k : true ≡ false = same 0 in cc)
as_long (x ∷ xs) (y ∷ ys) same = ap suc (as_long xs ys (λ i. same (suc i)))

map_some : {A B : Type 0} (f : A → B) (o : Option A) → is_some (option_map f o) ≡ is_some o
map_some f None = refl
map_some f (Some x) = refl

-- a test of elements by their numbers, each of which is that of one element
module _ {A : Type 0} (key : A → ℕ) where
  -- an element of rising numbers is found by its own
  pub found_own : (xs : List A) → IsRising (map key xs) → AllByRecursion (λ x. found_by key xs (key x) ≡ Some x) xs
  found_own [] up = tt
  found_own (x ∷ xs) up =
      let same : (key x == key x) ≡ true = grind (arith, nat_tests) in
      (rw same refl, later xs up.0 (found_own xs up.1))
    where
      later : (ys : List A) → AllByRecursion (λ k. key x < k) (map key ys) → AllByRecursion (λ y. found_by key xs (key y) ≡ Some y) ys → AllByRecursion (λ y. found_by key (x ∷ xs) (key y) ≡ Some y) ys
      later [] above all = tt
      later (y ∷ ys) above all =
          let lt : key x < key y = above.0 in
          let t : (key x == key y) ≡ false = grind (arith, nat_tests) in
          (rw t all.0, later ys above.1 all.1)

  -- those that pass a test are those whose numbers do
  pub kept_numbers : (p : A → Bool) (q : ℕ → Bool) (xs : List A) → AllByRecursion (λ x. p x ≡ q (key x)) xs → map key (filter p xs) ≡ filter q (map key xs)
  kept_numbers p q [] all = refl
  kept_numbers p q (x ∷ xs) all = elim (true_or_false (q (key x))) [
    | inl t ↦ (let u : p x ≡ true = all.0 ∙ t in rw (u, t) (ap (λ (ks : List ℕ). key x ∷ ks) (kept_numbers p q xs all.1)))
    | inr t ↦ (let u : p x ≡ false = all.0 ∙ t in rw (u, t) (kept_numbers p q xs all.1))
  ]

  pub member_found : (xs : List A) (n : ℕ) → is_member nat_eq (map key xs) n ≡ is_some (found_by key xs n)
  member_found [] n = refl
  member_found (x ∷ xs) n = elim (true_or_false (key x == n)) [
    | inl t ↦ (let u : nat_eq n (key x) ≡ true = grind (arith, nat_tests) in rw (t, u) refl)
    | inr t ↦ (let u : nat_eq n (key x) ≡ false = grind (arith, nat_tests) in rw (t, u) (member_found xs n))
  ]

same_filter : (p q : ℕ → Bool) → ((n : ℕ) → p n ≡ q n) → (ns : List ℕ) → filter p ns ≡ filter q ns
same_filter p q same [] = refl
same_filter p q same (n ∷ ns) = elim (true_or_false (q n)) [
  | inl t ↦ (let u : p n ≡ true = same n ∙ t in rw (u, t) (ap (λ (ks : List ℕ). n ∷ ks) (same_filter p q same ns)))
  | inr t ↦ (let u : p n ≡ false = same n ∙ t in rw (u, t) (same_filter p q same ns))
]

-- a generation that lives, and its view
pub record IsParent (words : WordsValue) (r : Records) (homes : Homes) (s : FlatState) (g : ℕ) : Type 0 where
  pub gen : GenState
  pub view : ViewValue
  pub at : slice_get s.gens g ≡ Some gen
  pub live : gen.live ≡ true
  pub there : view_of r.views g ≡ Some view
  pub kept : IsKeptView words homes s gen view

module _ (words : WordsValue) (r : Records) (homes : Homes) (s : FlatState) (o : StandsInOrder words r homes s) where
  abbrev st : StandsFor words r homes s
  st = o.stands

  abbrev MatchesView : ℕ → Option GenState → Type 0
  MatchesView g gen = MatchOption gen (view_of r.views g ≡ None) (λ gen. IsSomeAnd (view_of r.views g) (IsKeptView words homes s gen))

  matches : (g : ℕ) (o : Option GenState) → living_at s g ≡ o → MatchesView g o
  matches g o e = subst (MatchesView g) e (st.views g)

  pub view_there : (g : ℕ) → is_some (view_of r.views g) ≡ is_live s g
  view_there g = by_gen (slice_get s.gens g) refl
    where
      some_is : (v : Option ViewValue) (gen : GenState) → IsSomeAnd v (IsKeptView words homes s gen) → is_some v ≡ true
      some_is None gen h = absurd h
      some_is (Some v) gen h = refl

      by_gen : (o : Option GenState) → slice_get s.gens g ≡ o → is_some (view_of r.views g) ≡ is_live s g
      by_gen None e =
          let none : view_of r.views g ≡ None = matches g None (rw e refl) in
          rw (none, e) refl
      by_gen (Some gen) e = elim (true_or_false gen.live) [
        | inl t ↦ (
            let kept : IsSomeAnd (view_of r.views g) (IsKeptView words homes s gen) = matches g (Some gen) (rw (e, t) refl) in
            some_is (view_of r.views g) gen kept ∙ sym (rw (e, t) refl)
            )
        | inr t ↦ (
            let none : view_of r.views g ≡ None = matches g None (rw (e, t) refl) in
            rw (none, e, t) refl
            )
      ]

  pub parent_of : (g : ℕ) → is_live s g ≡ true → IsParent words r homes s g
  parent_of g live = by_gen (slice_get s.gens g) refl
    where
      by_view : (gen : GenState) (v : Option ViewValue) → slice_get s.gens g ≡ Some gen → gen.live ≡ true → view_of r.views g ≡ v → IsSomeAnd v (IsKeptView words homes s gen) → IsParent words r homes s g
      by_view gen None e t f h = absurd h
      by_view gen (Some v) e t f h = record { gen = gen; view = v; at = e; live = t; there = f; kept = h }

      by_gen : (o : Option GenState) → slice_get s.gens g ≡ o → IsParent words r homes s g
      by_gen None e = absurd (let k : false ≡ true = rw e at live in cc)
      by_gen (Some gen) e =
          let t : gen.live ≡ true = rw e at live in
          by_view gen (view_of r.views g) e t refl (matches g (Some gen) (rw (e, t) refl))

  -- as many generations were born
  pub as_many_born : length r.born.items ≡ length s.gens
  as_many_born = as_long r.born.items s.gens (λ i. (ap is_some (st.born i) ∙ map_some born_of (slice_get s.gens i)))

  pub numbers_same : (g : ℕ) → is_live s g ≡ true → text_numbers_of r g ≡ text_numbers (generation_text s g)
  numbers_same g live = (let p : IsParent words r homes s g = parent_of g live in rw (p.there, p.at) p.kept.pages)

  pub jumps_same : (g : ℕ) → is_live s g ≡ true → parent_jumps r g ≡ jumps_in s g
  jumps_same g live = (let p : IsParent words r homes s g = parent_of g live in rw (p.there, p.at) p.kept.jumps)

  pub patches_same : (g : ℕ) → is_live s g ≡ true → parent_patches r g ≡ patches_in s g
  patches_same g live = (let p : IsParent words r homes s g = parent_of g live in rw (p.there, p.at) p.kept.patches)

  -- the pages of data that are here
  page_numbers_same : map page_number r.pages.items ≡ page_numbers s.pages
  page_numbers_same =
      rising_same (map page_number r.pages.items) (page_numbers s.pages) o.pages o.tidy.ordered.pages
      (λ n. (member_found page_number r.pages.items n ∙ there_same words r homes s st o.tidy o.views n ∙ sym (member_found (λ (p : PageState). p.number) s.pages n)))

  stays_own : (p : PageAt) → page_at r.pages p.page ≡ Some p → stays p ≡ is_here_at r p.page
  stays_own p e = sym (ap (λ (o : Option PageAt). unwrap_or (option_map stays o) false) e)

  here_own : (p : PageState) → data_in s.pages p.number ≡ Some p → is_here p.stage ≡ is_page_here s p.number
  here_own p e = sym (ap (λ (o : Option PageState). unwrap_or (option_map (λ page. is_here page.stage) o) false) e)

  pub here_all : numbers_here r ≡ here_numbers s
  here_all =
      kept_numbers page_number stays (is_here_at r) r.pages.items
      (all_more (λ p. page_at r.pages p.page ≡ Some p) (λ p. stays p ≡ is_here_at r p.page) stays_own r.pages.items (found_own page_number r.pages.items o.pages))
      ∙ ap (filter (is_here_at r)) page_numbers_same
      ∙ same_filter (is_here_at r) (is_page_here s) (here_same words r homes s st o.tidy o.views) (page_numbers s.pages)
      ∙ sym (kept_numbers (λ (p : PageState). p.number) (λ p. is_here p.stage) (is_page_here s) s.pages
      (all_more (λ p. data_in s.pages p.number ≡ Some p) (λ p. is_here p.stage ≡ is_page_here s p.number) here_own s.pages (found_own (λ (p : PageState). p.number) s.pages o.tidy.ordered.pages)))

  -- the places that the generation reaches that is born
  pub reach_same : (g : ℕ) → is_live s g ≡ true → reach_at_birth r g ≡ (newborn [] s g None).reach
  reach_same g live =
      ap (λ (ns : List ℕ). places_with (places_with [] ns) (numbers_here r)) (numbers_same g live)
      ∙ ap (places_with (places_with [] (text_numbers (generation_text s g)))) here_all
