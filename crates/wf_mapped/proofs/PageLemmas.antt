-- Pages of data that are mapped, among those that are there.
use Rattle.std.proofs.Common.{◌≡◌, ◌<◌, ◌+◌, ◌==◌, ◌++◌, ℕ, zero, suc, List, [], ◌∷◌, Bool, true, false, Option, Some, None, length, refl, ap, subst, ◌∙◌, inl, inr, arith, if◌then◌else◌}
use Rattle.std.specs.Prelude.{nat_lt}
use Rattle.std.specs.List.{AllByRecursion, range_with_len}
use Rattle.std.proofs.lemmas.Bool.Decides.{nat_tests}
use Rattle.wf_views.specs.declared.pages.PageAt.{PageAt}
use Rattle.wf_views.specs.Lists as views
use Rattle.wf_views.specs.Lists.{RoomyValue}
use Rattle.wf_views.specs.Pages.{page_added, page_at, page_number}
use Rattle.wf_flat.specs.Lists.{found_by, inserted_by, sorted_by}
use Rattle.wf_flat.specs.Memory.{data_in}
use Rattle.wf_flat.specs.State.{PageState}
use Rattle.wf_effects.specs.Effects.{mapped_page, mapped_pages}
use Rattle.wf_homes.proofs.ListLemmas.{true_or_false}
use Rattle.wf_mapping.specs.Layout.{page_placed, pages_placed}
use Rattle.wf_mapped.proofs.AnyLemmas.{AnyIs}
use Rattle.wf_mapped.proofs.ChangeLemmas.{pages_added}

module _ {A : Type 0} (key : A → ℕ) where
  -- what is found with one more
  inserted_found : (x : A) (xs : List A) (n : ℕ) → found_by key (inserted_by key x xs) n ≡ found_by key (x ∷ xs) n
  inserted_found x [] n = refl
  inserted_found x (y ∷ ys) n = elim (true_or_false (nat_lt (key y) (key x))) [
    | inl t ↦ (elim (true_or_false (key y == n)) [
      | inl u ↦ (let v : (key x == n) ≡ false = grind (arith, nat_tests) in rw (t, u, v) refl)
      | inr u ↦ (rw (t, u) (inserted_found x ys n))
    ])
    | inr t ↦ (rw t refl)
  ]

  pub sorted_found : (xs : List A) (n : ℕ) → found_by key (sorted_by key xs) n ≡ found_by key xs n
  sorted_found [] n = refl
  sorted_found (x ∷ xs) n = inserted_found x (sorted_by key xs) n ∙ ap (λ (o : Option A). if key x == n then Some x else o) (sorted_found xs n)

  inserted_all : (P : A → Type 0) (x : A) (xs : List A) → P x → AllByRecursion P xs → AllByRecursion P (inserted_by key x xs)
  inserted_all P x [] h all = (h, tt)
  inserted_all P x (y ∷ ys) h all = elim (true_or_false (nat_lt (key y) (key x))) [
    | inl t ↦ (rw t (all.0, inserted_all P x ys h all.1))
    | inr t ↦ (rw t (h, all))
  ]

  pub sorted_all : (P : A → Type 0) (xs : List A) → AllByRecursion P xs → AllByRecursion P (sorted_by key xs)
  sorted_all P [] all = tt
  sorted_all P (x ∷ xs) all = inserted_all P x (sorted_by key xs) all.0 (sorted_all P xs all.1)

  -- what is found in two lists
  pub found_first : (xs ys : List A) (n : ℕ) (x : A) → found_by key xs n ≡ Some x → found_by key (xs ++ ys) n ≡ Some x
  found_first [] ys n x e = absurd cc
  found_first (y ∷ xs) ys n x e = elim (true_or_false (key y == n)) [
    | inl t ↦ (rw t (let k : Some y ≡ Some x = rw t at e in k))
    | inr t ↦ (rw t (found_first xs ys n x (rw t at e)))
  ]

  pub found_past : (xs ys : List A) (n : ℕ) → found_by key xs n ≡ None → found_by key (xs ++ ys) n ≡ found_by key ys n
  found_past [] ys n e = refl
  found_past (y ∷ xs) ys n e = elim (true_or_false (key y == n)) [
    | inl t ↦ absurd (let k : Some y ≡ None = rw t at e in cc)
    | inr t ↦ (rw t (found_past xs ys n (rw t at e)))
  ]

  -- among views' lists, likewise
  pub inserted_at : (x : A) (xs : List A) (n : ℕ) → views.found_by key (views.inserted_by key x xs) n ≡ views.found_by key (x ∷ xs) n
  inserted_at x [] n = refl
  inserted_at x (y ∷ ys) n = elim (true_or_false (nat_lt (key y) (key x))) [
    | inl t ↦ (elim (true_or_false (key y == n)) [
      | inl u ↦ (let v : (key x == n) ≡ false = grind (arith, nat_tests) in rw (t, u, v) refl)
      | inr u ↦ (rw (t, u) (inserted_at x ys n))
    ])
    | inr t ↦ (rw t refl)
  ]

abbrev pub number_of : PageState → ℕ
number_of page = page.number

-- a page that is mapped has one of the numbers
pub mapped_number : (P : ℕ → Type 0) (write : Bool) (page birth n q : ℕ) (p : PageState) → AllByRecursion P (range_with_len page n) → data_in (mapped_pages None write page birth n) q ≡ Some p → P q
mapped_number P write page birth zero q p all e = absurd cc
mapped_number P write page birth (suc n) q p all e = elim (true_or_false (page == q)) [
  | inl t ↦ (let same : page ≡ q = grind (arith, nat_tests) in subst P same all.0)
  | inr t ↦ mapped_number P write (page + 1) (birth + 1) n q p all.1 (rw t at e)
]

-- what holds of pages in frames, and of those that are mapped there
pub all_mapped : (Q : PageAt → Type 0) (P : PageState → Type 0) (write : Bool) (page birth n : ℕ) (fs : List ℕ) → length fs ≡ n → ((number frame b : ℕ) → Q (page_placed write number frame) → P (mapped_page None write number b))
    → AllByRecursion Q (pages_placed write page fs) → AllByRecursion P (mapped_pages None write page birth n)
all_mapped Q P write page birth zero fs len each all = tt
all_mapped Q P write page birth (suc n) [] len each all = absurd (omega arith)
all_mapped Q P write page birth (suc n) (f ∷ fs) len each all = (each page f birth all.0, all_mapped Q P write (page + 1) (birth + 1) n fs (omega arith) each all.1)

-- the pages that are recorded
pub added_other : (ps : List PageAt) (v : RoomyValue PageAt) (n : ℕ) → views.found_by page_number ps n ≡ None → page_at (pages_added ps v) n ≡ page_at v n
added_other [] v n e = refl
added_other (p ∷ ps) v n e = elim (true_or_false (p.page == n)) [
  | inl t ↦ absurd (let k : Some p ≡ None = rw t at e in cc)
  | inr t ↦ (added_other ps (page_added p v) n (rw t at e) ∙ inserted_at page_number p v.items n ∙ (rw t refl))
]

placed_past : (write : Bool) (page n : ℕ) (fs : List ℕ) → n < page → views.found_by page_number (pages_placed write page fs) n ≡ None
placed_past write page n [] lt = refl
placed_past write page n (f ∷ fs) lt = (let t : (page == n) ≡ false = grind (arith, nat_tests) in rw t (placed_past write (page + 1) n fs (omega arith)))

pub added_here : (write : Bool) (page n : ℕ) (fs : List ℕ) (v : RoomyValue PageAt) (p : PageAt) → views.found_by page_number (pages_placed write page fs) n ≡ Some p → page_at (pages_added (pages_placed write page fs) v) n ≡ Some p
added_here write page n [] v p e = absurd cc
added_here write page n (f ∷ fs) v p e = elim (true_or_false (page == n)) [
  | inl t ↦ (
      let same : page ≡ n = grind (arith, nat_tests) in
      let k : Some (page_placed write page f) ≡ Some p = rw t at e in
      added_other (pages_placed write (page + 1) fs) (page_added (page_placed write page f) v) n (placed_past write (page + 1) n fs (omega arith))
      ∙ inserted_at page_number (page_placed write page f) v.items n
      ∙ (rw t k)
      )
  | inr t ↦ added_here write (page + 1) n fs (page_added (page_placed write page f) v) p (rw t at e)
]

pub placed_above : (write : Bool) (a b : ℕ) (fs : List ℕ) → a < b → AllByRecursion (λ p. a < p.page) (pages_placed write b fs)
placed_above write a b [] lt = tt
placed_above write a b (f ∷ fs) lt = (lt, placed_above write a (b + 1) fs (omega arith))

-- each page is found by its number
pub placed_found : (write : Bool) (page : ℕ) (fs : List ℕ) → AllByRecursion (λ p. views.found_by page_number (pages_placed write page fs) p.page ≡ Some p) (pages_placed write page fs)
placed_found write page [] = tt
placed_found write page (f ∷ fs) =
    let t : (page == page) ≡ true = grind (arith, nat_tests) in
    (rw t refl, later (pages_placed write (page + 1) fs) (pages_placed write (page + 1) fs) (placed_above write page (page + 1) fs (omega arith)) (placed_found write (page + 1) fs))
  where
    later : (all xs : List PageAt) → AllByRecursion (λ p. page < p.page) xs → AllByRecursion (λ p. views.found_by page_number all p.page ≡ Some p) xs → AllByRecursion (λ p. views.found_by page_number (page_placed write page f ∷ all) p.page ≡ Some p) xs
    later all [] high found = tt
    later all (x ∷ xs) high found =
        let lt : page < x.page = high.0 in
        let t : (page == x.page) ≡ false = grind (arith, nat_tests) in
        (rw t found.0, later all xs high.1 found.1)

-- each element is one of all
pub each_any : {A : Type 0} (R : A → A → Type 0) → ((x : A) → R x x) → (xs : List A) → AllByRecursion (λ y. AnyIs (λ x. R x y) xs) xs
each_any R is [] = tt
each_any {A = A} R is (x ∷ xs) = (inl (is x), more xs (each_any R is xs))
  where
    more : (ys : List A) → AllByRecursion (λ y. AnyIs (λ z. R z y) xs) ys → AllByRecursion (λ y. AnyIs (λ z. R z y) (x ∷ xs)) ys
    more [] all = tt
    more (y ∷ ys) all = (inr all.0, more ys all.1)
