-- Room that is made in every view.
use Rattle.std.proofs.Common.{◌≡◌, ◌<◌, ◌≤◌, ◌==◌, ℕ, zero, suc, List, [], ◌∷◌, true, false, Option, Some, None, length, map, refl, sym, ap, subst, ◌∙◌, inl, inr, arith, if◌then◌else◌}
use Rattle.std.specs.Prelude.{IsSome, slice_get}
use Rattle.std.specs.Option.{option_map}
use Rattle.std.specs.List.{AllByRecursion}
use Rattle.std.proofs.lemmas.Bool.Decides.{nat_tests}
use Rattle.wf_outside.specs.Lists.{IsRising}
use Rattle.wf_views.specs.Lists.{changed_by, found_by}
use Rattle.wf_views.specs.Views.{ViewValue, ViewsValue, generation_number, view_of, with_node_room, with_reach_room, with_view}
use Rattle.wf_homes.proofs.FoundLemmas.{found_changed}
use Rattle.wf_homes.proofs.ListLemmas.{true_or_false}
use Rattle.wf_mapping.specs.Room.{roomless_view, with_view_room}

some_mapped : {A B : Type 0} (f : A → B) (o : Option A) → IsSome o → IsSome (option_map f o)
some_mapped f None h = h
some_mapped f (Some x) h = refl

-- the view is there still
pub there_still : (v w : ViewsValue) (g n : ℕ) → IsSome (view_of v g) → w ≡ with_view v g (with_node_room n) → IsSome (view_of w g)
there_still v w g n there e =
    subst (λ (u : ViewsValue). IsSome (view_of u g)) (sym e)
    (subst (λ (o : Option ViewValue). IsSome o) (sym (found_changed generation_number (with_node_room n) (λ x. refl) v.views g g))
    (some_mapped (λ x. if generation_number x == g then with_node_room n x else x) (view_of v g) there))

both : (vs : List ViewValue) (g n : ℕ) → changed_by generation_number (changed_by generation_number vs g (with_node_room n)) g (with_reach_room n) ≡ changed_by generation_number vs g (with_view_room n)
both [] g n = refl
both (v ∷ vs) g n = elim (true_or_false (v.generation == g)) [
  | inl t ↦ (rw (t, t) (ap (λ (ws : List ViewValue). with_view_room n v ∷ ws) (both vs g n)))
  | inr t ↦ (rw (t, t) (ap (λ (ws : List ViewValue). v ∷ ws) (both vs g n)))
]

pub room_twice : (v w x : ViewsValue) (g n : ℕ) → w ≡ with_view v g (with_node_room n) → x ≡ with_view w g (with_reach_room n) → x ≡ with_view v g (with_view_room n)
room_twice v w x g n e f =
    f ∙ ap (λ (u : ViewsValue). with_view u g (with_reach_room n)) e
    ∙ ap (λ (vs : List ViewValue). let u : ViewsValue = record v { views = vs } in u) (both v.views g n)

-- but for its room a view stays
module _ (f : ViewValue → ViewValue) (same : (v : ViewValue) → roomless_view (f v) ≡ roomless_view v) where
  pub alike_in : (vs : List ViewValue) (g : ℕ) → map roomless_view (changed_by generation_number vs g f) ≡ map roomless_view vs
  alike_in [] g = refl
  alike_in (v ∷ vs) g = elim (true_or_false (v.generation == g)) [
    | inl t ↦ (rw t (ap (λ (w : ViewValue). w ∷ map roomless_view (changed_by generation_number vs g f)) (same v) ∙ ap (λ (ws : List ViewValue). roomless_view v ∷ ws) (alike_in vs g)))
    | inr t ↦ (rw t (ap (λ (ws : List ViewValue). roomless_view v ∷ ws) (alike_in vs g)))
  ]

  pub alike_with : (v w : ViewsValue) (g : ℕ) → w ≡ with_view v g f → map roomless_view w.views ≡ map roomless_view v.views
  alike_with v w g e = ap (λ (u : ViewsValue). map roomless_view u.views) e ∙ alike_in v.views g

-- the first so many change
abbrev pub first_changed : {A : Type 0} → (A → A) → ℕ → List A → List A
first_changed f zero xs = xs
first_changed f (suc i) [] = []
first_changed f (suc i) (x ∷ xs) = f x ∷ first_changed f i xs

pub changed_length : {A : Type 0} (f : A → A) (i : ℕ) (xs : List A) → length (first_changed f i xs) ≡ length xs
changed_length f zero xs = refl
changed_length f (suc i) [] = refl
changed_length f (suc i) (x ∷ xs) = ap suc (changed_length f i xs)

pub changed_all : {A : Type 0} (f : A → A) (i : ℕ) (xs : List A) → length xs ≤ i → first_changed f i xs ≡ map f xs
changed_all f zero [] le = refl
changed_all f zero (x ∷ xs) le = absurd (omega arith)
changed_all f (suc i) [] le = refl
changed_all {A = A} f (suc i) (x ∷ xs) le = ap (λ (ys : List A). f x ∷ ys) (changed_all f i xs (omega arith))

module _ {A : Type 0} (key : A → ℕ) where
  -- an element is found by its number
  pub found_at : (xs : List A) (i : ℕ) (x : A) → slice_get xs i ≡ Some x → IsSome (found_by key xs (key x))
  found_at [] i x e = absurd cc
  found_at (y ∷ ys) zero x e =
      let same : y ≡ x = cc in
      let t : (key y == key x) ≡ true = (let k : key y ≡ key x = ap key same in grind (arith, nat_tests)) in
      rw t refl
  found_at (y ∷ ys) (suc i) x e = elim (true_or_false (key y == key x)) [
    | inl t ↦ (rw t refl)
    | inr t ↦ (rw t (found_at ys i x e))
  ]

  others_same : (f : A → A) (k : ℕ) (xs : List A) → AllByRecursion (λ m. k < m) (map key xs) → changed_by key xs k f ≡ xs
  others_same f k [] all = refl
  others_same f k (x ∷ xs) all =
      let lt : k < key x = all.0 in
      let t : (key x == k) ≡ false = grind (arith, nat_tests) in
      rw t (ap (λ (ys : List A). x ∷ ys) (others_same f k xs all.1))

  module _ (f : A → A) (same : (x : A) → key (f x) ≡ key x) where
    above_at : (k : ℕ) (xs : List A) (i : ℕ) (x : A) → AllByRecursion (λ m. k < m) (map key xs) → slice_get (first_changed f i xs) i ≡ Some x → k < key x
    above_at k [] zero x all e = absurd cc
    above_at k [] (suc i) x all e = absurd cc
    above_at k (y ∷ ys) zero x all e = (let z : y ≡ x = cc in subst (λ (w : A). k < key w) z all.0)
    above_at k (y ∷ ys) (suc i) x all e = above_at k ys i x all.1 e

    pub changed_next : (xs : List A) (i : ℕ) (x : A) → IsRising (map key xs) → slice_get (first_changed f i xs) i ≡ Some x → changed_by key (first_changed f i xs) (key x) f ≡ first_changed f (suc i) xs
    changed_next [] zero x up e = absurd cc
    changed_next [] (suc i) x up e = absurd cc
    changed_next (y ∷ ys) zero x up e =
        let z : y ≡ x = cc in
        let t : (key y == key x) ≡ true = (let k : key y ≡ key x = ap key z in grind (arith, nat_tests)) in
        rw t (ap (λ (ws : List A). f y ∷ ws) (ap (λ (w : A). changed_by key ys (key w) f) (sym z) ∙ others_same f (key y) ys up.0))
    changed_next (y ∷ ys) (suc i) x up e =
        let lt : key y < key x = above_at (key y) ys i x up.0 e in
        let k : key (f y) ≡ key y = same y in
        let t : (key (f y) == key x) ≡ false = grind (arith, nat_tests) in
        rw t (ap (λ (ws : List A). f y ∷ ws) (changed_next ys i x up.1 e))
