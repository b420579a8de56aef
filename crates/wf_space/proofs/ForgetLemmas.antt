-- Pages that are forgotten one after another: in any order, and once.
use Rattle.std.proofs.Common.{◌≡◌, ◌==◌, ℕ, List, [], ◌∷◌, Bool, not, map, refl, sym, ap, ◌∙◌, inl, inr}
use Rattle.std.specs.List.{AllByRecursion, filter}
use Rattle.wf_views.specs.declared.pages.PageAt.{PageAt}
use Rattle.wf_views.specs.declared.records.Records.{Records}
use Rattle.wf_views.specs.Records.{left}
use Rattle.wf_views.specs.Views.{ViewValue, forgets, forgotten}
use Rattle.wf_flat.specs.State.{FlatState}
use Rattle.wf_effects.specs.Effects.{page_gone}
use Rattle.wf_homes.proofs.ListLemmas.{true_or_false}
use Rattle.wf_space.specs.Leaving.{page_forgotten}
use Rattle.wf_space.specs.Unmapping.{each_done}

-- lists that are filtered twice
module _ {A : Type 0} where
  filter_twice : (p : A → Bool) (xs : List A) → filter p (filter p xs) ≡ filter p xs
  filter_twice p [] = refl
  filter_twice p (x ∷ xs) = elim (true_or_false (p x)) [
    | inl t ↦ (rw (t, t) (ap (λ (ys : List A). x ∷ ys) (filter_twice p xs)))
    | inr t ↦ (rw t (filter_twice p xs))
  ]

  filter_swap : (p q : A → Bool) (xs : List A) → filter p (filter q xs) ≡ filter q (filter p xs)
  filter_swap p q [] = refl
  filter_swap p q (x ∷ xs) = elim (true_or_false (p x)) [
    | inl t ↦ (elim (true_or_false (q x)) [
      | inl u ↦ (rw (t, u, t) (ap (λ (ys : List A). x ∷ ys) (filter_swap p q xs)))
      | inr u ↦ (rw (t, u) (filter_swap p q xs))
    ])
    | inr t ↦ (elim (true_or_false (q x)) [
      | inl u ↦ (rw (t, u, t) (filter_swap p q xs))
      | inr u ↦ (rw (t, u) (filter_swap p q xs))
    ])
  ]

-- something that is done for each of some pages
module _ {S : Type 0} (f : ℕ → S → S) where
  -- where each time changes nothing
  pub each_same : (ps : List ℕ) (x : S) → AllByRecursion (λ p. f p x ≡ x) ps → each_done f ps x ≡ x
  each_same [] x all = refl
  each_same (p ∷ ps) x all = ap (each_done f ps) all.0 ∙ each_same ps x all.1

  -- before something else, or after it
  pub each_past : (g : S → S) → ((p : ℕ) (x : S) → g (f p x) ≡ f p (g x)) → (ps : List ℕ) (x : S) → g (each_done f ps x) ≡ each_done f ps (g x)
  each_past g swap [] x = refl
  each_past g swap (p ∷ ps) x = each_past g swap ps (f p x) ∙ ap (each_done f ps) (swap p x)

-- records
abbrev pub forgot : ℕ → Records → Records
forgot page r = record r { views = forgotten page r.views }

forgets_swap : (a b : ℕ) (v : ViewValue) → forgets a (forgets b v) ≡ forgets b (forgets a v)
forgets_swap a b v = ap (λ (xs : List ℕ). let w : ViewValue = record v { met = record v.met { items = xs } } in w) (filter_swap (λ n. not (n == a)) (λ n. not (n == b)) v.met.items)

forgets_twice : (a : ℕ) (v : ViewValue) → forgets a (forgets a v) ≡ forgets a v
forgets_twice a v = ap (λ (xs : List ℕ). let w : ViewValue = record v { met = record v.met { items = xs } } in w) (filter_twice (λ n. not (n == a)) v.met.items)

views_swap : (a b : ℕ) (vs : List ViewValue) → map (forgets a) (map (forgets b) vs) ≡ map (forgets b) (map (forgets a) vs)
views_swap a b [] = refl
views_swap a b (v ∷ vs) = ap (λ (w : ViewValue). w ∷ map (forgets a) (map (forgets b) vs)) (forgets_swap a b v) ∙ ap (λ (ws : List ViewValue). forgets b (forgets a v) ∷ ws) (views_swap a b vs)

views_twice : (a : ℕ) (vs : List ViewValue) → map (forgets a) (map (forgets a) vs) ≡ map (forgets a) vs
views_twice a [] = refl
views_twice a (v ∷ vs) = ap (λ (w : ViewValue). w ∷ map (forgets a) (map (forgets a) vs)) (forgets_twice a v) ∙ ap (λ (ws : List ViewValue). forgets a v ∷ ws) (views_twice a vs)

-- a page that leaves, and one that is forgotten
pub left_forgot : (b : Bool) (x : PageAt) (a : ℕ) (r : Records) → left b (forgot a r) x ≡ forgot a (left b r x)
left_forgot b x a r = ap (λ (vs : List ViewValue). let q : Records = record (left b r x) { views = record r.views { views = vs } } in q) (views_swap x.page a r.views.views)

-- a page that left is forgotten
pub left_twice : (b : Bool) (x : PageAt) (r : Records) → forgot x.page (left b r x) ≡ left b r x
left_twice b x r = ap (λ (vs : List ViewValue). let q : Records = record (left b r x) { views = record r.views { views = vs } } in q) (views_twice x.page r.views.views)

-- and one that was forgotten before still is
pub left_keeps : (b : Bool) (x : PageAt) (a : ℕ) (r : Records) → forgot a r ≡ r → forgot a (left b r x) ≡ left b r x
left_keeps b x a r e = sym (left_forgot b x a r) ∙ ap (λ (p : Records). left b p x) e

-- states
abbrev pub forget_in : ℕ → FlatState → FlatState
forget_in page s = page_forgotten s page

pub gone_forgot : (p : ℕ) (worn : Bool) (a : ℕ) (s : FlatState) → page_gone (forget_in a s) p worn ≡ forget_in a (page_gone s p worn)
gone_forgot p worn a s = ap (λ (xs : List (ℕ × ℕ)). let t : FlatState = record (page_gone s p worn) { met = xs } in t) (filter_swap (λ pair. not (pair.1 == p)) (λ pair. not (pair.1 == a)) s.met)

pub gone_twice : (p : ℕ) (worn : Bool) (s : FlatState) → forget_in p (page_gone s p worn) ≡ page_gone s p worn
gone_twice p worn s = ap (λ (xs : List (ℕ × ℕ)). let t : FlatState = record (page_gone s p worn) { met = xs } in t) (filter_twice (λ pair. not (pair.1 == p)) s.met)

pub gone_keeps : (p : ℕ) (worn : Bool) (a : ℕ) (s : FlatState) → forget_in a s ≡ s → forget_in a (page_gone s p worn) ≡ page_gone s p worn
gone_keeps p worn a s e = sym (gone_forgot p worn a s) ∙ ap (λ (t : FlatState). page_gone t p worn) e

-- pages stay, whatever is forgotten
pub pages_of_records : (ps : List ℕ) (r : Records) → (each_done forgot ps r).pages ≡ r.pages
pages_of_records [] r = refl
pages_of_records (p ∷ ps) r = pages_of_records ps (forgot p r)

pub frames_of_records : (ps : List ℕ) (r : Records) → (each_done forgot ps r).frames ≡ r.frames
frames_of_records [] r = refl
frames_of_records (p ∷ ps) r = frames_of_records ps (forgot p r)

pub pages_of_state : (ps : List ℕ) (s : FlatState) → (each_done forget_in ps s).pages ≡ s.pages
pages_of_state [] s = refl
pages_of_state (p ∷ ps) s = pages_of_state ps (forget_in p s)

pub limits_of_state : (ps : List ℕ) (s : FlatState) → (each_done forget_in ps s).limits ≡ s.limits
limits_of_state [] s = refl
limits_of_state (p ∷ ps) s = limits_of_state ps (forget_in p s)
