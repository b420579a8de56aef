-- Harts and pages of which one changes, or some go.
use Rattle.std.proofs.Common.{◌≡◌, ℕ, zero, suc, List, [], ◌∷◌, Some, Bool, true, false, map, refl, subst, ap, ◌∙◌}
use Rattle.std.specs.Prelude.{slice_get, ◌==◌, if◌then◌else◌}
use Rattle.std.specs.List.{AllByRecursion, filter}
use Rattle.wf_flat.specs.State.{PageState}
use Rattle.wf_flat.specs.Lists.{changed_at, changed_by}
use Rattle.wf_flat.specs.Serving.{AllBut}
use Rattle.wf_flat.proofs.ListLemmas.{changed_next}

-- what is there behind its change
pub at_changed : {A : Type 0} (f : A → A) (xs : List A) (i : ℕ) (x : A) → slice_get xs i ≡ Some x → slice_get (changed_at xs i f) i ≡ Some (f x)
at_changed f [] i x e = absurd (cc)
at_changed {A = A} f (y ∷ ys) zero x e = let same : y ≡ x = cc in ap (λ (z : A). Some (f z)) same
at_changed {A = A} f (y ∷ ys) (suc i) x e = ap (λ (zs : List A). slice_get zs (suc i)) (changed_next y ys i f) ∙ at_changed f ys i x e

-- what holds of all holds of all but one
pub all_but : {A : Type 0} (P : A → Type 0) (at : ℕ) (xs : List A) → AllByRecursion P xs → AllBut P at xs
all_but P at [] all = tt
all_but P zero (x ∷ xs) all = all.1
all_but P (suc at) (x ∷ xs) all = (all.0, all_but P at xs all.1)

-- it stays so where that one changes
pub but_changed : {A : Type 0} (P : A → Type 0) (f : A → A) (at : ℕ) (xs : List A) → AllBut P at xs → AllBut P at (changed_at xs at f)
but_changed P f at [] all = tt
but_changed P f zero (x ∷ xs) all = all
but_changed P f (suc at) (x ∷ xs) all = rw (changed_next x xs at f) (all.0, but_changed P f at xs all.1)

-- it holds of all where it holds of that one too
pub all_there : {A : Type 0} (P : A → Type 0) (at : ℕ) (xs : List A) → AllBut P at xs → ((x : A) → slice_get xs at ≡ Some x → P x) → AllByRecursion P xs
all_there P at [] all h = tt
all_there P zero (x ∷ xs) all h = (h x refl, all)
all_there P (suc at) (x ∷ xs) all h = (all.0, all_there P at xs all.1 h)

-- so it does where it holds of that one behind its change
pub all_changed : {A : Type 0} (P : A → Type 0) (g : A → A) (at : ℕ) (xs : List A) → AllBut P at xs → ((x : A) → slice_get xs at ≡ Some x → P (g x)) → AllByRecursion P (changed_at xs at g)
all_changed P g at [] all h = tt
all_changed P g zero (x ∷ xs) all h = (h x refl, all)
all_changed P g (suc at) (x ∷ xs) all h = rw (changed_next x xs at g) (all.0, all_changed P g at xs all.1 h)

-- what holds of the one of a number, of all
pub all_get : {A : Type 0} (P : A → Type 0) (xs : List A) (i : ℕ) (x : A) → AllByRecursion P xs → slice_get xs i ≡ Some x → P x
all_get P [] i x all e = absurd (cc)
all_get P (y ∷ xs) zero x all e = let same : y ≡ x = cc in subst P same all.0
all_get P (y ∷ xs) (suc i) x all e = all_get P xs i x all.1 e

-- what holds of all pages behind a change of those of a number
pub pages_changed : (P Q : PageState → Type 0) (f : PageState → PageState) (n : ℕ) (pages : List PageState) → AllByRecursion P pages → ((page : PageState) → (page.number == n) ≡ true → P page → Q (f page))
    → ((page : PageState) → (page.number == n) ≡ false → P page → Q page) → AllByRecursion Q (changed_by (λ page. page.number) pages n f)
pages_changed P Q f n [] all is not_so = tt
pages_changed P Q f n (page ∷ pages) all is not_so = (by_test (page.number == n) refl, pages_changed P Q f n pages all.1 is not_so)
  where
    by_test : (b : Bool) → (page.number == n) ≡ b → Q (if b then f page else page)
    by_test true t = is page t all.0
    by_test false t = not_so page t all.0

-- what holds of all holds of all where it follows
pub all_more : {A : Type 0} (P Q : A → Type 0) → ((x : A) → P x → Q x) → (xs : List A) → AllByRecursion P xs → AllByRecursion Q xs
all_more P Q more [] all = tt
all_more P Q more (x ∷ xs) all = (more x all.0, all_more P Q more xs all.1)

-- of those that are kept
pub all_filter : {A : Type 0} (keeps : A → Bool) (P Q : A → Type 0) → ((x : A) → keeps x ≡ true → P x → Q x) → (xs : List A) → AllByRecursion P xs → AllByRecursion Q (filter keeps xs)
all_filter keeps P Q more [] all = tt
all_filter {A = A} keeps P Q more (x ∷ xs) all = by_test (keeps x) refl (all_filter keeps P Q more xs all.1)
  where
    by_test : (b : Bool) → keeps x ≡ b → AllByRecursion Q (filter keeps xs) → AllByRecursion Q (if b then x ∷ filter keeps xs else filter keeps xs)
    by_test true e rest = (more x e all.0, rest)
    by_test false e rest = rest

-- of each that is made of one
pub all_map : {A : Type 0} (P Q : A → Type 0) (f : A → A) → ((x : A) → P x → Q (f x)) → (xs : List A) → AllByRecursion P xs → AllByRecursion Q (map f xs)
all_map P Q f more [] all = tt
all_map P Q f more (x ∷ xs) all = (more x all.0, all_map P Q f more xs all.1)
