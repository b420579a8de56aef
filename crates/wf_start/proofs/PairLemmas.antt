-- Where homes are found that stand one behind another.
use Rattle.std.proofs.Common.{◌≡◌, ◌≤◌, ◌+◌, ◌-◌, ◌++◌, ℕ, zero, suc, List, [], ◌∷◌, true, false, Some, None, length, map, refl, sym, ap, ◌∙◌, inl, inr, arith}
use Rattle.std.specs.Prelude.{slice_get}
use Rattle.std.specs.List.{AllByRecursion, IsDistinct}
use Rattle.std.specs.Map.{lookup}
use Rattle.wf_outside.specs.Images.{text_numbers}
use Rattle.wf_outside.specs.Pages.{PageValue}
use Rattle.wf_views.specs.declared.pages.PageAt.{PageAt}
use Rattle.wf_views.specs.declared.view.NodeAt.{NodeAt}
use Rattle.wf_views.specs.declared.view.TextAt.{TextAt}
use Rattle.wf_flat.specs.State.{PageState}
use Rattle.wf_homes.specs.Homes.{DataOf, NodeOf, Tenant, TextOf, same_tenant}
use Rattle.wf_homes.proofs.ListLemmas.{true_or_false}
use Rattle.wf_homes.proofs.TenantLemmas.{same_is, same_tenant_laws}
use Rattle.wf_start.specs.Layout.{nodes_from, numbered, pages_from, text_from}

-- the element at a place, and all of them
pub at_place : {A : Type 0} (P : A → Type 0) (xs : List A) (k : ℕ) (x : A) → AllByRecursion P xs → slice_get xs k ≡ Some x → P x
at_place P [] k x all e = absurd cc
at_place P (y ∷ ys) zero x all e = (let k : Some y ≡ Some x = e in let same : x ≡ y = cc in rw same all.0)
at_place P (y ∷ ys) (suc k) x all e = at_place P ys k x all.1 e

pub all_places : {A : Type 0} (P : A → Type 0) (xs : List A) → ((k : ℕ) (x : A) → slice_get xs k ≡ Some x → P x) → AllByRecursion P xs
all_places P [] each = tt
all_places P (x ∷ xs) each = (each 0 x refl, all_places P xs (λ k y e. each (suc k) y e))

pub numbered_both : {A : Type 0} (n : ℕ) (xs ys : List A) → numbered n (xs ++ ys) ≡ numbered n xs ++ numbered (n + length xs) ys
numbered_both n [] ys = (let e : n ≡ n + 0 = omega arith in ap (λ (m : ℕ). numbered m ys) e)
numbered_both {A = A} n (x ∷ xs) ys =
    let e : n + 1 + length xs ≡ n + length (x ∷ xs) = omega arith in
    ap (λ (ps : List (A × ℕ)). (x, n) ∷ ps) (numbered_both (n + 1) xs ys ∙ ap (λ (m : ℕ). numbered (n + 1) xs ++ numbered m ys) e)

-- a home that is found is that of the tenant at its place
pub found_in : (t : Tenant) (a : ℕ) (xs : List Tenant) (f : ℕ) → lookup (same_tenant t) (numbered a xs) ≡ Some f → (a ≤ f) × (slice_get xs (f - a) ≡ Some t)
found_in t a [] f e = absurd cc
found_in t a (x ∷ xs) f e = elim (true_or_false (same_tenant t x)) [
  | inl y ↦ (
      let k : Some a ≡ Some f = rw y at e in
      let here : a ≡ f = cc in
      let same : t ≡ x = (same_is t x).0 y in
      let z : f - a ≡ 0 = omega arith in (omega arith, ap (slice_get (x ∷ xs)) z ∙ ap Some (sym same))
      )
  | inr n ↦ (
      let rest : (a + 1 ≤ f) × (slice_get xs (f - (a + 1)) ≡ Some t) = found_in t (a + 1) xs f (rw n at e) in
      let le : a + 1 ≤ f = rest.0 in
      let z : f - a ≡ suc (f - (a + 1)) = omega arith in (omega arith, ap (slice_get (x ∷ xs)) z ∙ rest.1)
      )
]

-- and a tenant at a place has its home
pub there_in : (t : Tenant) (a : ℕ) (xs : List Tenant) (k : ℕ) → IsDistinct same_tenant xs → slice_get xs k ≡ Some t → lookup (same_tenant t) (numbered a xs) ≡ Some (a + k)
unfolding IsDistinct
there_in t a [] k d e = absurd cc
there_in t a (x ∷ xs) zero d e =
    let k : Some x ≡ Some t = e in
    let same : t ≡ x = cc in
    let y : same_tenant t x ≡ true = (same_is t x).1 same in
    let z : a ≡ a + 0 = omega arith in
    rw y (ap Some z)
there_in t a (x ∷ xs) (suc k) d e =
    let n : same_tenant t x ≡ false = same_tenant_laws.symm t x ∙ at_place (λ y. same_tenant x y ≡ false) xs k t d.0 e in
    let z : a + 1 + k ≡ a + suc k = omega arith in
    rw n (there_in t (a + 1) xs k d.1 e ∙ ap Some z)

-- a look-up goes past those that differ
pub skip_front : (t : Tenant) (ps qs : List (Tenant × ℕ)) → lookup (same_tenant t) ps ≡ None → lookup (same_tenant t) (ps ++ qs) ≡ lookup (same_tenant t) qs
skip_front t [] qs e = refl
skip_front t (p ∷ ps) qs e = elim (true_or_false (same_tenant t p.0)) [
  | inl y ↦ absurd (let k : Some p.1 ≡ None = rw y at e in cc)
  | inr n ↦ rw n (skip_front t ps qs (rw n at e))
]

pub skip_back : (t : Tenant) (ps qs : List (Tenant × ℕ)) → lookup (same_tenant t) qs ≡ None → lookup (same_tenant t) (ps ++ qs) ≡ lookup (same_tenant t) ps
skip_back t [] qs e = e
skip_back t (p ∷ ps) qs e = elim (true_or_false (same_tenant t p.0)) [
  | inl y ↦ rw y refl
  | inr n ↦ rw n (skip_back t ps qs e)
]

pub none_mapped : {Y : Type 0} (t : Tenant) (f : Y → Tenant) → ((y : Y) → same_tenant t (f y) ≡ false) → (a : ℕ) (ys : List Y) → lookup (same_tenant t) (numbered a (map f ys)) ≡ None
none_mapped t f apart a [] = refl
none_mapped t f apart a (y ∷ ys) = rw (apart y) (none_mapped t f apart (a + 1) ys)

-- what the records have, as tenants with their frames
pub text_pairs : (a : ℕ) (pages : List PageValue) → map (λ (t : TextAt). (TextOf 0 t.page, t.frame)) (text_from a pages) ≡ numbered a (map (TextOf 0) (text_numbers pages))
text_pairs a [] = refl
text_pairs a (p ∷ ps) = ap (λ (rest : List (Tenant × ℕ)). (TextOf 0 p.number, a) ∷ rest) (text_pairs (a + 1) ps)

pub page_pairs : (a : ℕ) (pages : List PageState) → map (λ (p : PageAt). (DataOf p.page, p.frame)) (pages_from a pages) ≡ numbered a (map (λ (p : PageState). DataOf p.number) pages)
page_pairs a [] = refl
page_pairs a (p ∷ ps) = ap (λ (rest : List (Tenant × ℕ)). (DataOf p.number, a) ∷ rest) (page_pairs (a + 1) ps)

pub node_pairs : (a : ℕ) (nodes : List (ℕ × ℕ)) → map (λ (n : NodeAt). (NodeOf 0 n.level n.prefix, n.frame)) (nodes_from a nodes) ≡ numbered a (map (λ (n : ℕ × ℕ). NodeOf 0 n.0 n.1) nodes)
node_pairs a [] = refl
node_pairs a (n ∷ ns) = ap (λ (rest : List (Tenant × ℕ)). (NodeOf 0 n.0 n.1, a) ∷ rest) (node_pairs (a + 1) ns)

-- where elements of two lists, one behind the other, stand
pub place_front : {A : Type 0} (xs ys : List A) (k : ℕ) (x : A) → slice_get xs k ≡ Some x → slice_get (xs ++ ys) k ≡ Some x
place_front [] ys k x e = absurd cc
place_front (y ∷ xs) ys zero x e = e
place_front (y ∷ xs) ys (suc k) x e = place_front xs ys k x e

pub place_back : {A : Type 0} (xs ys : List A) (k : ℕ) → slice_get (xs ++ ys) (length xs + k) ≡ slice_get ys k
place_back [] ys k = (let z : 0 + k ≡ k = omega arith in ap (slice_get ys) z)
place_back (x ∷ xs) ys k = (let z : length (x ∷ xs) + k ≡ suc (length xs + k) = omega arith in ap (slice_get (x ∷ (xs ++ ys))) z ∙ place_back xs ys k)

pub place_mapped : {A B : Type 0} (f : A → B) (xs : List A) (k : ℕ) (x : A) → slice_get xs k ≡ Some x → slice_get (map f xs) k ≡ Some (f x)
place_mapped f [] k x e = absurd cc
place_mapped f (y ∷ xs) zero x e = (let k : Some y ≡ Some x = e in let same : y ≡ x = cc in ap (λ z. Some (f z)) same)
place_mapped f (y ∷ xs) (suc k) x e = place_mapped f xs k x e
