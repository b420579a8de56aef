-- What records have of tenants, as a look-up among homes.
use Rattle.std.proofs.Common.{◌≡◌, ◌==◌, ◌&&◌, ℕ, List, [], ◌∷◌, Bool, true, false, Some, map, refl, inl, inr, arith}
use Rattle.std.specs.Option.{option_map}
use Rattle.std.specs.List.{AllByRecursion, find}
use Rattle.std.specs.Map.{lookup}
use Rattle.std.proofs.lemmas.Bool.Decides.{nat_tests}
use Rattle.wf_views.specs.declared.pages.PageAt.{PageAt}
use Rattle.wf_views.specs.declared.view.NodeAt.{NodeAt}
use Rattle.wf_views.specs.declared.view.TextAt.{TextAt}
use Rattle.wf_views.specs.Lists.{found_by}
use Rattle.wf_views.specs.Pages.{page_number}
use Rattle.wf_homes.specs.Homes.{DataOf, NodeOf, Tenant, TextOf, same_tenant}
use Rattle.wf_homes.specs.Kept.{text_page}
use Rattle.wf_homes.proofs.ListLemmas.{true_or_false}

pub flip_test : (a b : ℕ) (t : Bool) → (a == b) ≡ t → (b == a) ≡ t
flip_test a b true e = grind (arith, nat_tests)
flip_test a b false e = grind (arith, nat_tests)

-- the frames of data pages
pub page_looked : (pages : List PageAt) (n : ℕ) → option_map (λ (p : PageAt). p.frame) (found_by page_number pages n) ≡ lookup (same_tenant (DataOf n)) (map (λ (p : PageAt). (DataOf p.page, p.frame)) pages)
page_looked [] n = refl
page_looked (p ∷ ps) n = elim (true_or_false (n == p.page)) [
  | inl t ↦ rw (t, flip_test n p.page true t) refl
  | inr t ↦ rw (t, flip_test n p.page false t) (page_looked ps n)
]

-- the frames of pages of text
pub text_looked : (g : ℕ) → (g == g) ≡ true → (text : List TextAt) (n : ℕ)
    → option_map (λ (t : TextAt). t.frame) (found_by text_page text n) ≡ lookup (same_tenant (TextOf g n)) (map (λ (t : TextAt). (TextOf g t.page, t.frame)) text)
text_looked g same [] n = refl
text_looked g same (t ∷ ts) n = elim (true_or_false (n == t.page)) [
  | inl e ↦ rw (same, e, flip_test n t.page true e) refl
  | inr e ↦ rw (same, e, flip_test n t.page false e) (text_looked g same ts n)
]

-- the frames of nodes
pub node_looked : (g : ℕ) → (g == g) ≡ true → (nodes : List NodeAt) (level prefix : ℕ)
    → option_map (λ (node : NodeAt). node.frame) (find (λ (node : NodeAt). (level == node.level) && (prefix == node.prefix)) nodes)
    ≡ lookup (same_tenant (NodeOf g level prefix)) (map (λ (node : NodeAt). (NodeOf g node.level node.prefix, node.frame)) nodes)
node_looked g same [] level prefix = refl
node_looked g same (node ∷ nodes) level prefix = elim (true_or_false ((level == node.level) && (prefix == node.prefix))) [
  | inl e ↦ rw (same, e) refl
  | inr e ↦ rw (same, e) (node_looked g same nodes level prefix)
]

-- what a look-up among homes finds is one of them
pub looked_each : (t : Tenant) (homes : List (Tenant × ℕ)) (frame : ℕ) (G : Type 0) → lookup (same_tenant t) homes ≡ Some frame
    → AllByRecursion (λ home. same_tenant t home.0 ≡ true → home.1 ≡ frame → G) homes → G
looked_each t [] frame G e all = absurd cc
looked_each t (home ∷ homes) frame G e all = elim (true_or_false (same_tenant t home.0)) [
  | inl s ↦ (let f : Some home.1 ≡ Some frame = (rw s at e) in all.0 s cc)
  | inr s ↦ looked_each t homes frame G (rw s at e) all.1
]
