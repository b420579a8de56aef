-- What is looked up among the homes that come, and what lies in their frames.
use Rattle.std.proofs.Common.{◌≡◌, ◌⊎◌, ◌||◌, ◌/◌, ◌==◌, ◌++◌, ℕ, List, [], ◌∷◌, Bool, true, false, Option, Some, None, map, refl, sym, ap, subst, ◌∙◌, inl, inr, arith}
use Rattle.std.specs.Prelude.{IsSome, IsSomeAnd, MatchOption, slice_get}
use Rattle.std.specs.List.{list_any}
use Rattle.std.specs.Map.{lookup}
use Rattle.std.specs.Option.{option_map}
use Rattle.std.proofs.lemmas.Bool.Decides.{nat_tests}
use Rattle.wf_frames.specs.Layout.{WordsValue}
use Rattle.wf_views.specs.declared.pages.PageAt.{PageAt}
use Rattle.wf_views.specs.declared.records.Records.{Records}
use Rattle.wf_views.specs.Lists as views
use Rattle.wf_views.specs.Pages.{page_number}
use Rattle.wf_views.specs.Views.{ViewValue, view_of}
use Rattle.wf_flat.specs.State.{FlatState, GenState}
use Rattle.wf_homes.specs.Homes.{DataOf, Homes, NodeOf, Tenant, TextOf, home_frame, same_tenant}
use Rattle.wf_homes.specs.Kept.{IsKeptView}
use Rattle.wf_homes.specs.Stands.{StandsFor, living_at}
use Rattle.wf_homes.proofs.ListLemmas.{true_or_false}
use Rattle.wf_homes.proofs.PlaceLemmas.{homes_apart}
use Rattle.wf_homes.proofs.TenantLemmas.{same_is}
use Rattle.wf_mapping.specs.declared.layout.Mapping.{Mapping}
use Rattle.wf_mapping.specs.declared.nodes.NewNode.{NewNode}
use Rattle.wf_mapping.specs.Laws.{mapped_by, node_home, page_home}
use Rattle.wf_mapping.specs.Layout.{new_nodes, new_pages}
use Rattle.wf_mapping.proofs.NodeLemmas.{node_tenant}
use Rattle.wf_mapping.proofs.TreeLemmas.{place_there, upper_there}
use Rattle.wf_mapped.proofs.AnyLemmas.{AnyIs}
use Rattle.wf_mapped.proofs.HousedLemmas.{IsReady, are, housed, new_home}

-- a new node as a tenant
abbrev pub tenant_of : NewNode → Tenant
tenant_of n = NodeOf n.generation n.node.level n.node.prefix

-- a new node is this tenant, in this frame
pub record IsNodeIn (t : Tenant) (f : ℕ) (n : NewNode) : Type 0 where
  pub tenant : tenant_of n ≡ t
  pub frame : n.node.frame ≡ f

pub text_looked : (g page : ℕ) (ps : List PageAt) (ns : List NewNode) → lookup (same_tenant (TextOf g page)) (map page_home ps ++ map node_home ns) ≡ None
text_looked g page [] ns = of_nodes ns
  where
    of_nodes : (ns : List NewNode) → lookup (same_tenant (TextOf g page)) (map node_home ns) ≡ None
    of_nodes [] = refl
    of_nodes (n ∷ ns) = of_nodes ns
text_looked g page (p ∷ ps) ns = text_looked g page ps ns

pub node_skipped : (g level prefix : ℕ) (ps : List PageAt) (ns : List NewNode) → lookup (same_tenant (NodeOf g level prefix)) (map page_home ps ++ map node_home ns) ≡ lookup (same_tenant (NodeOf g level prefix)) (map node_home ns)
node_skipped g level prefix [] ns = refl
node_skipped g level prefix (p ∷ ps) ns = node_skipped g level prefix ps ns

pub data_looked : (n : ℕ) (ps : List PageAt) (ns : List NewNode) → lookup (same_tenant (DataOf n)) (map page_home ps ++ map node_home ns) ≡ option_map (λ (p : PageAt). p.frame) (views.found_by page_number ps n)
data_looked n [] ns = of_nodes ns
  where
    of_nodes : (ns : List NewNode) → lookup (same_tenant (DataOf n)) (map node_home ns) ≡ None
    of_nodes [] = refl
    of_nodes (m ∷ ns) = of_nodes ns
data_looked n (p ∷ ps) ns = elim (true_or_false (p.page == n)) [
  | inl t ↦ (let u : (n == p.page) ≡ true = (let e : p.page ≡ n = grind (arith, nat_tests) in grind (arith, nat_tests)) in rw (t, u) refl)
  | inr t ↦ (let u : (n == p.page) ≡ false = grind (arith, nat_tests) in rw (t, u) (data_looked n ps ns))
]

node_looked : (t : Tenant) (f : ℕ) (ns : List NewNode) → lookup (same_tenant t) (map node_home ns) ≡ Some f → AnyIs (IsNodeIn t f) ns
node_looked t f [] e = absurd cc
node_looked t f (n ∷ ns) e = elim (true_or_false (same_tenant t (tenant_of n))) [
  | inl u ↦ (
      let k : Some n.node.frame ≡ Some f = rw u at e in
      let frame : n.node.frame ≡ f = cc in
      inl (record { tenant = sym ((same_is t (tenant_of n)).0 u); frame = frame })
      )
  | inr u ↦ inr (node_looked t f ns (rw u at e))
]

-- a view, with its generation
pub record IsViewOf (words : WordsValue) (r : Records) (homes : Homes) (s : FlatState) (g : ℕ) : Type 0 where
  pub gen : GenState
  pub view : ViewValue
  pub at : slice_get s.gens g ≡ Some gen
  pub live : gen.live ≡ true
  pub there : view_of r.views g ≡ Some view
  pub kept : IsKeptView words homes s gen view

module _ (words : WordsValue) (r : Records) (homes : Homes) (s : FlatState) (mapping : Mapping) (ready : IsReady words r homes s mapping) where
  abbrev st : StandsFor words r homes s
  st = ready.stands

  abbrev after_s : FlatState
  after_s = mapped_by s mapping

  abbrev after_h : Homes
  after_h = housed r homes mapping

  abbrev nodes : List NewNode
  nodes = new_nodes r mapping

  -- two tenants that lie in one frame are one
  pub one_tenant : (t u : Tenant) (f : ℕ) → home_frame after_h t ≡ Some f → home_frame after_h u ≡ Some f → t ≡ u
  one_tenant t u f a b = homes_apart after_h after_s t u f (are words r homes s mapping ready).separate a b

  -- a node that is there after the mapping, and was not
  pub node_comes : (g level prefix f : ℕ) → home_frame homes (NodeOf g level prefix) ≡ None → home_frame after_h (NodeOf g level prefix) ≡ Some f → AnyIs (IsNodeIn (NodeOf g level prefix) f) nodes
  node_comes g level prefix f none e =
      node_looked (NodeOf g level prefix) f nodes (sym (node_skipped g level prefix (new_pages r mapping) nodes) ∙ sym (new_home words r homes s mapping ready (NodeOf g level prefix) none) ∙ e)

  -- a home is that of one that was there, or not
  pub old_or_new : (t : Tenant) → IsSome (home_frame homes t) ⊎ (home_frame homes t ≡ None)
  old_or_new t = by_home (home_frame homes t)
    where
      by_home : (o : Option ℕ) → IsSome o ⊎ (o ≡ None)
      by_home None = inr refl
      by_home (Some f) = inl refl

  view_with : (g : ℕ) (v : ViewValue) → view_of r.views g ≡ Some v → IsViewOf words r homes s g
  view_with g v e = by_gen (slice_get s.gens g) refl
    where
      by_live : (gen : GenState) → slice_get s.gens g ≡ Some gen → (b : Bool) → gen.live ≡ b → IsViewOf words r homes s g
      by_live gen at true live =
          let now : living_at s g ≡ Some gen = rw (at, live) refl in
          let kept : IsSomeAnd (view_of r.views g) (IsKeptView words homes s gen) =
          subst (λ (o : Option GenState). MatchOption o (view_of r.views g ≡ None) (λ gen. IsSomeAnd (view_of r.views g) (IsKeptView words homes s gen))) now (st.views g) in
          let is : IsKeptView words homes s gen v = subst (λ (o : Option ViewValue). IsSomeAnd o (IsKeptView words homes s gen)) e kept in
          record { gen = gen; view = v; at = at; live = live; there = e; kept = is }
      by_live gen at false live =
          let now : living_at s g ≡ None = rw (at, live) refl in
          let none : view_of r.views g ≡ None = subst (λ (o : Option GenState). MatchOption o (view_of r.views g ≡ None) (λ gen. IsSomeAnd (view_of r.views g) (IsKeptView words homes s gen))) now (st.views g) in
          absurd (let k : Some v ≡ None = sym e ∙ none in cc)

      by_gen : (o : Option GenState) → slice_get s.gens g ≡ o → IsViewOf words r homes s g
      by_gen None at =
          let now : living_at s g ≡ None = rw at refl in
          let none : view_of r.views g ≡ None = subst (λ (o : Option GenState). MatchOption o (view_of r.views g ≡ None) (λ gen. IsSomeAnd (view_of r.views g) (IsKeptView words homes s gen))) now (st.views g) in
          absurd (let k : Some v ≡ None = sym e ∙ none in cc)
      by_gen (Some gen) at = by_live gen at gen.live refl

  pub view_there : (g : ℕ) → IsSome (view_of r.views g) → IsViewOf words r homes s g
  view_there g some = by_view (view_of r.views g) refl some
    where
      by_view : (o : Option ViewValue) → view_of r.views g ≡ o → IsSome o → IsViewOf words r homes s g
      by_view None e h = absurd (let k : false ≡ true = h in cc)
      by_view (Some v) e h = view_with g v e

  -- a node at level 0 has one above it
  pub upper_stands : (g q : ℕ) → IsViewOf words r homes s g → IsSome (home_frame homes (NodeOf g 0 q)) → IsSome (home_frame homes (NodeOf g 1 (q / 512)))
  upper_stands g q is some =
      let below : list_any (λ p. q == p) is.gen.reach ≡ true =
      sym (place_there is.gen.reach q) ∙ sym (node_tenant s ready.tidy g is.gen is.at is.live (0, q)) ∙ sym (st.housed.each (NodeOf g 0 q)) ∙ some in
      st.housed.each (NodeOf g 1 (q / 512)) ∙ node_tenant s ready.tidy g is.gen is.at is.live (1, q / 512) ∙ upper_there is.gen.reach (q / 512) ∙ wider is.gen.reach below
    where
      wider : (ps : List ℕ) → list_any (λ p. q == p) ps ≡ true → list_any (λ p. q / 512 == p / 512) ps ≡ true
      wider [] e = absurd cc
      wider (p ∷ ps) e = elim (true_or_false (q == p)) [
        | inl t ↦ (
            let same : q ≡ p = grind (arith, nat_tests) in
            let d : q / 512 ≡ p / 512 = ap (λ (k : ℕ). k / 512) same in
            let u : (q / 512 == p / 512) ≡ true = grind (arith, nat_tests) in
            rw u refl
            )
        | inr t ↦ or_last (q / 512 == p / 512) (list_any (λ p. q / 512 == p / 512) ps) (wider ps (rw t at e))
      ]
        where
          or_last : (a b : Bool) → b ≡ true → (a || b) ≡ true
          or_last true b e = refl
          or_last false b e = e
