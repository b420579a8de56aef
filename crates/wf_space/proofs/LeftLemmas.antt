-- Homes and what lies in them, but for a page of data.
use Rattle.std.proofs.Common.{◌≡◌, ◌≢◌, ◌==◌, ◌&&◌, ◌||◌, ◌++◌, ℕ, List, [], ◌∷◌, Bool, true, false, not, Some, None, map, refl, sym, ap, subst, ◌∙◌, inl, inr, arith, cond, nat_eq}
use Rattle.std.specs.List.{AllByRecursion, IsDistinct, filter, flat_map}
use Rattle.std.specs.Map.{keys_of, lookup, values_of}
use Rattle.std.specs.Set.{is_member}
use Rattle.std.proofs.lemmas.Bool.Decides.{nat_tests}
use Rattle.std.proofs.lemmas.Map.Entries.{lookup-filter-keys}
use Rattle.wf_outside.specs.Pages.{PageValue}
use Rattle.wf_flat.specs.State.{FlatState, GenState, PageState}
use Rattle.wf_effects.specs.Effects.{page_gone}
use Rattle.wf_homes.specs.Homes.{DataOf, Homes, NodeOf, Tenant, TextOf, has_tenant, home_frame, node_tenants, same_tenant, text_tenants, tree_nodes, without_page}
use Rattle.wf_homes.proofs.ListLemmas.{all_any, all_lists, all_map, any_both, none_any, true_or_false}
use Rattle.wf_homes.proofs.TenantLemmas.{same_is}

-- what lies in frames, but for the page
pub no_data_text : (gens : List GenState) (n : ℕ) → is_member same_tenant (flat_map text_tenants gens) (DataOf n) ≡ false
no_data_text gens n = none_any (same_tenant (DataOf n)) (flat_map text_tenants gens) (all_lists text_tenants (λ t. same_tenant (DataOf n) t ≡ false) gens (all_any (λ (gen : GenState). AllByRecursion (λ t. same_tenant (DataOf n) t ≡ false) (text_tenants gen)) (λ gen. one gen gen.live refl) gens))
  where
    one : (gen : GenState) (b : Bool) → gen.live ≡ b → AllByRecursion (λ t. same_tenant (DataOf n) t ≡ false) (text_tenants gen)
    one gen true e = rw e (all_map (λ (k : ℕ). Unit {0}) (λ t. same_tenant (DataOf n) t ≡ false) (TextOf gen.number) (λ k u. refl) (map (λ (p : PageValue). p.number) gen.text) (all_any (λ (k : ℕ). Unit {0}) (λ k. tt) (map (λ (p : PageValue). p.number) gen.text)))
    one gen false e = rw e tt

pub no_data_node : (gens : List GenState) (n : ℕ) → is_member same_tenant (flat_map node_tenants gens) (DataOf n) ≡ false
no_data_node gens n = none_any (same_tenant (DataOf n)) (flat_map node_tenants gens) (all_lists node_tenants (λ t. same_tenant (DataOf n) t ≡ false) gens (all_any (λ (gen : GenState). AllByRecursion (λ t. same_tenant (DataOf n) t ≡ false) (node_tenants gen)) (λ gen. one gen gen.live refl) gens))
  where
    one : (gen : GenState) (b : Bool) → gen.live ≡ b → AllByRecursion (λ t. same_tenant (DataOf n) t ≡ false) (node_tenants gen)
    one gen true e = rw e (all_map (λ (k : ℕ × ℕ). Unit {0}) (λ t. same_tenant (DataOf n) t ≡ false) (λ node. NodeOf gen.number node.0 node.1) (λ k u. refl) (tree_nodes gen.reach) (all_any (λ (k : ℕ × ℕ). Unit {0}) (λ k. tt) (tree_nodes gen.reach)))
    one gen false e = rw e tt

abbrev pub data_tenants : List PageState → List Tenant
data_tenants pages = map (λ (p : PageState). DataOf p.number) pages

-- whether a tenant is there, by the three parts
pub parts : (s : FlatState) (t : Tenant) → has_tenant s t ≡ ((is_member same_tenant (flat_map text_tenants s.gens) t || is_member same_tenant (data_tenants s.pages) t) || is_member same_tenant (flat_map node_tenants s.gens) t)
parts s t =
    any_both (same_tenant t) (flat_map text_tenants s.gens ++ data_tenants s.pages) (flat_map node_tenants s.gens)
    ∙ ap (λ (b : Bool). b || is_member same_tenant (flat_map node_tenants s.gens) t) (any_both (same_tenant t) (flat_map text_tenants s.gens) (data_tenants s.pages))

data_part : (pages : List PageState) (page : ℕ) (t : Tenant) → is_member same_tenant (data_tenants (filter (λ p. not (p.number == page)) pages)) t ≡ (not (same_tenant (DataOf page) t) && is_member same_tenant (data_tenants pages) t)
data_part [] page t = and_none (not (same_tenant (DataOf page) t))
  where
    and_none : (b : Bool) → false ≡ (b && false)
    and_none true = refl
    and_none false = refl
data_part (p ∷ ps) page (TextOf g n) = elim (true_or_false (p.number == page)) [
  | inl e ↦ (rw e (data_part ps page (TextOf g n)))
  | inr e ↦ (rw e (data_part ps page (TextOf g n)))
]
data_part (p ∷ ps) page (NodeOf g l n) = elim (true_or_false (p.number == page)) [
  | inl e ↦ (rw e (data_part ps page (NodeOf g l n)))
  | inr e ↦ (rw e (data_part ps page (NodeOf g l n)))
]
data_part (p ∷ ps) page (DataOf n) = elim (true_or_false (p.number == page)) [
  | inl e ↦ (
      let same : p.number ≡ page = grind (arith, nat_tests) in
      rw e (elim (true_or_false (page == n)) [
        | inl u ↦ (data_part ps page (DataOf n) ∙ rw u refl)
        | inr u ↦ (
            let w : (n == p.number) ≡ false = grind (arith, nat_tests) in
            data_part ps page (DataOf n) ∙ rw (u, w) refl
            )
      ])
      )
  | inr e ↦ rw e (elim (true_or_false (n == p.number)) [
    | inl u ↦ (
        let w : (page == n) ≡ false = grind (arith, nat_tests) in
        rw (u, w) refl
        )
    | inr u ↦ (rw u (data_part ps page (DataOf n)))
  ])
]

either_part : (a b c d : Bool) → ((d ≡ false) → (a ≡ false) × (c ≡ false)) → ((a || (d && b)) || c) ≡ (d && ((a || b) || c))
either_part a b c true h = refl
either_part a b c false h = (let k = h refl in rw (k.0, k.1) refl)

pub tenant_gone : (s : FlatState) (page : ℕ) (worn : Bool) (t : Tenant) → has_tenant (page_gone s page worn) t ≡ (not (same_tenant (DataOf page) t) && has_tenant s t)
tenant_gone s page worn t =
    parts (page_gone s page worn) t
    ∙ ap (λ (b : Bool). (is_member same_tenant (flat_map text_tenants s.gens) t || b) || is_member same_tenant (flat_map node_tenants s.gens) t) (data_part s.pages page t)
    ∙ either_part (is_member same_tenant (flat_map text_tenants s.gens) t) (is_member same_tenant (data_tenants s.pages) t) (is_member same_tenant (flat_map node_tenants s.gens) t) (not (same_tenant (DataOf page) t)) (λ e. (
    let same : same_tenant (DataOf page) t ≡ true = not_false (same_tenant (DataOf page) t) e in
    let is : DataOf page ≡ t = (same_is (DataOf page) t).0 same in
    (subst (λ (u : Tenant). is_member same_tenant (flat_map text_tenants s.gens) u ≡ false) is (no_data_text s.gens page), subst (λ (u : Tenant). is_member same_tenant (flat_map node_tenants s.gens) u ≡ false) is (no_data_node s.gens page))
    ))
    ∙ ap (λ (b : Bool). not (same_tenant (DataOf page) t) && b) (sym (parts s t))
  where
    not_false : (b : Bool) → not b ≡ false → b ≡ true
    not_false true e = refl
    not_false false e = absurd cc

-- the homes of all others stay
pub home_left : (homes : Homes) (page : ℕ) (worn : Bool) (t : Tenant) → home_frame (without_page homes page worn) t ≡ cond (not (same_tenant (DataOf page) t)) (home_frame homes t) None
home_left homes page worn t = lookup-filter-keys (same_tenant t) (λ u. not (same_tenant (DataOf page) u)) (not (same_tenant (DataOf page) t))
    (λ u e. ap (λ (w : Tenant). not (same_tenant (DataOf page) w)) (sym ((same_is t u).0 e))) homes.homes

-- that of the page alone is in its frame
none_else : (u h : Tenant) (f : ℕ) → u ≡ h → (rest : List (Tenant × ℕ)) → AllByRecursion (λ k. same_tenant h k ≡ false) (keys_of rest) → AllByRecursion (λ other. same_tenant u other.0 ≡ true → other.1 ≡ f) rest
none_else u h f e [] all = tt
none_else u h f e (other ∷ rest) all = (
  λ w. absurd (let a : same_tenant h other.0 ≡ true = subst (λ (k : Tenant). same_tenant k other.0 ≡ true) e w in let k : true ≡ false = sym a ∙ all.0 in cc),
  none_else u h f e rest all.1,
)

pub only_home : (u : Tenant) (homes : List (Tenant × ℕ)) (f : ℕ) → IsDistinct same_tenant (keys_of homes) → lookup (same_tenant u) homes ≡ Some f → AllByRecursion (λ home. same_tenant u home.0 ≡ true → home.1 ≡ f) homes
unfolding IsDistinct
only_home u [] f d e = tt
only_home u (home ∷ homes) f d e = elim (true_or_false (same_tenant u home.0)) [
  | inl t ↦ (
      let k : Some home.1 ≡ Some f = (rw t at e) in
      let here : home.1 ≡ f = cc in
      (λ _. here, none_else u home.0 f ((same_is u home.0).0 t) homes d.0)
      )
  | inr t ↦ ((λ w. absurd (let k : true ≡ false = sym w ∙ t in cc)), only_home u homes f d.1 (rw t at e))
]

pub values_left : (u : Tenant) (homes : List (Tenant × ℕ)) (f fr : ℕ) → AllByRecursion (λ home. same_tenant u home.0 ≡ true → home.1 ≡ f) homes → fr ≢ f
    → is_member nat_eq (values_of (filter (λ home. not (same_tenant u home.0)) homes)) fr ≡ is_member nat_eq (values_of homes) fr
values_left u [] f fr all apart = refl
values_left u (home ∷ homes) f fr all apart = elim (true_or_false (same_tenant u home.0)) [
  | inl t ↦ (
      let e : home.1 ≡ f = all.0 t in
      let w : nat_eq fr home.1 ≡ false = grind (arith, nat_tests) in
      rw (t, w) (values_left u homes f fr all.1 apart)
      )
  | inr t ↦ (rw t (ap (λ (b : Bool). nat_eq fr home.1 || b) (values_left u homes f fr all.1 apart)))
]

-- a number between others that all differ
pub apart_between : (xs ys : List ℕ) (f : ℕ) → IsDistinct nat_eq (xs ++ f ∷ ys) → (is_member nat_eq xs f ≡ false) × (is_member nat_eq ys f ≡ false)
unfolding IsDistinct
apart_between [] ys f d = (refl, none_any (nat_eq f) ys d.0)
apart_between (x ∷ xs) ys f d =
    let rest = apart_between xs ys f d.1 in
    let e : nat_eq x f ≡ false = at_middle xs d.0 in
    let w : nat_eq f x ≡ false = grind (arith, nat_tests) in
    (rw w rest.0, rest.1)
  where
    at_middle : (zs : List ℕ) → AllByRecursion (λ y. nat_eq x y ≡ false) (zs ++ f ∷ ys) → nat_eq x f ≡ false
    at_middle [] all = all.0
    at_middle (z ∷ zs) all = at_middle zs all.1
