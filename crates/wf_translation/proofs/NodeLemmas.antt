-- A node at level 0 has one above it.
use Rattle.std.proofs.Common.{◌≡◌, ◌/◌, ◌==◌, ◌||◌, ◌⊎◌, ◌++◌, ℕ, List, [], ◌∷◌, Bool, true, false, Option, Some, None, map, refl, sym, ap, ◌∙◌, inl, inr, arith, is_some}
use Rattle.std.specs.List.{filter, flat_map, list_any}
use Rattle.std.proofs.lemmas.Bool.Decides.{nat_tests}
use Rattle.wf_flat.specs.Boot.{places_with}
use Rattle.wf_flat.specs.State.{FlatState, GenState, PageState}
use Rattle.wf_homes.specs.Homes.{AreHomes, DataOf, Homes, NodeOf, Tenant, TextOf, has_tenant, home_frame, node_tenants, nodes_below, same_tenant, text_tenants, tree_nodes}
use Rattle.wf_outside.specs.Images.{text_numbers}
use Rattle.wf_homes.proofs.ListLemmas.{any_both, map_lists, true_or_false}
use Rattle.wf_homes.proofs.TenantLemmas.{same_is}

or_cases : (a b : Bool) → (a || b) ≡ true → (a ≡ true) ⊎ (b ≡ true)
or_cases true b e = inl refl
or_cases false b e = inr e

or_left : (a b : Bool) → a ≡ true → (a || b) ≡ true
or_left a b e = rw e refl

or_right : (a b : Bool) → b ≡ true → (a || b) ≡ true
or_right true b e = refl
or_right false b e = e

or_none : (a b : Bool) → a ≡ false → b ≡ false → (a || b) ≡ false
or_none a b e f = rw (e, f) refl

-- no page of text or data is a node
module _ (g level prefix : ℕ) where
  abbrev is_it : Tenant → Bool
  is_it = same_tenant (NodeOf g level prefix)

  texts_apart : (k : ℕ) (ns : List ℕ) → list_any is_it (map (TextOf k) ns) ≡ false
  texts_apart k [] = refl
  texts_apart k (n ∷ ns) = texts_apart k ns

  text_apart : (gen : GenState) → list_any is_it (text_tenants gen) ≡ false
  text_apart gen = elim (true_or_false gen.live) [
    | inl t ↦ rw t (texts_apart gen.number (text_numbers gen.text))
    | inr t ↦ rw t refl
  ]

  all_texts_apart : (gens : List GenState) → list_any is_it (flat_map text_tenants gens) ≡ false
  all_texts_apart [] = refl
  all_texts_apart (gen ∷ gens) =
      any_both is_it (text_tenants gen) (flat_map text_tenants gens)
      ∙ or_none (list_any is_it (text_tenants gen)) (list_any is_it (flat_map text_tenants gens)) (text_apart gen) (all_texts_apart gens)

  pages_apart : (pages : List PageState) → list_any is_it (map (λ (page : PageState). DataOf page.number) pages) ≡ false
  pages_apart [] = refl
  pages_apart (page ∷ pages) = pages_apart pages

  -- a node is there where it is among nodes
  pub node_there : (s : FlatState) → has_tenant s (NodeOf g level prefix) ≡ list_any is_it (flat_map node_tenants s.gens)
  node_there s =
      let texts : List Tenant = flat_map text_tenants s.gens in
      let pages : List Tenant = map (λ (page : PageState). DataOf page.number) s.pages in
      let front : list_any is_it (texts ++ pages) ≡ false = any_both is_it texts pages ∙ or_none (list_any is_it texts) (list_any is_it pages) (all_texts_apart s.gens) (pages_apart s.pages) in
      any_both is_it (texts ++ pages) (flat_map node_tenants s.gens) ∙ ap (λ (b : Bool). b || list_any is_it (flat_map node_tenants s.gens)) front

module _ (g p : ℕ) where
  abbrev lower : Tenant
  lower = NodeOf g 0 p

  abbrev upper : Tenant
  upper = NodeOf g 1 (p / 512)

  module _ (k : ℕ) (reach : List ℕ) where
    abbrev node_of : ℕ × ℕ → Tenant
    node_of node = NodeOf k node.0 node.1

    abbrev some_below : ℕ → List Tenant
    some_below u = map node_of (nodes_below reach u)

    in_places : (u : ℕ) (places : List ℕ) → list_any (same_tenant lower) (map node_of (map (λ (place : ℕ). (0, place)) (filter (λ place. place / 512 == u) places))) ≡ true → same_tenant upper (NodeOf k 1 u) ≡ true
    in_places u [] e = absurd cc
    in_places u (q ∷ places) e = elim (true_or_false (q / 512 == u)) [
      | inl t ↦ (
          elim (or_cases (same_tenant lower (NodeOf k 0 q)) (list_any (same_tenant lower) (map node_of (map (λ (place : ℕ). (0, place)) (filter (λ place. place / 512 == u) places)))) (rw t at e)) [
            | inl y ↦ (
                let same : NodeOf g 0 p ≡ NodeOf k 0 q = (same_is lower (NodeOf k 0 q)).0 y in
                let a : g ≡ k = cc in
                let b : p ≡ q = cc in
                let c : q / 512 ≡ u = grind (arith, nat_tests) in
                let d : p / 512 ≡ u = rw b c in
                (same_is upper (NodeOf k 1 u)).1 (rw (a, d) refl)
                )
            | inr n ↦ in_places u places n
          ]
          )
      | inr t ↦ in_places u places (rw t at e)
    ]

    in_below : (u : ℕ) → list_any (same_tenant lower) (some_below u) ≡ true → list_any (same_tenant upper) (some_below u) ≡ true
    in_below u e =
        let rest : List Tenant = map node_of (map (λ (place : ℕ). (0, place)) (filter (λ place. place / 512 == u) reach)) in
        elim (or_cases (same_tenant lower (NodeOf k 1 u)) (list_any (same_tenant lower) rest) e) [
          | inl y ↦ absurd (let same : NodeOf g 0 p ≡ NodeOf k 1 u = (same_is lower (NodeOf k 1 u)).0 y in cc)
          | inr y ↦ or_left (same_tenant upper (NodeOf k 1 u)) (list_any (same_tenant upper) rest) (in_places u reach y)
        ]

    in_all : (us : List ℕ) → list_any (same_tenant lower) (flat_map some_below us) ≡ true → list_any (same_tenant upper) (flat_map some_below us) ≡ true
    in_all [] e = absurd cc
    in_all (u ∷ us) e =
        let rest : List Tenant = flat_map some_below us in
        any_both (same_tenant upper) (some_below u) rest
        ∙ elim (or_cases (list_any (same_tenant lower) (some_below u)) (list_any (same_tenant lower) rest) (sym (any_both (same_tenant lower) (some_below u) rest) ∙ e)) [
          | inl y ↦ or_left (list_any (same_tenant upper) (some_below u)) (list_any (same_tenant upper) rest) (in_below u y)
          | inr y ↦ or_right (list_any (same_tenant upper) (some_below u)) (list_any (same_tenant upper) rest) (in_all us y)
        ]

    in_tree : list_any (same_tenant lower) (map node_of (tree_nodes reach)) ≡ true → list_any (same_tenant upper) (map node_of (tree_nodes reach)) ≡ true
    in_tree e =
        let us : List ℕ = places_with [] reach in
        let same : map node_of (flat_map (nodes_below reach) us) ≡ flat_map some_below us = map_lists node_of (nodes_below reach) us in
        elim (or_cases (same_tenant lower (NodeOf k 2 0)) (list_any (same_tenant lower) (map node_of (flat_map (nodes_below reach) us))) e) [
          | inl y ↦ absurd (let one : NodeOf g 0 p ≡ NodeOf k 2 0 = (same_is lower (NodeOf k 2 0)).0 y in cc)
          | inr y ↦ or_right (same_tenant upper (NodeOf k 2 0)) (list_any (same_tenant upper) (map node_of (flat_map (nodes_below reach) us)))
              (ap (list_any (same_tenant upper)) same ∙ in_all us (sym (ap (list_any (same_tenant lower)) same) ∙ y))
        ]

  in_gen : (gen : GenState) → list_any (same_tenant lower) (node_tenants gen) ≡ true → list_any (same_tenant upper) (node_tenants gen) ≡ true
  in_gen gen e = elim (true_or_false gen.live) [
    | inl t ↦ rw t (in_tree gen.number gen.reach (rw t at e))
    | inr t ↦ absurd (let k : false ≡ true = rw t at e in cc)
  ]

  in_gens : (gens : List GenState) → list_any (same_tenant lower) (flat_map node_tenants gens) ≡ true → list_any (same_tenant upper) (flat_map node_tenants gens) ≡ true
  in_gens [] e = absurd cc
  in_gens (gen ∷ gens) e =
      let rest : List Tenant = flat_map node_tenants gens in
      any_both (same_tenant upper) (node_tenants gen) rest
      ∙ elim (or_cases (list_any (same_tenant lower) (node_tenants gen)) (list_any (same_tenant lower) rest) (sym (any_both (same_tenant lower) (node_tenants gen) rest) ∙ e)) [
        | inl y ↦ or_left (list_any (same_tenant upper) (node_tenants gen)) (list_any (same_tenant upper) rest) (in_gen gen y)
        | inr y ↦ or_right (list_any (same_tenant upper) (node_tenants gen)) (list_any (same_tenant upper) rest) (in_gens gens y)
      ]

  upper_there : (s : FlatState) → has_tenant s lower ≡ true → has_tenant s upper ≡ true
  upper_there s e = node_there g 1 (p / 512) s ∙ in_gens s.gens (sym (node_there g 0 p s) ∙ e)

  -- where the node above has no home, it has none either
  pub none_below : (homes : Homes) (s : FlatState) → AreHomes homes s → home_frame homes upper ≡ None → home_frame homes lower ≡ None
  none_below homes s are none = by_home (home_frame homes lower) refl
    where
      by_home : (o : Option ℕ) → home_frame homes lower ≡ o → o ≡ None
      by_home None e = refl
      by_home (Some f) e = absurd (
          let here : has_tenant s lower ≡ true = sym (are.each lower) ∙ ap is_some e in
          let above : has_tenant s upper ≡ true = upper_there s here in
          let k : false ≡ true = sym (ap is_some none) ∙ are.each upper ∙ above in cc
          )
