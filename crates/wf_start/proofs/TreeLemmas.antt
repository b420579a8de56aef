-- A place that is reached has its node.
use Rattle.std.proofs.Common.{◌≡◌, ◌/◌, ◌==◌, ◌||◌, ℕ, List, [], ◌∷◌, Bool, true, false, map, refl, ap, ◌∙◌, inl, inr, arith, nat_eq}
use Rattle.std.specs.List.{AllByRecursion, filter, flat_map, list_any}
use Rattle.std.specs.Set.{is_member}
use Rattle.std.proofs.lemmas.Bool.{cases_order}
use Rattle.std.proofs.lemmas.Bool.Decides.{nat_tests}
use Rattle.wf_flat.specs.Boot.{places_with}
use Rattle.wf_flat.specs.Lists.{with_number}
use Rattle.wf_flat.proofs.RisingLemmas.{with_here, with_past, with_same}
use Rattle.wf_homes.specs.Homes.{NodeOf, Tenant, nodes_below, same_tenant, tree_nodes}
use Rattle.wf_homes.proofs.ListLemmas.{any_both, map_lists, true_or_false}
use Rattle.wf_homes.proofs.TenantLemmas.{same_is}

pub or_yes : (a b : Bool) → b ≡ true → (a || b) ≡ true
or_yes true b e = refl
or_yes false b e = e

with_itself : (n : ℕ) (ms : List ℕ) → is_member nat_eq (with_number n ms) n ≡ true
with_itself n [] = grind (arith, nat_tests)
with_itself n (m ∷ ms) = elim (cases_order m n) [
  | inl e ↦ (rw (with_same n m ms e) (let t : nat_eq n m ≡ true = grind (arith, nat_tests) in rw t refl))
  | inr o ↦ (elim o [
    | inl lt ↦ (rw (with_past n m ms lt) (or_yes (nat_eq n m) (is_member nat_eq (with_number n ms) n) (with_itself n ms)))
    | inr gt ↦ (rw (with_here n m ms gt) (let t : nat_eq n n ≡ true = grind (arith, nat_tests) in rw t refl))
  ])
]

with_others : (n k : ℕ) (ms : List ℕ) → is_member nat_eq ms k ≡ true → is_member nat_eq (with_number n ms) k ≡ true
with_others n k [] e = absurd cc
with_others n k (m ∷ ms) e = elim (cases_order m n) [
  | inl same ↦ (rw (with_same n m ms same) e)
  | inr o ↦ (elim o [
    | inl lt ↦ (rw (with_past n m ms lt) (elim (true_or_false (nat_eq k m)) [
      | inl t ↦ (rw t refl)
      | inr t ↦ (rw t (with_others n k ms (rw t at e)))
    ]))
    | inr gt ↦ (rw (with_here n m ms gt) (or_yes (nat_eq k n) (is_member nat_eq (m ∷ ms) k) e))
  ])
]

pub places_keep : (places ns : List ℕ) (k : ℕ) → is_member nat_eq places k ≡ true → is_member nat_eq (places_with places ns) k ≡ true
unfolding places_with
places_keep places [] k e = e
places_keep places (n ∷ ns) k e = places_keep (with_number (n / 512) places) ns k (with_others (n / 512) k places e)

pub places_have : (places ns : List ℕ) → AllByRecursion (λ n. is_member nat_eq (places_with places ns) (n / 512) ≡ true) ns
unfolding places_with
places_have places [] = tt
places_have places (n ∷ ns) = (places_keep (with_number (n / 512) places) ns (n / 512) (with_itself (n / 512) places), places_have (with_number (n / 512) places) ns)

member_all : (P : ℕ → Type 0) (ns : List ℕ) (k : ℕ) → AllByRecursion P ns → is_member nat_eq ns k ≡ true → P k
member_all P [] k all e = absurd cc
member_all P (n ∷ ns) k all e = elim (true_or_false (nat_eq k n)) [
  | inl t ↦ (let same : k ≡ n = grind (arith, nat_tests) in rw same all.0)
  | inr t ↦ member_all P ns k all.1 (rw t at e)
]

module _ (p : ℕ) (reach : List ℕ) where
  abbrev node_of : ℕ × ℕ → Tenant
  node_of node = NodeOf 0 node.0 node.1

  abbrev is_it : Tenant → Bool
  is_it = same_tenant (NodeOf 0 0 p)

  in_places : (u : ℕ) (places : List ℕ) → p / 512 ≡ u → is_member nat_eq places p ≡ true → list_any is_it (map node_of (map (λ (place : ℕ). (0, place)) (filter (λ place. place / 512 == u) places))) ≡ true
  in_places u [] e there = absurd cc
  in_places u (q ∷ places) e there = elim (true_or_false (nat_eq p q)) [
    | inl t ↦ (
        let same : q ≡ p = grind (arith, nat_tests) in
        let below : (q / 512 == u) ≡ true = (let d : q / 512 ≡ u = rw same e in grind (arith, nat_tests)) in
        let yes : same_tenant (NodeOf 0 0 p) (NodeOf 0 0 q) ≡ true = (same_is (NodeOf 0 0 p) (NodeOf 0 0 q)).1 (rw same refl) in
        rw below (ap (λ (b : Bool). b || list_any is_it (map node_of (map (λ (place : ℕ). (0, place)) (filter (λ place. place / 512 == u) places)))) yes)
        )
    | inr t ↦ (elim (true_or_false (q / 512 == u)) [
      | inl below ↦ (rw below (or_yes (is_it (NodeOf 0 0 q)) (list_any is_it (map node_of (map (λ (place : ℕ). (0, place)) (filter (λ place. place / 512 == u) places)))) (in_places u places e (rw t at there))))
      | inr past ↦ (rw past (in_places u places e (rw t at there)))
    ])
  ]

  abbrev some_below : ℕ → List Tenant
  some_below u = map node_of (nodes_below reach u)

  in_below : (u : ℕ) → p / 512 ≡ u → is_member nat_eq reach p ≡ true → list_any is_it (some_below u) ≡ true
  in_below u e there = or_yes (is_it (NodeOf 0 1 u)) (list_any is_it (map node_of (map (λ (place : ℕ). (0, place)) (filter (λ place. place / 512 == u) reach)))) (in_places u reach e there)

  in_all : (us : List ℕ) → is_member nat_eq us (p / 512) ≡ true → is_member nat_eq reach p ≡ true → list_any is_it (flat_map some_below us) ≡ true
  in_all [] e there = absurd cc
  in_all (u ∷ us) e there =
      any_both is_it (some_below u) (flat_map some_below us)
      ∙ elim (true_or_false (nat_eq (p / 512) u)) [
        | inl t ↦ (let same : p / 512 ≡ u = grind (arith, nat_tests) in ap (λ (b : Bool). b || list_any is_it (flat_map some_below us)) (in_below u same there))
        | inr t ↦ or_yes (list_any is_it (some_below u)) (list_any is_it (flat_map some_below us)) (in_all us (rw t at e) there)
      ]

  -- the node at level 0 of a place that is reached is one of the tree
  pub node_in_tree : is_member nat_eq reach p ≡ true → list_any is_it (map node_of (tree_nodes reach)) ≡ true
  node_in_tree there =
      let us : List ℕ = places_with [] reach in
      let upper : is_member nat_eq us (p / 512) ≡ true = member_all (λ n. is_member nat_eq us (n / 512) ≡ true) reach p (places_have [] reach) there in
      let lists : map node_of (flat_map (nodes_below reach) us) ≡ flat_map some_below us = map_lists node_of (nodes_below reach) us in
      or_yes (is_it (NodeOf 0 2 0)) (list_any is_it (map node_of (flat_map (nodes_below reach) us))) (ap (list_any is_it) lists ∙ in_all us upper there)
