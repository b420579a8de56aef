-- New nodes by generation and by view.
use Rattle.std.proofs.Common.{◌≡◌, ◌<◌, ◌≤◌, ◌+◌, ◌==◌, ◌||◌, ◌++◌, ℕ, zero, suc, List, [], ◌∷◌, Bool, true, false, not, Option, Some, None, length, map, refl, sym, ap, subst, ◌∙◌, inl, inr, arith, is_some, if◌then◌else◌}
use Rattle.std.specs.Prelude.{IsSome, IsSomeAnd, MatchOption, option_and_then, slice_get}
use Rattle.std.specs.List.{AllByRecursion, filter, flat_map, list_any, range_with_len}
use Rattle.std.specs.Set.{is_member}
use Rattle.std.proofs.lemmas.Bool.Decides.{nat_tests}
use Rattle.wf_outside.specs.Images.{text_numbers}
use Rattle.wf_outside.specs.Lists.{IsRising}
use Rattle.wf_frames.specs.Layout.{WordsValue}
use Rattle.wf_views.specs.declared.records.Records.{Records}
use Rattle.wf_views.specs.Lists.{found_by}
use Rattle.wf_views.specs.Views.{ViewValue, generation_number, view_of}
use Rattle.wf_flat.specs.Boot.{places_with}
use Rattle.wf_flat.specs.Ordered.{IsGen}
use Rattle.wf_flat.specs.State.{FlatState, GenState, PageState}
use Rattle.wf_effects.specs.Effects.{reaching}
use Rattle.wf_homes.specs.Homes.{Homes, NodeOf, Tenant, TextOf, has_tenant, home_frame, node_tenants, same_tenant, text_tenants, tree_nodes}
use Rattle.wf_homes.specs.Kept.{IsKeptView, node_frame}
use Rattle.wf_homes.specs.Laws.{IsTidy}
use Rattle.wf_homes.specs.Stands.{StandsFor, living_at}
use Rattle.wf_homes.proofs.ListLemmas.{all_more, map_lists, true_or_false}
use Rattle.wf_space.proofs.LeftLemmas.{data_tenants, parts}
use Rattle.wf_mapping.specs.declared.nodes.MissingNode.{MissingNode}
use Rattle.wf_mapping.specs.Nodes.{lacks_node, missing_from, missing_in, missing_node, nodes_for}
use Rattle.wf_mapping.proofs.AnyLemmas.{any_flat, any_map, any_same}
use Rattle.wf_mapping.proofs.ReserveLemmas.{found_at}
use Rattle.wf_mapping.proofs.TreeLemmas.{filter_flat, filter_map, none_any, same_node, tree_same}

pub all_each : {A : Type 0} (P : A → Type 0) (xs : List A) → ((i : ℕ) (x : A) → slice_get xs i ≡ Some x → P x) → AllByRecursion P xs
all_each P [] each = tt
all_each P (x ∷ xs) each = (each 0 x refl, all_each P xs (λ i y e. each (suc i) y e))

pub get_low : {A : Type 0} (xs : List A) (i : ℕ) (x : A) → slice_get xs i ≡ Some x → i < length xs
get_low [] i x e = absurd cc
get_low (y ∷ xs) zero x e = omega arith
get_low (y ∷ xs) (suc i) x e = (let lt : i < length xs = get_low xs i x e in omega arith)

filter_same : {A : Type 0} (p q : A → Bool) → ((x : A) → p x ≡ q x) → (xs : List A) → filter p xs ≡ filter q xs
filter_same p q same [] = refl
filter_same {A = A} p q same (x ∷ xs) = elim (true_or_false (q x)) [
  | inl t ↦ (let u : p x ≡ true = same x ∙ t in rw (u, t) (ap (λ (ys : List A). x ∷ ys) (filter_same p q same xs)))
  | inr t ↦ (let u : p x ≡ false = same x ∙ t in rw (u, t) (filter_same p q same xs))
]

map_twice : {A B C : Type 0} (f : A → B) (g : B → C) (xs : List A) → map g (map f xs) ≡ map (λ x. g (f x)) xs
map_twice f g [] = refl
map_twice {C = C} f g (x ∷ xs) = ap (λ (ys : List C). g (f x) ∷ ys) (map_twice f g xs)

-- one list for each element, by its place
flat_index : {A B : Type 0} (f : A → List B) (g : ℕ → List B) (xs : List A) (a : ℕ) → ((i : ℕ) (x : A) → slice_get xs i ≡ Some x → f x ≡ g (a + i)) → flat_map f xs ≡ flat_map g (range_with_len a (length xs))
flat_index f g [] a each = refl
flat_index {B = B} f g (x ∷ xs) a each =
    let z : a + 0 ≡ a = omega arith in
    ap (λ (ys : List B). ys ++ flat_map f xs) (each 0 x refl ∙ ap g z)
    ∙ ap (λ (ys : List B). g a ++ ys) (flat_index f g xs (a + 1) (λ i y e. (each (suc i) y e ∙ ap g (let k : a + suc i ≡ a + 1 + i = omega arith in k))))

module _ {B : Type 0} (h : ViewValue → List B) where
  -- what is given for a view, if there is one
  abbrev pub for_view : Option ViewValue → List B
  for_view None = []
  for_view (Some v) = h v

  none_found : (a : ℕ) (vs : List ViewValue) → AllByRecursion (λ v. a < v.generation) vs → found_by generation_number vs a ≡ None
  none_found a [] all = refl
  none_found a (v ∷ vs) all = (let lt : a < v.generation = all.0 in let t : (v.generation == a) ≡ false = grind (arith, nat_tests) in rw t (none_found a vs all.1))

  skipped : (v : ViewValue) (vs : List ViewValue) (a n : ℕ) → v.generation < a → flat_map (λ g. for_view (found_by generation_number (v ∷ vs) g)) (range_with_len a n) ≡ flat_map (λ g. for_view (found_by generation_number vs g)) (range_with_len a n)
  skipped v vs a zero lt = refl
  skipped v vs a (suc n) lt =
      let t : (v.generation == a) ≡ false = grind (arith, nat_tests) in
      rw t (ap (λ (ys : List B). for_view (found_by generation_number vs a) ++ ys) (skipped v vs (a + 1) n (omega arith)))

  above : (v : ViewValue) (vs : List ViewValue) (a : ℕ) → a ≤ v.generation → AllByRecursion (λ m. v.generation < m) (map generation_number vs) → AllByRecursion (λ w. a < w.generation) vs
  above v [] a le all = tt
  above v (w ∷ ws) a le all = ((let lt : v.generation < w.generation = all.0 in omega arith), above v ws a le all.1)

  -- one list for each view, by its generation
  pub flat_found : (vs : List ViewValue) (a n : ℕ) → IsRising (map generation_number vs) → AllByRecursion (λ v. a ≤ v.generation) vs → AllByRecursion (λ v. v.generation < a + n) vs
      → flat_map (λ g. for_view (found_by generation_number vs g)) (range_with_len a n) ≡ flat_map h vs
  flat_found [] a zero up low high = refl
  flat_found (v ∷ vs) a zero up low high = absurd (let k : a ≤ v.generation = low.0 in let l : v.generation < a + 0 = high.0 in omega arith)
  flat_found [] a (suc n) up low high = flat_found [] (a + 1) n tt tt tt
  flat_found (v ∷ vs) a (suc n) up low high = elim (true_or_false (v.generation == a)) [
    | inl t ↦ (
        let same : v.generation ≡ a = grind (arith, nat_tests) in
        let ups : AllByRecursion (λ w. a < w.generation) vs = above v vs a (omega arith) up.0 in
        let lows : AllByRecursion (λ w. a + 1 ≤ w.generation) vs = all_more (λ w. a < w.generation) (λ w. a + 1 ≤ w.generation) (λ w lt. omega arith) vs ups in
        let highs : AllByRecursion (λ w. w.generation < a + 1 + n) vs = all_more (λ w. w.generation < a + suc n) (λ w. w.generation < a + 1 + n) (λ w lt. omega arith) vs high.1 in
        rw t (ap (λ (ys : List B). h v ++ ys) (skipped v vs (a + 1) n (omega arith) ∙ flat_found vs (a + 1) n up.1 lows highs))
        )
    | inr t ↦ (
        let le : a ≤ v.generation = low.0 in
        let apart : a < v.generation = grind (arith, nat_tests) in
        let ups : AllByRecursion (λ w. a < w.generation) vs = above v vs a le up.0 in
        let none : found_by generation_number vs a ≡ None = none_found a vs ups in
        let lows : AllByRecursion (λ w. a + 1 ≤ w.generation) (v ∷ vs) = all_more (λ w. a < w.generation) (λ w. a + 1 ≤ w.generation) (λ w lt. omega arith) (v ∷ vs) (apart, ups) in
        let highs : AllByRecursion (λ w. w.generation < a + 1 + n) (v ∷ vs) = all_more (λ w. w.generation < a + suc n) (λ w. w.generation < a + 1 + n) (λ w lt. omega arith) (v ∷ vs) high in
        rw (t, none) (flat_found (v ∷ vs) (a + 1) n up lows highs)
        )
  ]

-- nodes of one generation among those of all
module _ (g level prefix : ℕ) where
  abbrev node : Tenant
  node = NodeOf g level prefix

  abbrev is_it : Tenant → Bool
  is_it = same_tenant node

  abbrev in_gen : GenState → Bool
  in_gen gen = list_any is_it (node_tenants gen)

  other_gen : (gen : GenState) (b : Bool) → gen.live ≡ b → (g == gen.number) ≡ false → in_gen gen ≡ false
  other_gen gen true live apart =
      rw live (any_map is_it (λ (n : ℕ × ℕ). NodeOf gen.number n.0 n.1) (tree_nodes gen.reach)
      ∙ any_same (λ (n : ℕ × ℕ). same_tenant node (NodeOf gen.number n.0 n.1)) (λ n. false) (λ n. rw apart refl) (tree_nodes gen.reach)
      ∙ none_any (tree_nodes gen.reach))
  other_gen gen false live apart = rw live refl

  its_gen : (gen : GenState) → gen.live ≡ true → gen.number ≡ g → in_gen gen ≡ list_any (same_node (level, prefix)) (tree_nodes gen.reach)
  its_gen gen live number =
      let same : (g == gen.number) ≡ true = grind (arith, nat_tests) in
      rw live (any_map is_it (λ (n : ℕ × ℕ). NodeOf gen.number n.0 n.1) (tree_nodes gen.reach)
      ∙ any_same (λ (n : ℕ × ℕ). same_tenant node (NodeOf gen.number n.0 n.1)) (same_node (level, prefix)) (λ n. rw same refl) (tree_nodes gen.reach))

  abbrev ArePlaced : ℕ → List GenState → Type 0
  ArePlaced a gens = (i : ℕ) (gen : GenState) → slice_get gens i ≡ Some gen → gen.number ≡ a + i

  none_past : (gens : List GenState) (a : ℕ) → ArePlaced a gens → g < a → list_any in_gen gens ≡ false
  none_past [] a placed lt = refl
  none_past (x ∷ xs) a placed lt =
      let number : x.number ≡ a + 0 = placed 0 x refl in
      let apart : (g == x.number) ≡ false = grind (arith, nat_tests) in
      rw (other_gen x x.live refl apart) (none_past xs (a + 1) (λ i y e. (let k : y.number ≡ a + suc i = placed (suc i) y e in omega arith)) (omega arith))

  only_gen : (gens : List GenState) (a k : ℕ) (gen : GenState) → ArePlaced a gens → slice_get gens k ≡ Some gen → g ≡ a + k → list_any in_gen gens ≡ in_gen gen
  only_gen [] a k gen placed e at = absurd cc
  only_gen (x ∷ xs) a zero gen placed e at =
      let same : x ≡ gen = cc in
      ap (λ (b : Bool). in_gen x || b) (none_past xs (a + 1) (λ i y f. (let n : y.number ≡ a + suc i = placed (suc i) y f in omega arith)) (omega arith)) ∙ or_none (in_gen x) ∙ ap in_gen same
    where
      or_none : (b : Bool) → (b || false) ≡ b
      or_none true = refl
      or_none false = refl
  only_gen (x ∷ xs) a (suc k) gen placed e at =
      let number : x.number ≡ a + 0 = placed 0 x refl in
      let apart : (g == x.number) ≡ false = grind (arith, nat_tests) in
      rw (other_gen x x.live refl apart) (only_gen xs (a + 1) k gen (λ i y f. (let n : y.number ≡ a + suc i = placed (suc i) y f in omega arith)) e (omega arith))

-- the nodes of a generation that lives are those of its tree
pub node_tenant : (s : FlatState) → IsTidy s → (g : ℕ) (gen : GenState) → slice_get s.gens g ≡ Some gen → gen.live ≡ true → (n : ℕ × ℕ) → has_tenant s (NodeOf g n.0 n.1) ≡ list_any (same_node n) (tree_nodes gen.reach)
node_tenant s tidy g gen at live n =
    parts s (NodeOf g n.0 n.1)
    ∙ ap (λ (b : Bool). (b || is_member same_tenant (data_tenants s.pages) (NodeOf g n.0 n.1)) || is_member same_tenant (flat_map node_tenants s.gens) (NodeOf g n.0 n.1)) (no_text s.gens)
    ∙ ap (λ (b : Bool). b || is_member same_tenant (flat_map node_tenants s.gens) (NodeOf g n.0 n.1)) (no_data s.pages)
    ∙ any_flat (same_tenant (NodeOf g n.0 n.1)) node_tenants s.gens
    ∙ only_gen g n.0 n.1 s.gens 0 g gen (λ i x e. (let k : x.number ≡ i = tidy.placed i x e in omega arith)) at (omega arith)
    ∙ its_gen g n.0 n.1 gen live (tidy.placed g gen at)
  where
    no_data : (ps : List PageState) → is_member same_tenant (data_tenants ps) (NodeOf g n.0 n.1) ≡ false
    no_data [] = refl
    no_data (p ∷ ps) = no_data ps

    no_text : (gens : List GenState) → is_member same_tenant (flat_map text_tenants gens) (NodeOf g n.0 n.1) ≡ false
    no_text gens = any_flat (same_tenant (NodeOf g n.0 n.1)) text_tenants gens ∙ any_same (λ gen. list_any (same_tenant (NodeOf g n.0 n.1)) (text_tenants gen)) (λ gen. false) (λ gen. one gen gen.live refl) gens ∙ none_any gens
      where
        one : (x : GenState) (b : Bool) → x.live ≡ b → list_any (same_tenant (NodeOf g n.0 n.1)) (text_tenants x) ≡ false
        one x true e = rw e (any_map (same_tenant (NodeOf g n.0 n.1)) (TextOf x.number) (text_numbers x.text) ∙ none_any (text_numbers x.text))
        one x false e = rw e refl

module _ (words : WordsValue) (r : Records) (homes : Homes) (s : FlatState) (st : StandsFor words r homes s) (tidy : IsTidy s) (pages : List ℕ) where
  -- whether a tenant has no home yet
  abbrev pub is_new : Tenant → Bool
  is_new t = not (is_some (home_frame homes t))

  abbrev needed : List (ℕ × ℕ)
  needed = nodes_for pages

  -- the nodes of a generation that are there, and have a home
  node_there : (g : ℕ) (gen : GenState) → slice_get s.gens g ≡ Some gen → gen.live ≡ true → (n : ℕ × ℕ) → is_new (NodeOf g n.0 n.1) ≡ not (list_any (same_node n) (tree_nodes gen.reach))
  node_there g gen at live n = ap not (st.housed.each (NodeOf g n.0 n.1) ∙ node_tenant s tidy g gen at live n)

  -- the nodes of a generation that are new are those that its view lacks
  abbrev tenant_in : ℕ → ℕ × ℕ → Tenant
  tenant_in g n = NodeOf g n.0 n.1

  abbrev pub tenant_of : MissingNode → Tenant
  tenant_of missing = NodeOf missing.generation missing.level missing.prefix

  abbrev of_view : ViewValue → List Tenant
  of_view view = map tenant_of (missing_in needed view)

  rising_at : (gens : List GenState) (k : ℕ) (gen : GenState) → AllByRecursion (λ gen. IsGen gen.text gen.reach) gens → slice_get gens k ≡ Some gen → IsRising gen.reach
  rising_at [] k gen all e = absurd cc
  rising_at (x ∷ xs) zero gen all e = (let same : x ≡ gen = cc in subst (λ (y : GenState). IsRising y.reach) same all.0.reach_rising)
  rising_at (x ∷ xs) (suc k) gen all e = rising_at xs k gen all.1 e

  pub live_tenants : (gen : GenState) → gen.live ≡ true → node_tenants (reaching pages gen) ≡ map (λ (n : ℕ × ℕ). NodeOf gen.number n.0 n.1) (tree_nodes (places_with gen.reach pages))
  live_tenants gen live = ap (λ (b : Bool). if b then map (λ (n : ℕ × ℕ). NodeOf gen.number n.0 n.1) (tree_nodes (if b then places_with gen.reach pages else gen.reach)) else []) live

  new_in_gen : (gen : GenState) → slice_get s.gens gen.number ≡ Some gen → gen.live ≡ true → filter is_new (node_tenants (reaching pages gen)) ≡ map (tenant_in gen.number) (filter (λ n. is_new (tenant_in gen.number n)) needed)
  new_in_gen gen at live =
      ap (filter is_new) (live_tenants gen live)
      ∙ filter_map is_new (tenant_in gen.number) (tree_nodes (places_with gen.reach pages))
      ∙ ap (map (tenant_in gen.number)) (tree_same gen.reach (rising_at s.gens gen.number gen tidy.gens at) (λ n. is_new (tenant_in gen.number n)) (node_there gen.number gen at live) pages)

  new_in_view : (g : ℕ) (view : ViewValue) → view_of r.views g ≡ Some view → (n : ℕ × ℕ) → lacks_node view n ≡ is_new (tenant_in g n)
  new_in_view g view e n =
      let found : option_and_then (λ (v : ViewValue). node_frame v n.0 n.1) (view_of r.views g) ≡ node_frame view n.0 n.1 = ap (λ (o : Option ViewValue). option_and_then (λ (v : ViewValue). node_frame v n.0 n.1) o) e in
      ap (λ (o : Option ℕ). not (is_some o)) (sym found ∙ st.at_home (tenant_in g n))

  gen_view : (k : ℕ) (gen : GenState) → slice_get s.gens k ≡ Some gen → filter is_new (node_tenants (reaching pages gen)) ≡ for_view of_view (view_of r.views k)
  gen_view k gen at = by_live gen.live refl
    where
      number : gen.number ≡ k
      number = tidy.placed k gen at

      by_view : (o : Option ViewValue) → view_of r.views k ≡ o → gen.live ≡ true → IsSomeAnd o (IsKeptView words homes s gen) → filter is_new (node_tenants (reaching pages gen)) ≡ for_view of_view o
      by_view None e live kept = absurd kept
      by_view (Some view) e live kept =
          new_in_gen gen (subst (λ (j : ℕ). slice_get s.gens j ≡ Some gen) (sym number) at) live
          ∙ ap (map (tenant_in gen.number)) (filter_same (λ n. is_new (tenant_in gen.number n)) (lacks_node view) (λ n. sym (new_in_view gen.number view (subst (λ (j : ℕ). view_of r.views j ≡ Some view) (sym number) e) n)) needed)
          ∙ ap (λ (g : ℕ). map (tenant_in g) (filter (lacks_node view) needed)) (sym kept.generation)
          ∙ sym (map_twice (missing_node view.generation) tenant_of (filter (lacks_node view) needed))

      by_live : (b : Bool) → gen.live ≡ b → filter is_new (node_tenants (reaching pages gen)) ≡ for_view of_view (view_of r.views k)
      by_live true e =
          let living : living_at s k ≡ Some gen = rw (at, e) refl in
          let kept : IsSomeAnd (view_of r.views k) (IsKeptView words homes s gen) =
          (let h : MatchOption (Some gen) (view_of r.views k ≡ None) (λ gen. IsSomeAnd (view_of r.views k) (IsKeptView words homes s gen)) = subst (λ (o : Option GenState). MatchOption o (view_of r.views k ≡ None) (λ gen. IsSomeAnd (view_of r.views k) (IsKeptView words homes s gen))) living (st.views k) in h) in
          by_view (view_of r.views k) refl e kept
      by_live false e =
          let dead : living_at s k ≡ None = rw (at, e) refl in
          let none : view_of r.views k ≡ None =
          (let h : MatchOption None (view_of r.views k ≡ None) (λ gen. IsSomeAnd (view_of r.views k) (IsKeptView words homes s gen)) = subst (λ (o : Option GenState). MatchOption o (view_of r.views k ≡ None) (λ gen. IsSomeAnd (view_of r.views k) (IsKeptView words homes s gen))) dead (st.views k) in h) in
          rw (e, none) refl

  -- a view is one of a generation that is there
  pub view_low : (g : ℕ) → IsSome (view_of r.views g) → g < length s.gens
  view_low g there = by_gen (slice_get s.gens g) refl
    where
      by_gen : (o : Option GenState) → slice_get s.gens g ≡ o → g < length s.gens
      by_gen (Some gen) e = get_low s.gens g gen e
      by_gen None e =
          let dead : living_at s g ≡ None = rw e refl in
          let none : view_of r.views g ≡ None =
          (let h : MatchOption None (view_of r.views g ≡ None) (λ gen. IsSomeAnd (view_of r.views g) (IsKeptView words homes s gen)) = subst (λ (o : Option GenState). MatchOption o (view_of r.views g ≡ None) (λ gen. IsSomeAnd (view_of r.views g) (IsKeptView words homes s gen))) dead (st.views g) in h) in
          absurd (let k : false ≡ true = subst (λ (o : Option ViewValue). IsSome o) none there in cc)

  flat_mapped : {A B C : Type 0} (f : A → B) (g : B → List C) (xs : List A) → flat_map g (map f xs) ≡ flat_map (λ x. g (f x)) xs
  flat_mapped f g [] = refl
  flat_mapped {C = C} f g (x ∷ xs) = ap (λ (ys : List C). g (f x) ++ ys) (flat_mapped f g xs)

  -- the nodes that are new are those that are missing
  pub nodes_new : IsRising (map generation_number r.views.views) → filter is_new (flat_map node_tenants (map (reaching pages) s.gens)) ≡ map tenant_of (missing_from needed r.views.views)
  nodes_new up =
      let views : List ViewValue = r.views.views in
      let low : AllByRecursion (λ v. 0 ≤ v.generation) views = all_each (λ v. 0 ≤ v.generation) views (λ i v e. omega arith) in
      let high : AllByRecursion (λ v. v.generation < 0 + length s.gens) views = all_each (λ v. v.generation < 0 + length s.gens) views (λ i v e. (let lt : v.generation < length s.gens = view_low v.generation (found_at generation_number views i v e) in omega arith)) in
      ap (filter is_new) (flat_mapped (reaching pages) node_tenants s.gens)
      ∙ filter_flat is_new (λ gen. node_tenants (reaching pages gen)) s.gens
      ∙ flat_index (λ gen. filter is_new (node_tenants (reaching pages gen))) (λ g. for_view of_view (view_of r.views g)) s.gens 0 (λ i gen e. (gen_view i gen e ∙ ap (λ (g : ℕ). for_view of_view (view_of r.views g)) (let z : i ≡ 0 + i = omega arith in z)))
      ∙ flat_found of_view views 0 (length s.gens) up low high
      ∙ sym (map_lists tenant_of (missing_in needed) views)
