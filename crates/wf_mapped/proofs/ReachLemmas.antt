-- The places that views reach after a mapping, and their nodes.
use Rattle.std.proofs.Common.{◌≡◌, ◌<◌, ◌==◌, ◌&&◌, ◌||◌, ◌++◌, ℕ, List, [], ◌∷◌, Bool, true, false, Option, Some, None, map, refl, sym, ap, subst, ◌∙◌, inl, inr, arith, is_some, nat_eq, if◌then◌else◌}
use Rattle.std.specs.Prelude.{IsSome, nat_lt}
use Rattle.std.specs.List.{AllByRecursion, IsDistinct, filter, find, list_any}
use Rattle.std.specs.Map.{lookup}
use Rattle.std.specs.Option.{option_map}
use Rattle.std.proofs.lemmas.Bool.Decides.{nat_tests}
use Rattle.std.proofs.lemmas.Cmp.{nat_eq_equiv}
use Rattle.wf_outside.specs.Lists.{IsRising}
use Rattle.wf_views.specs.declared.view.NodeAt.{NodeAt}
use Rattle.wf_views.specs.Lists.{RoomyValue, has_number, inserted_by, itself, number_added}
use Rattle.wf_flat.specs.Lists.{with_number}
use Rattle.wf_flat.proofs.RisingLemmas.{IsRising-with_number, with_past, with_same}
use Rattle.wf_homes.specs.Homes.{DataOf, NodeOf, Tenant, TextOf, same_tenant}
use Rattle.wf_homes.proofs.ListLemmas.{distinct_kept, true_or_false}
use Rattle.wf_mapping.specs.declared.nodes.NewNode.{NewNode}
use Rattle.wf_mapping.specs.Laws.{node_home}
use Rattle.wf_mapping.proofs.AnyLemmas.{any_with}
use Rattle.wf_mapping.proofs.TreeLemmas.{filter_map}
use Rattle.wf_mapped.proofs.ChangeLemmas.{is_of, reach_next, reach_with}
use Rattle.wf_mapped.proofs.LookLemmas.{tenant_of}

-- a number that is among rising ones
found_above : (m n : ℕ) (ms : List ℕ) → AllByRecursion (λ k. m < k) ms → has_number ms n ≡ true → m < n
found_above m n [] all e = absurd cc
found_above m n (k ∷ ms) all e = elim (true_or_false (k == n)) [
  | inl t ↦ (let lt : m < k = all.0 in let same : k ≡ n = grind (arith, nat_tests) in omega arith)
  | inr t ↦ found_above m n ms all.1 (rw t at e)
]

with_again : (n : ℕ) (xs : List ℕ) → IsRising xs → has_number xs n ≡ true → with_number n xs ≡ xs
with_again n [] up e = absurd cc
with_again n (m ∷ ms) up e = elim (true_or_false (m == n)) [
  | inl t ↦ (let same : m ≡ n = grind (arith, nat_tests) in with_same n m ms same)
  | inr t ↦ (let later : has_number ms n ≡ true = rw t at e in with_past n m ms (found_above m n ms up.0 later) ∙ ap (λ (ks : List ℕ). m ∷ ks) (with_again n ms up.1 later))
]

with_first : (n : ℕ) (xs : List ℕ) → has_number xs n ≡ false → inserted_by itself n xs ≡ with_number n xs
with_first n [] e = refl
with_first n (m ∷ ms) e = elim (true_or_false (m == n)) [
  | inl t ↦ absurd (let k : true ≡ false = rw t at e in cc)
  | inr t ↦ (elim (true_or_false (nat_lt m n)) [
    | inl u ↦ (rw u (ap (λ (ks : List ℕ). m ∷ ks) (with_first n ms (rw t at e))))
    | inr u ↦ (rw (u, t) refl)
  ])
]

added_is : (n : ℕ) (l : RoomyValue ℕ) → IsRising l.items → (number_added n l).items ≡ with_number n l.items
added_is n l up = elim (true_or_false (has_number l.items n)) [
  | inl t ↦ (rw t (sym (with_again n l.items up t)))
  | inr t ↦ (rw t (with_first n l.items t))
]

-- the places after one more node
abbrev pub place_next : NewNode → ℕ → List ℕ → List ℕ
place_next n g xs = if n.generation == g then (if n.node.level == 0 then with_number n.node.prefix xs else xs) else xs

-- the places after new nodes
abbrev pub places_reached : List NewNode → ℕ → List ℕ → List ℕ
places_reached [] g xs = xs
places_reached (n ∷ ns) g xs = places_reached ns g (place_next n g xs)

next_is : (n : NewNode) (g : ℕ) (l : RoomyValue ℕ) → IsRising l.items → ((reach_next n g l).items ≡ place_next n g l.items) × IsRising (reach_next n g l).items
next_is n g l up = by_test (n.generation == g) (n.node.level == 0)
  where
    by_test : (a b : Bool) → ((if a then (if b then number_added n.node.prefix l else l) else l).items ≡ (if a then (if b then with_number n.node.prefix l.items else l.items) else l.items)) × IsRising (if a then (if b then number_added n.node.prefix l else l) else l).items
    by_test true true = (added_is n.node.prefix l up, subst IsRising (sym (added_is n.node.prefix l up)) (IsRising-with_number n.node.prefix l.items up))
    by_test true false = (refl, up)
    by_test false b = (refl, up)

pub reach_is : (ns : List NewNode) (g : ℕ) (l : RoomyValue ℕ) → IsRising l.items → ((reach_with ns g l).items ≡ places_reached ns g l.items) × IsRising (reach_with ns g l).items
reach_is [] g l up = (refl, up)
reach_is (n ∷ ns) g l up =
    let next = next_is n g l up in
    let rest = reach_is ns g (reach_next n g l) next.1 in
    (rest.0 ∙ ap (places_reached ns g) next.0, rest.1)

-- a new node reaches a place that is so
abbrev pub reaches : (ℕ → Bool) → ℕ → NewNode → Bool
reaches p g n = (n.generation == g) && ((n.node.level == 0) && p n.node.prefix)

or_swap : (a b c : Bool) → ((a || b) || c) ≡ (b || (a || c))
or_swap true true c = refl
or_swap true false c = refl
or_swap false b c = refl

or_group : (a b c : Bool) → ((a || b) || c) ≡ (a || (b || c))
or_group true b c = refl
or_group false b c = refl

any_next : (p : ℕ → Bool) (n : NewNode) (g : ℕ) (xs : List ℕ) → list_any p (place_next n g xs) ≡ (list_any p xs || reaches p g n)
any_next p n g xs = by_test (n.generation == g) (n.node.level == 0)
  where
    or_none : (b : Bool) → b ≡ (b || false)
    or_none true = refl
    or_none false = refl

    or_flip : (a b : Bool) → (a || b) ≡ (b || a)
    or_flip true true = refl
    or_flip true false = refl
    or_flip false true = refl
    or_flip false false = refl

    by_test : (a b : Bool) → list_any p (if a then (if b then with_number n.node.prefix xs else xs) else xs) ≡ (list_any p xs || (a && (b && p n.node.prefix)))
    by_test true true = any_with p n.node.prefix xs ∙ or_flip (p n.node.prefix) (list_any p xs)
    by_test true false = or_none (list_any p xs)
    by_test false b = or_none (list_any p xs)

pub any_reached : (p : ℕ → Bool) (ns : List NewNode) (g : ℕ) (xs : List ℕ) → list_any p (places_reached ns g xs) ≡ (list_any p xs || list_any (reaches p g) ns)
any_reached p [] g xs = or_none (list_any p xs)
  where
    or_none : (b : Bool) → b ≡ (b || false)
    or_none true = refl
    or_none false = refl
any_reached p (n ∷ ns) g xs =
    any_reached p ns g (place_next n g xs) ∙ ap (λ (b : Bool). b || list_any (reaches p g) ns) (any_next p n g xs) ∙ or_group (list_any p xs) (reaches p g n) (list_any (reaches p g) ns)

-- the nodes that come, as a look-up has them
pub some_looked : (g k : ℕ) (ns : List NewNode) → is_some (lookup (same_tenant (NodeOf g 0 k)) (map node_home ns)) ≡ list_any (reaches (nat_eq k) g) ns
some_looked g k [] = refl
some_looked g k (n ∷ ns) = by_test (same_tenant (NodeOf g 0 k) (tenant_of n)) refl (some_looked g k ns)
  where
    tests : (a b c : Bool) → ((a && b) && c) ≡ (a && (b && c))
    tests true b c = refl
    tests false b c = refl

    same : same_tenant (NodeOf g 0 k) (tenant_of n) ≡ reaches (nat_eq k) g n
    same = ap (λ (x : Bool). (x && (0 == n.node.level)) && (k == n.node.prefix)) (nat_eq_equiv.symm g n.generation) ∙ ap (λ (x : Bool). ((n.generation == g) && x) && (k == n.node.prefix)) (nat_eq_equiv.symm 0 n.node.level) ∙ tests (n.generation == g) (n.node.level == 0) (nat_eq k n.node.prefix)

    by_test : (b : Bool) → same_tenant (NodeOf g 0 k) (tenant_of n) ≡ b → is_some (lookup (same_tenant (NodeOf g 0 k)) (map node_home ns)) ≡ list_any (reaches (nat_eq k) g) ns
        → is_some (lookup (same_tenant (NodeOf g 0 k)) (map node_home (n ∷ ns))) ≡ (reaches (nat_eq k) g n || list_any (reaches (nat_eq k) g) ns)
    by_test true e rest = (let u : reaches (nat_eq k) g n ≡ true = sym same ∙ e in subst (λ (b : Bool). is_some (if b then Some n.node.frame else lookup (same_tenant (NodeOf g 0 k)) (map node_home ns)) ≡ (reaches (nat_eq k) g n || list_any (reaches (nat_eq k) g) ns)) (sym e) (sym (ap (λ (b : Bool). b || list_any (reaches (nat_eq k) g) ns) u)))
    by_test false e rest = (let u : reaches (nat_eq k) g n ≡ false = sym same ∙ e in subst (λ (b : Bool). is_some (if b then Some n.node.frame else lookup (same_tenant (NodeOf g 0 k)) (map node_home ns)) ≡ (reaches (nat_eq k) g n || list_any (reaches (nat_eq k) g) ns)) (sym e) (rest ∙ sym (ap (λ (b : Bool). b || list_any (reaches (nat_eq k) g) ns) u)))

-- the node of a level and prefix
abbrev pub is_node : ℕ → ℕ → NodeAt → Bool
is_node level prefix node = (level == node.level) && (prefix == node.prefix)

-- its frame among nodes
abbrev pub frame_in : ℕ → ℕ → List NodeAt → Option ℕ
frame_in level prefix nodes = option_map (λ node. node.frame) (find (is_node level prefix) nodes)

pub frame_first : (level prefix f : ℕ) (xs ys : List NodeAt) → frame_in level prefix xs ≡ Some f → frame_in level prefix (xs ++ ys) ≡ Some f
frame_first level prefix f [] ys e = absurd cc
frame_first level prefix f (x ∷ xs) ys e = elim (true_or_false (is_node level prefix x)) [
  | inl t ↦ (rw t (let k : Some x.frame ≡ Some f = rw t at e in k))
  | inr t ↦ (rw t (frame_first level prefix f xs ys (rw t at e)))
]

pub frame_past : (level prefix : ℕ) (xs ys : List NodeAt) → frame_in level prefix xs ≡ None → frame_in level prefix (xs ++ ys) ≡ frame_in level prefix ys
frame_past level prefix [] ys e = refl
frame_past level prefix (x ∷ xs) ys e = elim (true_or_false (is_node level prefix x)) [
  | inl t ↦ absurd (let k : Some x.frame ≡ None = rw t at e in cc)
  | inr t ↦ (rw t (frame_past level prefix xs ys (rw t at e)))
]

-- the nodes of a generation, of those that come
abbrev pub nodes_in : ℕ → List NewNode → List NodeAt
nodes_in g ns = map (λ (n : NewNode). n.node) (filter (is_of g) ns)

pub frame_new : (g level prefix : ℕ) (ns : List NewNode) → frame_in level prefix (nodes_in g ns) ≡ lookup (same_tenant (NodeOf g level prefix)) (map node_home ns)
frame_new g level prefix [] = refl
frame_new g level prefix (n ∷ ns) = elim (true_or_false (n.generation == g)) [
  | inl t ↦ (
      let u : (g == n.generation) ≡ true = nat_eq_equiv.symm g n.generation ∙ t in
      elim (true_or_false (is_node level prefix n.node)) [
        | inl v ↦ (rw (t, u, v) refl)
        | inr v ↦ (rw (t, u, v) (frame_new g level prefix ns))
      ]
      )
  | inr t ↦ (let u : (g == n.generation) ≡ false = nat_eq_equiv.symm g n.generation ∙ t in rw (t, u) (frame_new g level prefix ns))
]

-- nodes as tenants of a generation
abbrev pub as_tenants : ℕ → List NodeAt → List Tenant
as_tenants g nodes = map (λ (node : NodeAt). NodeOf g node.level node.prefix) nodes

pub tenants_both : (g : ℕ) (xs ys : List NodeAt) → as_tenants g (xs ++ ys) ≡ as_tenants g xs ++ as_tenants g ys
tenants_both g [] ys = refl
tenants_both g (x ∷ xs) ys = ap (λ (ts : List Tenant). NodeOf g x.level x.prefix ∷ ts) (tenants_both g xs ys)

-- whether a tenant is a node of a generation
abbrev in_generation : ℕ → Tenant → Bool
in_generation g (TextOf h page) = false
in_generation g (DataOf page) = false
in_generation g (NodeOf h level prefix) = h == g

pub tenants_new : (g : ℕ) (ns : List NewNode) → as_tenants g (nodes_in g ns) ≡ map tenant_of (filter (is_of g) ns)
tenants_new g [] = refl
tenants_new g (n ∷ ns) = elim (true_or_false (n.generation == g)) [
  | inl t ↦ (let same : n.generation ≡ g = grind (arith, nat_tests) in rw t (ap (λ (h : ℕ). NodeOf h n.node.level n.node.prefix ∷ as_tenants g (nodes_in g ns)) (sym same) ∙ ap (λ (ts : List Tenant). tenant_of n ∷ ts) (tenants_new g ns)))
  | inr t ↦ (rw t (tenants_new g ns))
]

pub new_distinct : (g : ℕ) (ns : List NewNode) → IsDistinct same_tenant (map tenant_of ns) → IsDistinct same_tenant (as_tenants g (nodes_in g ns))
new_distinct g ns d = subst (IsDistinct same_tenant) (filter_map (in_generation g) tenant_of ns ∙ sym (tenants_new g ns)) (distinct_kept same_tenant (in_generation g) (map tenant_of ns) d)

-- each node of a list is found there
pub frames_there : (xs : List NodeAt) → AllByRecursion (λ node. IsSome (frame_in node.level node.prefix xs)) xs
frames_there [] = tt
frames_there (x ∷ xs) =
    let t : (x.level == x.level) ≡ true = grind (arith, nat_tests) in
    let u : (x.prefix == x.prefix) ≡ true = grind (arith, nat_tests) in
    let here : is_node x.level x.prefix x ≡ true = rw (t, u) refl in
    (rw here refl, more xs (frames_there xs))
  where
    more : (ys : List NodeAt) → AllByRecursion (λ node. IsSome (frame_in node.level node.prefix xs)) ys → AllByRecursion (λ node. IsSome (frame_in node.level node.prefix (x ∷ xs))) ys
    more [] all = tt
    more (y ∷ ys) all = (one y all.0, more ys all.1)
      where
        one : (y : NodeAt) → IsSome (frame_in y.level y.prefix xs) → IsSome (frame_in y.level y.prefix (x ∷ xs))
        one y h = elim (true_or_false (is_node y.level y.prefix x)) [
          | inl t ↦ (rw t refl)
          | inr t ↦ (rw t h)
        ]
