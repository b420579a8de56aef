-- Tenants are as many as frames in use, and none is there twice.
use Rattle.std.proofs.Common.{◌≡◌, ◌≢◌, ◌<◌, ◌≤◌, ◌+◌, ◌/◌, ◌==◌, ◌||◌, ◌++◌, ℕ, zero, suc, List, [], ◌∷◌, Bool, true, false, Some, length, map, refl, ap, ◌∙◌, inl, inr, arith, nat_eq, if◌then◌else◌, length-append}
use Rattle.std.specs.Prelude.{slice_get, sum_by}
use Rattle.std.specs.List.{AllByRecursion, IsDistinct, filter, flat_map}
use Rattle.std.specs.Set.{is_member}
use Rattle.std.proofs.lemmas.Bool.{cases_order}
use Rattle.std.proofs.lemmas.Bool.Decides.{nat_tests}
use Rattle.std.proofs.lemmas.List.{length-map}
use Rattle.std.proofs.lemmas.List.Sums.{sum_by-cons}
use Rattle.wf_outside.specs.declared.sizes.TheConstants.{PAGE_WORDS}
use Rattle.wf_outside.specs.Images.{text_numbers}
use Rattle.wf_outside.specs.Lists.{IsRising}
use Rattle.wf_outside.specs.Pages.{PageValue}
use Rattle.wf_flat.specs.Boot.{places_with}
use Rattle.wf_flat.specs.Counts.{frames_of, nodes_of, used_of}
use Rattle.wf_flat.specs.Lists.{with_number}
use Rattle.wf_flat.specs.Ordered.{IsGen}
use Rattle.wf_flat.specs.State.{FlatState, GenState, PageState}
use Rattle.wf_flat.proofs.RisingLemmas.{IsRising-with_number, with_here, with_past, with_same}
use Rattle.wf_homes.specs.Homes.{DataOf, NodeOf, Tenant, TextOf, node_tenants, nodes_below, same_tenant, tenants_of, text_tenants, tree_nodes}
use Rattle.wf_homes.specs.Laws.{IsTidy, TenantsAreCounted}
use Rattle.wf_homes.proofs.ListLemmas.{all_any, all_both, all_kept, all_lists, all_map, all_more, distinct_lists, distinct_two, map_itself, map_lists, none_any, true_or_false}
use Rattle.wf_homes.proofs.TenantLemmas.{kind_of, kind_tells, owner_of, owner_tells, same_is}

-- how many of these pages lie in these 512 places, each counted once for each of them
shares : List ℕ → List ℕ → ℕ
shares reach [] = 0
shares reach (u ∷ us) = length (filter (λ place. place / PAGE_WORDS == u) reach) + shares reach us

-- how often a number is there
times : ℕ → List ℕ → ℕ
times k [] = 0
times k (u ∷ us) = (if k == u then 1 else 0) + times k us

shares_none : (us : List ℕ) → shares [] us ≡ 0
unfolding shares
shares_none [] = refl
shares_none (u ∷ us) = let rest : shares [] us ≡ 0 = shares_none us in omega arith

shares_more : (p : ℕ) (ps us : List ℕ) → shares (p ∷ ps) us ≡ times (p / 512) us + shares ps us
unfolding shares times
shares_more p ps [] = refl
shares_more p ps (u ∷ us) =
    let rest : shares (p ∷ ps) us ≡ times (p / 512) us + shares ps us = shares_more p ps us in
    elim (true_or_false (p / 512 == u)) [
      | inl t ↦ (rw t (omega arith))
      | inr t ↦ (rw t (omega arith))
    ]

times_none : (k : ℕ) (us : List ℕ) → AllByRecursion (λ m. k < m) us → times k us ≡ 0
unfolding times
times_none k [] all = refl
times_none k (u ∷ us) all =
    let rest : times k us ≡ 0 = times_none k us all.1 in
    let lt : k < u = all.0 in
    let apart : (k == u) ≡ false = grind (arith, nat_tests) in
    rw apart (omega arith)

times_once : (k : ℕ) (us : List ℕ) → IsRising us → is_member nat_eq us k ≡ true → times k us ≡ 1
unfolding times
times_once k [] up e = absurd cc
times_once k (u ∷ us) up e = elim (true_or_false (k == u)) [
  | inl t ↦ (
      let same : k ≡ u = grind (arith, nat_tests) in
      let rest : times k us ≡ 0 = times_none k us (rw same up.0) in
      rw t (omega arith)
      )
  | inr t ↦ (let rest : times k us ≡ 1 = times_once k us up.1 (rw t at e) in rw t (omega arith))
]

shares_all : (ps us : List ℕ) → IsRising us → AllByRecursion (λ p. is_member nat_eq us (p / 512) ≡ true) ps → shares ps us ≡ length ps
unfolding shares
shares_all [] us up all = shares_none us
shares_all (p ∷ ps) us up all =
    let here : times (p / 512) us ≡ 1 = times_once (p / 512) us up all.0 in
    let rest : shares ps us ≡ length ps = shares_all ps us up all.1 in
    shares_more p ps us ∙ omega arith

-- the places of 512 places: rising, and all are there
pub uppers_rise : (places ns : List ℕ) → IsRising places → IsRising (places_with places ns)
unfolding places_with
uppers_rise places [] up = up
uppers_rise places (n ∷ ns) up = uppers_rise (with_number (n / 512) places) ns (IsRising-with_number (n / 512) places up)

or_yes : (a b : Bool) → b ≡ true → (a || b) ≡ true
or_yes true b e = refl
or_yes false b e = e

with_itself : (n : ℕ) (ms : List ℕ) → is_member nat_eq (with_number n ms) n ≡ true
with_itself n [] = grind (arith, nat_tests)
with_itself n (m ∷ ms) = elim (cases_order m n) [
  | inl e ↦ (rw (with_same n m ms e) (let t : nat_eq n m ≡ true = grind (arith, nat_tests) in rw t refl))
  | inr o ↦ (elim o [
    | inl lt ↦ (rw (with_past n m ms lt) (or_yes (nat_eq n m) (is_member nat_eq (with_number n ms) n) (with_itself n ms)))
    | inr gt ↦ (rw (with_here n m ms gt) (let t : nat_eq n n ≡ true = grind (arith, nat_tests) in rw t refl))
  ])
]

with_others : (n k : ℕ) (ms : List ℕ) → is_member nat_eq ms k ≡ true → is_member nat_eq (with_number n ms) k ≡ true
with_others n k [] e = absurd cc
with_others n k (m ∷ ms) e = elim (cases_order m n) [
  | inl same ↦ (rw (with_same n m ms same) e)
  | inr o ↦ (elim o [
    | inl lt ↦ (rw (with_past n m ms lt) (elim (true_or_false (nat_eq k m)) [
      | inl t ↦ (rw t refl)
      | inr t ↦ (rw t (with_others n k ms (rw t at e)))
    ]))
    | inr gt ↦ (rw (with_here n m ms gt) (or_yes (nat_eq k n) (is_member nat_eq (m ∷ ms) k) e))
  ])
]

places_keep : (places ns : List ℕ) (k : ℕ) → is_member nat_eq places k ≡ true → is_member nat_eq (places_with places ns) k ≡ true
unfolding places_with
places_keep places [] k e = e
places_keep places (n ∷ ns) k e = places_keep (with_number (n / 512) places) ns k (with_others (n / 512) k places e)

places_have : (places ns : List ℕ) → AllByRecursion (λ n. is_member nat_eq (places_with places ns) (n / 512) ≡ true) ns
unfolding places_with
places_have places [] = tt
places_have places (n ∷ ns) = (places_keep (with_number (n / 512) places) ns (n / 512) (with_itself (n / 512) places), places_have (with_number (n / 512) places) ns)

nodes_length : (reach : List ℕ) (u : ℕ) → length (nodes_below reach u) ≡ suc (length (filter (λ place. place / PAGE_WORDS == u) reach))
nodes_length reach u = ap suc (length-map (filter (λ place. place / PAGE_WORDS == u) reach) (λ (place : ℕ). (0, place)))

lengths_join : (a b c d e f : ℕ) → a ≡ suc b → c ≡ d + e → f ≡ b + e → a + c ≡ suc d + f
lengths_join a b c d e f p q r = omega arith

below_length : (reach us : List ℕ) → length (flat_map (nodes_below reach) us) ≡ length us + shares reach us
unfolding shares
below_length reach [] = refl
below_length reach (u ∷ us) =
    length-append (nodes_below reach u) (flat_map (nodes_below reach) us)
    ∙ lengths_join (length (nodes_below reach u)) (length (filter (λ place. place / PAGE_WORDS == u) reach)) (length (flat_map (nodes_below reach) us)) (length us) (shares reach us) (shares reach (u ∷ us))
    (nodes_length reach u) (below_length reach us) refl

-- a tree has as many nodes as are counted for its places
pub tree_length : (reach : List ℕ) → length (tree_nodes reach) ≡ nodes_of reach
tree_length reach =
    let us : List ℕ = places_with [] reach in
    let all : shares reach (places_with [] reach) ≡ length reach = shares_all reach (places_with [] reach) (uppers_rise [] reach tt) (places_have [] reach) in
    let below : length (flat_map (nodes_below reach) (places_with [] reach)) ≡ length (places_with [] reach) + shares reach (places_with [] reach) = below_length reach (places_with [] reach) in
    omega arith

gen_length : (gen : GenState) → length (text_tenants gen) + length (node_tenants gen) ≡ frames_of gen
gen_length gen = elim (true_or_false gen.live) [
  | inl t ↦ (rw t (
      let texts : length (map (TextOf gen.number) (text_numbers gen.text)) ≡ length gen.text =
      length-map (text_numbers gen.text) (TextOf gen.number) ∙ length-map gen.text (λ (page : PageValue). page.number) in
      let nodes : length (map (λ (node : ℕ × ℕ). NodeOf gen.number node.0 node.1) (tree_nodes gen.reach)) ≡ nodes_of gen.reach =
      length-map (tree_nodes gen.reach) (λ (node : ℕ × ℕ). NodeOf gen.number node.0 node.1) ∙ tree_length gen.reach in
      omega arith
      ))
  | inr t ↦ (rw t refl)
]

gens_length : (gens : List GenState) → length (flat_map text_tenants gens) + length (flat_map node_tenants gens) ≡ sum_by frames_of gens
gens_length [] = refl
gens_length (gen ∷ gens) =
    let a : length (flat_map text_tenants (gen ∷ gens)) ≡ length (text_tenants gen) + length (flat_map text_tenants gens) = length-append (text_tenants gen) (flat_map text_tenants gens) in
    let b : length (flat_map node_tenants (gen ∷ gens)) ≡ length (node_tenants gen) + length (flat_map node_tenants gens) = length-append (node_tenants gen) (flat_map node_tenants gens) in
    let c : sum_by frames_of (gen ∷ gens) ≡ frames_of gen + sum_by frames_of gens = sum_by-cons frames_of gen gens in
    let d : length (text_tenants gen) + length (node_tenants gen) ≡ frames_of gen = gen_length gen in
    let e : length (flat_map text_tenants gens) + length (flat_map node_tenants gens) ≡ sum_by frames_of gens = gens_length gens in
    omega arith

-- tenants are as many as frames in use
pub tenants_length : (s : FlatState) → length (tenants_of s) ≡ used_of s
tenants_length s =
    let texts : List Tenant = flat_map text_tenants s.gens in
    let pages : List Tenant = map (λ (page : PageState). DataOf page.number) s.pages in
    let nodes : List Tenant = flat_map node_tenants s.gens in
    let a : length ((texts ++ pages) ++ nodes) ≡ length (texts ++ pages) + length nodes = length-append (texts ++ pages) nodes in
    let b : length (texts ++ pages) ≡ length texts + length pages = length-append texts pages in
    let c : length pages ≡ length s.pages = length-map s.pages (λ (page : PageState). DataOf page.number) in
    let d : length texts + length nodes ≡ sum_by frames_of s.gens = gens_length s.gens in
    omega arith

-- tenants that come from rising numbers differ
module _ (f : ℕ → Tenant) (back : Tenant → ℕ) (is_back : (n : ℕ) → back (f n) ≡ n) where
  pub distinct_named : (ns : List ℕ) → IsRising ns → IsDistinct same_tenant (map f ns)
  unfolding IsDistinct
  distinct_named [] up = tt
  distinct_named (n ∷ ns) up = (
    all_map (λ m. n < m) (λ t. same_tenant (f n) t ≡ false) f (λ m lt. (elim (true_or_false (same_tenant (f n) (f m))) [
      | inl t ↦ absurd (let e : back (f n) ≡ back (f m) = ap back ((same_is (f n) (f m)).0 t) in let a : back (f n) ≡ n = is_back n in let b : back (f m) ≡ m = is_back m in omega arith)
      | inr t ↦ t
    ])) ns up.0,
    distinct_named ns up.1,
  )

-- what a list keeps of rising numbers rises
rising_kept : (keeps : ℕ → Bool) (ns : List ℕ) → IsRising ns → IsRising (filter keeps ns)
rising_kept keeps [] up = tt
rising_kept keeps (n ∷ ns) up = elim (true_or_false (keeps n)) [
  | inl t ↦ (rw t (all_kept keeps (λ m. n < m) (λ m. n < m) (λ m k lt. lt) ns up.0, rising_kept keeps ns up.1))
  | inr t ↦ (rw t (rising_kept keeps ns up.1))
]

abbrev prefix_of : Tenant → ℕ
prefix_of (TextOf g page) = page
prefix_of (DataOf page) = page
prefix_of (NodeOf g level prefix) = prefix

abbrev level_of : Tenant → ℕ
level_of (TextOf g page) = 3
level_of (DataOf page) = 3
level_of (NodeOf g level prefix) = level

-- the prefix at level 1 of a node at level 1 or 0
abbrev upper_of : Tenant → ℕ
upper_of (TextOf g page) = 0
upper_of (DataOf page) = 0
upper_of (NodeOf g zero prefix) = prefix / 512
upper_of (NodeOf g (suc level) prefix) = prefix

upper_tells : (a b : Tenant) → same_tenant a b ≡ true → upper_of a ≡ upper_of b
upper_tells a b e = ap upper_of ((same_is a b).0 e)

levels_differ : (a b : Tenant) → level_of a ≢ level_of b → same_tenant a b ≡ false
levels_differ a b apart = elim (true_or_false (same_tenant a b)) [
  | inl t ↦ absurd (apart (ap level_of ((same_is a b).0 t)))
  | inr t ↦ t
]

module _ (g : ℕ) (reach : List ℕ) (up : IsRising reach) where
  abbrev node_of : ℕ × ℕ → Tenant
  node_of node = NodeOf g node.0 node.1

  abbrev some_below : ℕ → List Tenant
  some_below u = map node_of (nodes_below reach u)

  lower_is : (ps : List ℕ) → map node_of (map (λ (place : ℕ). (0, place)) ps) ≡ map (NodeOf g 0) ps
  lower_is [] = refl
  lower_is (p ∷ ps) = ap (λ (ts : List Tenant). NodeOf g 0 p ∷ ts) (lower_is ps)

  below_distinct : (u : ℕ) → IsDistinct same_tenant (some_below u)
  unfolding IsDistinct
  below_distinct u =
      let ps : List ℕ = filter (λ place. place / 512 == u) reach in
      rw (lower_is ps) (
        all_map (λ (p : ℕ). Unit {0}) (λ t. same_tenant (NodeOf g 1 u) t ≡ false) (NodeOf g 0) (λ p _. levels_differ (NodeOf g 1 u) (NodeOf g 0 p) (λ e. absurd (omega arith))) ps (all_any (λ p. Unit {0}) (λ p. tt) ps),
        distinct_named (NodeOf g 0) prefix_of (λ n. refl) ps (rising_kept (λ place. place / 512 == u) reach up),
      )

  below_owned : (u : ℕ) → AllByRecursion (λ t. upper_of t ≡ u) (some_below u)
  below_owned u =
      let ps : List ℕ = filter (λ place. place / 512 == u) reach in
      rw (lower_is ps) (refl, all_map (λ p. p / 512 ≡ u) (λ t. upper_of t ≡ u) (NodeOf g 0) (λ p e. e) ps (all_kept (λ place. place / 512 == u) (λ p. Unit {0}) (λ p. p / 512 ≡ u) (λ p t _. grind (arith, nat_tests)) reach (all_any (λ p. Unit {0}) (λ p. tt) reach)))

  below_low : (u : ℕ) → AllByRecursion (λ t. level_of t < 2) (some_below u)
  below_low u =
      let ps : List ℕ = filter (λ place. place / 512 == u) reach in
      rw (lower_is ps) (omega arith, all_map (λ p. Unit {0}) (λ t. level_of t < 2) (NodeOf g 0) (λ p _. omega arith) ps (all_any (λ p. Unit {0}) (λ p. tt) ps))

  pub tree_distinct : IsDistinct same_tenant (map node_of (tree_nodes reach))
  unfolding IsDistinct
  tree_distinct =
      let us : List ℕ = places_with [] reach in
      rw (map_lists node_of (nodes_below reach) us) (
        all_more (λ t. level_of t < 2) (λ t. same_tenant (NodeOf g 2 0) t ≡ false) (λ t lt. levels_differ (NodeOf g 2 0) t (λ e. absurd (omega arith))) (flat_map some_below us) (all_lists some_below (λ t. level_of t < 2) us (all_any (λ u. AllByRecursion (λ t. level_of t < 2) (some_below u)) below_low us)),
        distinct_lists same_tenant some_below (λ u. u) upper_of upper_tells us (all_any (λ u. IsDistinct same_tenant (some_below u)) below_distinct us) (all_any (λ u. AllByRecursion (λ t. upper_of t ≡ u) (some_below u)) below_owned us)
            (rw (map_itself us) (uppers_rise [] reach tt)),
      )

numbers_rise : (n : ℕ) (gens : List GenState) → ((g : ℕ) (gen : GenState) → slice_get gens g ≡ Some gen → gen.number ≡ n + g)
    → IsRising (map (λ gen. gen.number) gens) × AllByRecursion (λ m. n ≤ m) (map (λ gen. gen.number) gens)
numbers_rise n [] placed = (tt, tt)
numbers_rise n (gen ∷ gens) placed =
    let here : gen.number ≡ n + 0 = placed 0 gen refl in
    let rest : IsRising (map (λ gen. gen.number) gens) × AllByRecursion (λ m. suc n ≤ m) (map (λ gen. gen.number) gens) =
    numbers_rise (suc n) gens (λ g other e. (let k : other.number ≡ n + suc g = placed (suc g) other e in omega arith)) in (
      (all_more (λ m. suc n ≤ m) (λ m. gen.number < m) (λ m le. omega arith) (map (λ gen. gen.number) gens) rest.1, rest.0),
      (omega arith, all_more (λ m. suc n ≤ m) (λ m. n ≤ m) (λ m le. omega arith) (map (λ gen. gen.number) gens) rest.1),
    )

-- tenants of two kinds differ
kinds_apart : (k : ℕ) (xs ys : List Tenant) → AllByRecursion (λ x. kind_of x < k) xs → AllByRecursion (λ y. kind_of y ≡ k) ys → AllByRecursion (λ x. is_member same_tenant ys x ≡ false) xs
kinds_apart k xs ys low here =
    all_more (λ x. kind_of x < k) (λ x. is_member same_tenant ys x ≡ false)
    (λ x lt. none_any (same_tenant x) ys (all_more (λ y. kind_of y ≡ k) (λ y. same_tenant x y ≡ false) (λ y e. (elim (true_or_false (same_tenant x y)) [
      | inl t ↦ absurd (let f : kind_of x ≡ kind_of y = kind_tells x y t in omega arith)
      | inr t ↦ t
    ])) ys here)) xs low

text_distinct : (gen : GenState) → IsGen gen.text gen.reach → IsDistinct same_tenant (text_tenants gen)
unfolding IsDistinct
text_distinct gen kept = elim (true_or_false gen.live) [
  | inl t ↦ (rw t (distinct_named (TextOf gen.number) prefix_of (λ n. refl) (text_numbers gen.text) kept.rising))
  | inr t ↦ (rw t tt)
]

node_distinct : (gen : GenState) → IsGen gen.text gen.reach → IsDistinct same_tenant (node_tenants gen)
unfolding IsDistinct
node_distinct gen kept = elim (true_or_false gen.live) [
  | inl t ↦ (rw t (tree_distinct gen.number gen.reach kept.reach_rising))
  | inr t ↦ (rw t tt)
]

text_all : (P : Tenant → Type 0) (gen : GenState) → ((page : ℕ) → P (TextOf gen.number page)) → AllByRecursion P (text_tenants gen)
text_all P gen each = elim (true_or_false gen.live) [
  | inl t ↦ (rw t (all_map (λ (n : ℕ). Unit {0}) P (TextOf gen.number) (λ n _. each n) (text_numbers gen.text) (all_any (λ n. Unit {0}) (λ n. tt) (text_numbers gen.text))))
  | inr t ↦ (rw t tt)
]

node_all : (P : Tenant → Type 0) (gen : GenState) → ((level prefix : ℕ) → P (NodeOf gen.number level prefix)) → AllByRecursion P (node_tenants gen)
node_all P gen each = elim (true_or_false gen.live) [
  | inl t ↦ (rw t (all_map (λ (node : ℕ × ℕ). Unit {0}) P (λ (node : ℕ × ℕ). NodeOf gen.number node.0 node.1) (λ node _. each node.0 node.1) (tree_nodes gen.reach) (all_any (λ (node : ℕ × ℕ). Unit {0}) (λ node. tt) (tree_nodes gen.reach))))
  | inr t ↦ (rw t tt)
]

-- none is there twice
pub tenants_distinct : (s : FlatState) → IsTidy s → IsDistinct same_tenant (tenants_of s)
tenants_distinct s tidy =
    let texts : List Tenant = flat_map text_tenants s.gens in
    let pages : List Tenant = map (λ (page : PageState). DataOf page.number) s.pages in
    let nodes : List Tenant = flat_map node_tenants s.gens in
    let up : IsRising (map (λ gen. gen.number) s.gens) = (numbers_rise 0 s.gens (λ g gen e. (let k : gen.number ≡ g = tidy.placed g gen e in omega arith))).0 in
    let one : IsDistinct same_tenant texts =
    distinct_lists same_tenant text_tenants (λ gen. gen.number) owner_of owner_tells s.gens (all_more (λ gen. IsGen gen.text gen.reach) (λ gen. IsDistinct same_tenant (text_tenants gen)) text_distinct s.gens tidy.gens)
    (all_any (λ gen. AllByRecursion (λ t. owner_of t ≡ gen.number) (text_tenants gen)) (λ gen. text_all (λ t. owner_of t ≡ gen.number) gen (λ page. refl)) s.gens) up in
    let three : IsDistinct same_tenant nodes =
    distinct_lists same_tenant node_tenants (λ gen. gen.number) owner_of owner_tells s.gens (all_more (λ gen. IsGen gen.text gen.reach) (λ gen. IsDistinct same_tenant (node_tenants gen)) node_distinct s.gens tidy.gens)
    (all_any (λ gen. AllByRecursion (λ t. owner_of t ≡ gen.number) (node_tenants gen)) (λ gen. node_all (λ t. owner_of t ≡ gen.number) gen (λ level prefix. refl)) s.gens) up in
    let two : IsDistinct same_tenant pages = pages_distinct s.pages tidy.ordered.pages in
    let low : AllByRecursion (λ t. kind_of t < 1) texts = all_lists text_tenants (λ t. kind_of t < 1) s.gens (all_any (λ gen. AllByRecursion (λ t. kind_of t < 1) (text_tenants gen)) (λ gen. text_all (λ t. kind_of t < 1) gen (λ page. omega arith)) s.gens) in
    let middle : AllByRecursion (λ t. kind_of t ≡ 1) pages = all_map (λ (page : PageState). Unit {0}) (λ t. kind_of t ≡ 1) (λ (page : PageState). DataOf page.number) (λ page _. refl) s.pages (all_any (λ page. Unit {0}) (λ page. tt) s.pages) in
    let high : AllByRecursion (λ t. kind_of t ≡ 2) nodes = all_lists node_tenants (λ t. kind_of t ≡ 2) s.gens (all_any (λ gen. AllByRecursion (λ t. kind_of t ≡ 2) (node_tenants gen)) (λ gen. node_all (λ t. kind_of t ≡ 2) gen (λ level prefix. refl)) s.gens) in
    let both : AllByRecursion (λ t. kind_of t < 2) (texts ++ pages) = all_both (λ t. kind_of t < 2) texts pages (all_more (λ t. kind_of t < 1) (λ t. kind_of t < 2) (λ t lt. omega arith) texts low) (all_more (λ t. kind_of t ≡ 1) (λ t. kind_of t < 2) (λ t e. omega arith) pages middle) in
    distinct_two same_tenant (texts ++ pages) nodes (distinct_two same_tenant texts pages one two (kinds_apart 1 texts pages low middle)) three (kinds_apart 2 (texts ++ pages) nodes both high)
  where
    pages_are : (pages : List PageState) → map (λ (page : PageState). DataOf page.number) pages ≡ map DataOf (map (λ (page : PageState). page.number) pages)
    pages_are [] = refl
    pages_are (page ∷ pages) = ap (λ (ts : List Tenant). DataOf page.number ∷ ts) (pages_are pages)

    pages_distinct : (pages : List PageState) → IsRising (map (λ (page : PageState). page.number) pages) → IsDistinct same_tenant (map (λ (page : PageState). DataOf page.number) pages)
    pages_distinct pages up = rw (pages_are pages) (distinct_named DataOf prefix_of (λ n. refl) (map (λ (page : PageState). page.number) pages) up)

pub tenants_counted : TenantsAreCounted
tenants_counted s tidy = record { count = tenants_length s; once = tenants_distinct s tidy }
