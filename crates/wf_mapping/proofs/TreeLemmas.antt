-- The nodes that a page table lacks.
use Rattle.std.proofs.Common.{◌≡◌, ◌/◌, ◌||◌, ◌&&◌, ◌==◌, ◌++◌, ℕ, List, [], ◌∷◌, Bool, true, false, not, map, refl, sym, ap, ◌∙◌, inl, inr, arith, nat_eq}
use Rattle.std.specs.List.{AllByRecursion, filter, flat_map, list_any}
use Rattle.std.specs.Set.{is_member}
use Rattle.std.proofs.lemmas.Bool.Decides.{nat_tests}
use Rattle.std.proofs.lemmas.Cmp.{nat_eq_equiv}
use Rattle.std.proofs.lemmas.List.Elements.{recursion_from_All}
use Rattle.std.proofs.lemmas.Map.Made.{All-is_member, is_member-filter}
use Rattle.wf_outside.specs.Lists.{IsRising}
use Rattle.wf_flat.specs.Boot.{places_with}
use Rattle.wf_homes.specs.Homes.{nodes_below, tree_nodes}
use Rattle.wf_homes.proofs.ListLemmas.{true_or_false}
use Rattle.wf_mapping.specs.Nodes.{nodes_for}
use Rattle.wf_mapping.proofs.AnyLemmas.{any_filter, any_flat, any_map, any_more, any_places, any_same}
use Rattle.wf_mapping.proofs.PlaceLemmas.{kept_places, places_rise, rising_kept, rising_same}

test_same : (a b : ℕ) → (a == b) ≡ nat_eq a b
test_same a b = refl

-- two nodes are the same
abbrev pub same_node : ℕ × ℕ → ℕ × ℕ → Bool
same_node a b = (a.0 == b.0) && (a.1 == b.1)

pub none_any : {A : Type 0} (xs : List A) → list_any (λ x. false) xs ≡ false
none_any [] = refl
none_any (x ∷ xs) = none_any xs

same_is : (a b : ℕ) → (a == b) ≡ true → a ≡ b
same_is a b e = grind (arith, nat_tests)

-- a node at level 1 is there where a place below it is reached
pub upper_there : (reach : List ℕ) (u : ℕ) → list_any (same_node (1, u)) (tree_nodes reach) ≡ list_any (λ p. u == p / 512) reach
upper_there reach u =
    any_flat (same_node (1, u)) (nodes_below reach) (places_with [] reach)
    ∙ any_same (λ v. list_any (same_node (1, u)) (nodes_below reach v)) (λ v. u == v) (λ v. (
    ap (λ (b : Bool). (u == v) || b) (any_map (same_node (1, u)) (λ (place : ℕ). (0, place)) (filter (λ place. place / 512 == v) reach) ∙ none_any (filter (λ place. place / 512 == v) reach)) ∙ or_none (u == v)
    )) (places_with [] reach)
    ∙ any_places (λ v. u == v) [] reach
  where
    or_none : (b : Bool) → (b || false) ≡ b
    or_none true = refl
    or_none false = refl

-- and a node at level 0 where its place is
pub place_there : (reach : List ℕ) (p : ℕ) → list_any (same_node (0, p)) (tree_nodes reach) ≡ list_any (λ q. p == q) reach
place_there reach p =
    any_flat (same_node (0, p)) (nodes_below reach) (places_with [] reach)
    ∙ any_same (λ v. list_any (same_node (0, p)) (nodes_below reach v)) (λ v. list_any (λ q. (q / 512 == v) && (p == q)) reach) (λ v. (
    any_map (same_node (0, p)) (λ (place : ℕ). (0, place)) (filter (λ place. place / 512 == v) reach) ∙ any_filter (λ q. p == q) (λ q. q / 512 == v) reach
    )) (places_with [] reach)
    ∙ any_places (λ v. list_any (λ q. (q / 512 == v) && (p == q)) reach) [] reach
    ∙ by_any (list_any (λ q. p == q) reach) refl
  where
    and_second : (a b : Bool) → (a && b) ≡ true → b ≡ true
    and_second true b e = e
    and_second false b e = absurd cc

    false_of : (b c : Bool) → c ≡ false → (b ≡ true → c ≡ true) → b ≡ false
    false_of true c e more = absurd (let k : true ≡ false = sym (more refl) ∙ e in cc)
    false_of false c e more = refl

    found : (n : ℕ) → (p == n) ≡ true → (q : ℕ) → (p == q) ≡ true → ((q / 512 == n / 512) && (p == q)) ≡ true
    found n t q u =
        let a : p ≡ n = same_is p n t in
        let b : p ≡ q = same_is p q u in
        let d : q / 512 ≡ n / 512 = ap (λ (k : ℕ). k / 512) (sym b ∙ a) in
        let c : (q / 512 == n / 512) ≡ true = grind (arith, nat_tests) in
        rw (c, u) refl

    by_any : (b : Bool) → list_any (λ q. p == q) reach ≡ b → list_any (λ n. list_any (λ q. (q / 512 == n / 512) && (p == q)) reach) reach ≡ b
    by_any true e =
        any_more (λ q. p == q) (λ n. list_any (λ q. (q / 512 == n / 512) && (p == q)) reach) (λ n t. any_more (λ q. p == q) (λ q. (q / 512 == n / 512) && (p == q)) (λ q u. found n t q u) reach e) reach e
    by_any false e =
        any_same (λ n. list_any (λ q. (q / 512 == n / 512) && (p == q)) reach) (λ n. false)
        (λ n. false_of (list_any (λ q. (q / 512 == n / 512) && (p == q)) reach) (list_any (λ q. p == q) reach) e (any_more (λ q. (q / 512 == n / 512) && (p == q)) (λ q. p == q) (λ q t. and_second (q / 512 == n / 512) (p == q) t) reach)) reach
        ∙ none_any reach

-- the root is always there
root_there : (reach : List ℕ) → list_any (same_node (2, 0)) (tree_nodes reach) ≡ true
root_there reach = refl

pub filter_both : {A : Type 0} (q : A → Bool) (xs ys : List A) → filter q (xs ++ ys) ≡ filter q xs ++ filter q ys
filter_both q [] ys = refl
filter_both {A = A} q (x ∷ xs) ys = elim (true_or_false (q x)) [
  | inl t ↦ (rw t (ap (λ (zs : List A). x ∷ zs) (filter_both q xs ys)))
  | inr t ↦ (rw t (filter_both q xs ys))
]

pub filter_flat : {A B : Type 0} (q : B → Bool) (f : A → List B) (xs : List A) → filter q (flat_map f xs) ≡ flat_map (λ x. filter q (f x)) xs
filter_flat q f [] = refl
filter_flat {B = B} q f (x ∷ xs) = filter_both q (f x) (flat_map f xs) ∙ ap (λ (ys : List B). filter q (f x) ++ ys) (filter_flat q f xs)

pub filter_map : {A B : Type 0} (q : B → Bool) (f : A → B) (xs : List A) → filter q (map f xs) ≡ map f (filter (λ x. q (f x)) xs)
filter_map q f [] = refl
filter_map {B = B} q f (x ∷ xs) = elim (true_or_false (q (f x))) [
  | inl t ↦ (rw t (ap (λ (ys : List B). f x ∷ ys) (filter_map q f xs)))
  | inr t ↦ (rw t (filter_map q f xs))
]

filter_swap : {A : Type 0} (p q : A → Bool) (xs : List A) → filter p (filter q xs) ≡ filter q (filter p xs)
filter_swap p q [] = refl
filter_swap {A = A} p q (x ∷ xs) = elim (true_or_false (p x)) [
  | inl t ↦ (elim (true_or_false (q x)) [
    | inl u ↦ (rw (t, u, t) (ap (λ (ys : List A). x ∷ ys) (filter_swap p q xs)))
    | inr u ↦ (rw (t, u) (filter_swap p q xs))
  ])
  | inr t ↦ (elim (true_or_false (q x)) [
    | inl u ↦ (rw (t, u, t) (filter_swap p q xs))
    | inr u ↦ (rw (t, u) (filter_swap p q xs))
  ])
]

-- those that give nothing can be left out
flat_kept : {A : Type 0} (h : ℕ → Bool) (g : ℕ → List A) → ((u : ℕ) → h u ≡ false → g u ≡ []) → (us : List ℕ) → flat_map g us ≡ flat_map g (filter h us)
flat_kept h g none [] = refl
flat_kept {A = A} h g none (u ∷ us) = elim (true_or_false (h u)) [
  | inl t ↦ (rw t (ap (λ (ys : List A). g u ++ ys) (flat_kept h g none us)))
  | inr t ↦ (rw t (rw (none u t) (flat_kept h g none us)))
]

filter_none : {A : Type 0} (q : A → Bool) (xs : List A) → list_any q xs ≡ false → filter q xs ≡ []
filter_none q [] e = refl
filter_none q (x ∷ xs) e = elim (true_or_false (q x)) [
  | inl t ↦ absurd (let k : true ≡ false = rw t at e in cc)
  | inr t ↦ (rw t (filter_none q xs (rw t at e)))
]

flip_is : (a b : ℕ) → (a == b) ≡ true → (b == a) ≡ true
flip_is a b e = grind (arith, nat_tests)

-- A page table reaches these places, and it lacks what is none of its nodes.
module _ (reach : List ℕ) (up : IsRising reach) (lacks : ℕ × ℕ → Bool) (is : (n : ℕ × ℕ) → lacks n ≡ not (list_any (same_node n) (tree_nodes reach))) where
  -- a place that is not reached
  abbrev is_new : ℕ → Bool
  is_new p = lacks (0, p)

  place_is : (p : ℕ) → is_new p ≡ not (is_member nat_eq reach p)
  place_is p = is (0, p) ∙ ap not (place_there reach p)

  upper_is : (u : ℕ) → lacks (1, u) ≡ not (list_any (λ p. u == p / 512) reach)
  upper_is u = is (1, u) ∙ ap not (upper_there reach u)

  none_new : (ps : List ℕ) → AllByRecursion (λ p. is_member nat_eq reach p ≡ true) ps → filter is_new ps ≡ []
  none_new [] all = refl
  none_new (p ∷ ps) all = (let t : is_new p ≡ false = place_is p ∙ ap not all.0 in rw t (none_new ps all.1))

  all_there : AllByRecursion (λ p. is_member nat_eq reach p ≡ true) reach
  all_there = recursion_from_All (λ p. is_member nat_eq reach p ≡ true) reach (All-is_member nat_eq_equiv reach)

  -- the nodes of 512 places that are lacking, of those with these new places
  abbrev lacking : List ℕ → ℕ → List (ℕ × ℕ)
  lacking new u = filter lacks ((1, u) ∷ []) ++ map (λ (place : ℕ). (0, place)) (filter (λ place. place / 512 == u) new)

  one_below : (places : List ℕ) (u : ℕ) → filter lacks (nodes_below places u) ≡ lacking (filter is_new places) u
  one_below places u =
      filter_both lacks ((1, u) ∷ []) (map (λ (place : ℕ). (0, place)) (filter (λ place. place / 512 == u) places))
      ∙ ap (λ (ns : List (ℕ × ℕ)). filter lacks ((1, u) ∷ []) ++ ns) (filter_map lacks (λ (place : ℕ). (0, place)) (filter (λ place. place / 512 == u) places) ∙ ap (map (λ (place : ℕ). (0, place))) (filter_swap is_new (λ place. place / 512 == u) places))

  flat_same : {A : Type 0} (f g : ℕ → List A) → ((u : ℕ) → f u ≡ g u) → (us : List ℕ) → flat_map f us ≡ flat_map g us
  flat_same f g same [] = refl
  flat_same {A = A} f g same (u ∷ us) = ap (λ (ys : List A). ys ++ flat_map f us) (same u) ∙ ap (λ (ys : List A). g u ++ ys) (flat_same f g same us)

  tree_lacking : (places : List ℕ) → filter lacks (tree_nodes places) ≡ flat_map (lacking (filter is_new places)) (places_with [] places)
  tree_lacking places =
      let root : lacks (2, 0) ≡ false = is (2, 0) in
      rw root (filter_flat lacks (nodes_below places) (places_with [] places) ∙ flat_same (λ u. filter lacks (nodes_below places u)) (lacking (filter is_new places)) (one_below places) (places_with [] places))

  -- What a page table lacks of the nodes of its places and of those of more pages, are those that it
  -- lacks of the nodes of these pages alone.
  module _ (pages : List ℕ) where
    abbrev all_places : List ℕ
    all_places = places_with reach pages

    abbrev their_places : List ℕ
    their_places = places_with [] pages

    new_same : filter is_new all_places ≡ filter is_new their_places
    new_same = kept_places is_new reach [] pages up tt (none_new reach all_there)

    abbrev is_below : ℕ → ℕ → Bool
    is_below u p = p / 512 == u

    abbrev gives : ℕ → Bool
    gives u = lacks (1, u) || list_any (is_below u) (filter is_new their_places)

    gives_none : (u : ℕ) → gives u ≡ false → lacking (filter is_new their_places) u ≡ []
    gives_none u e =
        let a : lacks (1, u) ≡ false = first (lacks (1, u)) (list_any (is_below u) (filter is_new their_places)) e in
        let b : list_any (is_below u) (filter is_new their_places) ≡ false = second (lacks (1, u)) (list_any (is_below u) (filter is_new their_places)) e in
        rw a (ap (map (λ (place : ℕ). (0, place))) (filter_none (is_below u) (filter is_new their_places) b))
      where
        first : (a b : Bool) → (a || b) ≡ false → a ≡ false
        first true b e = e
        first false b e = refl

        second : (a b : Bool) → (a || b) ≡ false → b ≡ false
        second true b e = absurd cc
        second false b e = e

    abbrev reached : ℕ → Bool
    reached u = list_any (λ p. u == p / 512) reach

    abbrev needed : ℕ → Bool
    needed u = list_any (λ n. u == n / 512 / 512) pages

    uppers_all : (u : ℕ) → is_member nat_eq (places_with [] all_places) u ≡ (reached u || needed u)
    uppers_all u = any_places (λ v. u == v) [] all_places ∙ any_places (λ p. u == p / 512) reach pages

    uppers_their : (u : ℕ) → is_member nat_eq (places_with [] their_places) u ≡ needed u
    uppers_their u = any_places (λ v. u == v) [] their_places ∙ any_places (λ p. u == p / 512) [] pages

    new_needed : (u : ℕ) → list_any (is_below u) (filter is_new their_places) ≡ true → needed u ≡ true
    new_needed u e =
        sym (any_places (λ p. u == p / 512) [] pages)
        ∙ any_more (λ p. is_new p && (p / 512 == u)) (λ p. u == p / 512) (λ p t. flip_is (p / 512) u (and_second (is_new p) (p / 512 == u) t)) their_places (sym (any_filter (is_below u) is_new their_places) ∙ e)
      where
        and_second : (a b : Bool) → (a && b) ≡ true → b ≡ true
        and_second true b e = e
        and_second false b e = absurd cc

    members_same : (u : ℕ) → is_member nat_eq (filter gives (places_with [] all_places)) u ≡ is_member nat_eq (filter gives (places_with [] their_places)) u
    members_same u =
        is_member-filter nat_eq_equiv gives u (λ n e. respects n e) (places_with [] all_places)
        ∙ ap (λ (b : Bool). b && gives u) (uppers_all u)
        ∙ ap (λ (b : Bool). (reached u || needed u) && (b || list_any (is_below u) (filter is_new their_places))) (upper_is u)
        ∙ by_bool (reached u) (needed u) (list_any (is_below u) (filter is_new their_places)) (new_needed u)
        ∙ sym (ap (λ (b : Bool). needed u && (b || list_any (is_below u) (filter is_new their_places))) (upper_is u))
        ∙ sym (ap (λ (b : Bool). b && gives u) (uppers_their u))
        ∙ sym (is_member-filter nat_eq_equiv gives u (λ n e. respects n e) (places_with [] their_places))
      where
        respects : (n : ℕ) → nat_eq u n ≡ true → gives u ≡ gives n
        respects n e = (let same : u ≡ n = grind (arith, nat_tests) in ap gives same)

        by_bool : (a b c : Bool) → (c ≡ true → b ≡ true) → ((a || b) && (not a || c)) ≡ (b && (not a || c))
        by_bool true b true more = rw (more refl) refl
        by_bool true true false more = refl
        by_bool true false false more = refl
        by_bool false b c more = refl

    uppers_same : filter gives (places_with [] all_places) ≡ filter gives (places_with [] their_places)
    uppers_same = rising_same (filter gives (places_with [] all_places)) (filter gives (places_with [] their_places)) (rising_kept gives (places_with [] all_places) (places_rise [] all_places tt)) (rising_kept gives (places_with [] their_places) (places_rise [] their_places tt)) members_same

    pub tree_same : filter lacks (tree_nodes (places_with reach pages)) ≡ filter lacks (nodes_for pages)
    tree_same =
        tree_lacking all_places
        ∙ ap (λ (new : List ℕ). flat_map (lacking new) (places_with [] all_places)) new_same
        ∙ flat_kept gives (lacking (filter is_new their_places)) gives_none (places_with [] all_places)
        ∙ ap (flat_map (lacking (filter is_new their_places))) uppers_same
        ∙ sym (flat_kept gives (lacking (filter is_new their_places)) gives_none (places_with [] their_places))
        ∙ sym (tree_lacking their_places)
