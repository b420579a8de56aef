-- The nodes of a page table, in one pass.
use Rattle.std.proofs.Common.{◌≡◌, ◌<◌, ◌≤◌, ◌+◌, ◌/◌, ◌==◌, ◌++◌, ◌∷◌, if◌then◌else◌, ℕ, [], List, true, false, Option, Some, None, length, map, drop, drop-cons, get_or, refl, sym, ap, subst, ◌∙◌, inl, inr, add-one, append_assoc, arith}
use Rattle.std.specs.List.{AllByRecursion, filter, flat_map}
use Rattle.std.proofs.lemmas.List.{append-nil, drop_all}
use Rattle.std.proofs.lemmas.Bool.Decides.{nat_tests}
use Rattle.wf_outside.specs.Lists.{IsRising}
use Rattle.wf_flat.specs.Boot.{places_with}
use Rattle.wf_flat.specs.Lists.{with_number}
use Rattle.wf_flat.proofs.RisingLemmas.{with_past, with_same}
use Rattle.wf_homes.specs.Homes.{Tenant, nodes_below, tree_nodes}
use Rattle.wf_homes.proofs.ListLemmas.{all_both, all_more, true_or_false}
use Rattle.wf_tables.specs.Nodes.{is_below, walked}

-- the nodes of level 1 behind the one of this prefix
abbrev uppers_past : ℕ → List ℕ → List ℕ
uppers_past u [] = []
uppers_past u (n ∷ ns) = if n / 512 == u then uppers_past u ns else n / 512 ∷ uppers_past (n / 512) ns

-- the places are those of this node of level 1, and of later ones
abbrev IsFrom : ℕ → List ℕ → Type 0
IsFrom u ns = AllByRecursion (λ n. u ≤ n / 512) ns

from_next : (n : ℕ) (ns : List ℕ) → AllByRecursion (λ m. n < m) ns → IsFrom (n / 512) ns
from_next n ns up = all_more (λ m. n < m) (λ m. n / 512 ≤ m / 512) (λ m lt. omega arith) ns up

-- a number above all others comes last
with_end : (n : ℕ) (ms : List ℕ) → AllByRecursion (λ m. m < n) ms → with_number n ms ≡ ms ++ n ∷ []
with_end n [] all = refl
with_end n (m ∷ ms) all = with_past n m ms all.0 ∙ ap (λ (xs : List ℕ). m ∷ xs) (with_end n ms all.1)

with_last : (n : ℕ) (ms : List ℕ) → AllByRecursion (λ m. m < n) ms → with_number n (ms ++ n ∷ []) ≡ ms ++ n ∷ []
with_last n [] all = with_same n n [] refl
with_last n (m ∷ ms) all = with_past n m (ms ++ n ∷ []) all.0 ∙ ap (λ (xs : List ℕ). m ∷ xs) (with_last n ms all.1)

apart_above : (n u : ℕ) → u ≤ n → (n == u) ≡ false → u < n
apart_above n u le e = grind (arith, nat_tests)

same_of : (n u : ℕ) → (n == u) ≡ true → n ≡ u
same_of n u e = grind (arith, nat_tests)

itself : (n : ℕ) → (n == n) ≡ true
itself n = grind (arith, nat_tests)

apart_of : (n u : ℕ) → u < n → (n == u) ≡ false
apart_of n u lt = grind (arith, nat_tests)

apart_from : (n u : ℕ) → n < u → (n == u) ≡ false
apart_from n u lt = grind (arith, nat_tests)

-- the nodes of level 1 of places behind those before
places_past : (us : List ℕ) (u : ℕ) (ns : List ℕ) → AllByRecursion (λ m. m < u) us → IsFrom u ns → IsRising ns
    → places_with (us ++ u ∷ []) ns ≡ (us ++ u ∷ []) ++ uppers_past u ns
unfolding places_with
places_past us u [] below from up = sym (append-nil (us ++ u ∷ []))
places_past us u (n ∷ ns) below from up = elim (true_or_false (n / 512 == u)) [
  | inl e ↦ (rw e (
      ap (λ (xs : List ℕ). places_with xs ns) (ap (λ (k : ℕ). with_number k (us ++ u ∷ [])) (same_of (n / 512) u e) ∙ with_last u us below)
      ∙ places_past us u ns below from.1 up.1))
  | inr e ↦ (rw e (
      let lt : u < n / 512 = apart_above (n / 512) u from.0 e in
      let all : AllByRecursion (λ m. m < n / 512) (us ++ u ∷ []) =
      all_both (λ m. m < n / 512) us (u ∷ []) (all_more (λ m. m < u) (λ m. m < n / 512) (λ m k. omega arith) us below) (lt, tt) in
      ap (λ (xs : List ℕ). places_with xs ns) (with_end (n / 512) (us ++ u ∷ []) all)
      ∙ places_past (us ++ u ∷ []) (n / 512) ns all (from_next n ns up.0) up.1
      ∙ append_assoc (us ++ u ∷ []) (n / 512 ∷ []) (uppers_past (n / 512) ns)))
]

uppers_above : (u : ℕ) (ns : List ℕ) → IsFrom u ns → IsRising ns → AllByRecursion (λ v. u < v) (uppers_past u ns)
uppers_above u [] from up = tt
uppers_above u (n ∷ ns) from up = elim (true_or_false (n / 512 == u)) [
  | inl e ↦ (rw e (uppers_above u ns from.1 up.1))
  | inr e ↦ (rw e (
      let lt : u < n / 512 = apart_above (n / 512) u from.0 e in
      (lt, all_more (λ v. n / 512 < v) (λ v. u < v) (λ v k. omega arith) (uppers_past (n / 512) ns) (uppers_above (n / 512) ns (from_next n ns up.0) up.1))))
]

-- a place of none of these nodes changes nothing below them
below_others : (n : ℕ) (ns us : List ℕ) → AllByRecursion (λ v. n / 512 < v) us → flat_map (nodes_below (n ∷ ns)) us ≡ flat_map (nodes_below ns) us
below_others n ns [] all = refl
below_others n ns (u ∷ us) all =
    rw (apart_from (n / 512) u all.0) (ap (λ (xs : List (ℕ × ℕ)). nodes_below ns u ++ xs) (below_others n ns us all.1))

none_below : (u : ℕ) (ns : List ℕ) → AllByRecursion (λ n. u < n / 512) ns → filter (λ place. place / 512 == u) ns ≡ []
none_below u [] all = refl
none_below u (n ∷ ns) all = rw (apart_of (n / 512) u all.0) (none_below u ns all.1)

walked_new : (n : ℕ) (ns : List ℕ) → IsRising (n ∷ ns)
    → walked (Some (n / 512)) ns ≡ map (λ (place : ℕ). (0, place)) (filter (λ place. place / 512 == n / 512) ns) ++ flat_map (nodes_below ns) (uppers_past (n / 512) ns)
    → (1, n / 512) ∷ (0, n) ∷ walked (Some (n / 512)) ns ≡ flat_map (nodes_below (n ∷ ns)) (n / 512 ∷ uppers_past (n / 512) ns)
walked_new n ns up rest =
    rw (itself (n / 512)) (
    ap (λ (xs : List (ℕ × ℕ)). (1, n / 512) ∷ (0, n) ∷ xs) (
    rest
    ∙ ap (λ (xs : List (ℕ × ℕ)). map (λ (place : ℕ). (0, place)) (filter (λ place. place / 512 == n / 512) ns) ++ xs)
    (sym (below_others n ns (uppers_past (n / 512) ns) (uppers_above (n / 512) ns (from_next n ns up.0) up.1)))))

-- a pass over places of this node of level 1 and of later ones
walked_some : (u : ℕ) (ns : List ℕ) → IsFrom u ns → IsRising ns
    → walked (Some u) ns ≡ map (λ (place : ℕ). (0, place)) (filter (λ place. place / 512 == u) ns) ++ flat_map (nodes_below ns) (uppers_past u ns)
unfolding walked
walked_some u [] from up = refl
walked_some u (n ∷ ns) from up = elim (true_or_false (n / 512 == u)) [
  | inl e ↦ (rw e (
      ap (λ (xs : List (ℕ × ℕ)). (0, n) ∷ xs) (
      walked_some u ns from.1 up.1
      ∙ ap (λ (xs : List (ℕ × ℕ)). map (λ (place : ℕ). (0, place)) (filter (λ place. place / 512 == u) ns) ++ xs)
      (sym (below_others n ns (uppers_past u ns) (subst (λ (k : ℕ). AllByRecursion (λ v. k < v) (uppers_past u ns)) (sym (same_of (n / 512) u e)) (uppers_above u ns from.1 up.1)))))))
  | inr e ↦ (rw e (
      let lt : u < n / 512 = apart_above (n / 512) u from.0 e in
      let none : filter (λ place. place / 512 == u) ns ≡ [] = none_below u ns (all_more (λ m. n / 512 ≤ m / 512) (λ m. u < m / 512) (λ m k. omega arith) ns (from_next n ns up.0)) in
      rw none (walked_new n ns up (walked_some (n / 512) ns (from_next n ns up.0) up.1))))
]

-- the nodes of a page table: the root, and those that a pass over its places meets
pub walked_tree : (reach : List ℕ) → IsRising reach → (2, 0) ∷ walked None reach ≡ tree_nodes reach
unfolding walked places_with
walked_tree [] up = refl
walked_tree (n ∷ ns) up =
    ap (λ (xs : List (ℕ × ℕ)). (2, 0) ∷ xs) (
    walked_new n ns up (walked_some (n / 512) ns (from_next n ns up.0) up.1)
    ∙ ap (λ (us : List ℕ). flat_map (nodes_below (n ∷ ns)) us) (sym (places_past [] (n / 512) ns tt (from_next n ns up.0) up.1)))

-- one place more
pub walked_more : (last : Option ℕ) (places : List ℕ) (i : ℕ) (d : ℕ) → i < length places → is_below (get_or places i d) last ≡ true
    → walked last (drop i places) ≡ (0, get_or places i d) ∷ walked last (drop (i + 1) places)
unfolding walked
walked_more last places i d lt e = rw (drop-cons places i d lt, e) (ap (λ (k : ℕ). (0, get_or places i d) ∷ walked last (drop k places)) (sym (add-one i)))

pub walked_first : (last : Option ℕ) (places : List ℕ) (i : ℕ) (d : ℕ) → i < length places → is_below (get_or places i d) last ≡ false
    → walked last (drop i places) ≡ (1, get_or places i d / 512) ∷ (0, get_or places i d) ∷ walked (Some (get_or places i d / 512)) (drop (i + 1) places)
unfolding walked
walked_first last places i d lt e =
    rw (drop-cons places i d lt, e) (ap (λ (k : ℕ). (1, get_or places i d / 512) ∷ (0, get_or places i d) ∷ walked (Some (get_or places i d / 512)) (drop k places)) (sym (add-one i)))

-- no place is left
pub walked_end : (last : Option ℕ) (places : List ℕ) (i : ℕ) → length places ≤ i → walked last (drop i places) ≡ []
unfolding walked
walked_end last places i le = rw (drop_all i places le) refl

-- one tenant more, and two
pub one_more : (before after rest : List Tenant) (t : Tenant) → after ≡ before ++ t ∷ [] → after ++ rest ≡ before ++ t ∷ rest
one_more before after rest t e = ap (λ (xs : List Tenant). xs ++ rest) e ∙ append_assoc before (t ∷ []) rest

pub two_more : (before middle after rest : List Tenant) (t u : Tenant) → middle ≡ before ++ t ∷ [] → after ≡ middle ++ u ∷ [] → after ++ rest ≡ before ++ t ∷ u ∷ rest
two_more before middle after rest t u e f = one_more middle after rest u f ∙ one_more before middle (u ∷ rest) t e
