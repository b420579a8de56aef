-- Views at their places in a slab: found, changed, one more and one less.
use Rattle.std.proofs.Common.{◌≡◌, ◌≢◌, ◌<◌, ◌≤◌, ◌+◌, ◌-◌, ℕ, zero, suc, List, [], ◌∷◌, ◌++◌, Option, Some, None, length, get_or, map, refl, sym, ap, subst, ◌∙◌, arith, inl, inr, slice_get, slice_set, count_by, is_some, append_assoc, length-append, cond, add-one}
use Rattle.std.proofs.lemmas.List.Sums.{sum_by-cons}
use Rattle.std.specs.Prelude.{IsSome, IsSomeAnd, slice_index_or}
use Rattle.std.specs.List.{AllByRecursion, remove, last_or}
use Rattle.std.proofs.lemmas.Bool.{cases_eq}
use Rattle.std.proofs.lemmas.Bool.Decides.{nat_tests}
use Rattle.slab.specs.Slab.{Slab, get, ContainsKey, Updates, slab_len, with_value}
use Rattle.slab.proofs.SlabLemmas.{Updates-with_value}
use Rattle.wf_outside.specs.Lists.{IsRising}
use Rattle.wf_outside.proofs.RisingLemmas.{all_at}
use Rattle.wf_views.specs.declared.views.Place.{Place}
use Rattle.wf_views.specs.Lists.{found_by, changed_by, without_by}
use Rattle.wf_views.specs.Views.{ViewValue, generation_number, IsAbove}
use Rattle.wf_views.specs.Kept.{one_or_none, views_at, AreAt, place_number, AreUpTo, AreViews, IsKeyOf}
use Rattle.wf_views.proofs.KeyLemmas.{found_here, found_past, found_at, key_at, length_keys, changed_only, without_at, rising_removed, all_removed}

-- what is there
pub seen : (o : Option ViewValue) (n : ℕ) → IsSomeAnd o (λ v. v.generation ≡ n) → (v : ViewValue) × (o ≡ Some v) × (v.generation ≡ n)
seen None n h = absurd h
seen (Some v) n h = (v, refl, h)

seen_is : (o : Option ViewValue) (n : ℕ) (v : ViewValue) → o ≡ Some v → v.generation ≡ n → IsSomeAnd o (λ v. v.generation ≡ n)
seen_is o n v e h = subst (λ o. IsSomeAnd o (λ v. v.generation ≡ n)) (sym e) h

pub views_cons : (s : Slab ViewValue) (p : Place) (ps : List Place) (v : ViewValue) → get s p.key ≡ Some v → views_at s (p ∷ ps) ≡ v ∷ views_at s ps
views_cons s p ps v e = ap (λ o. one_or_none o ++ views_at s ps) e

pub generations_are : (s : Slab ViewValue) (ps : List Place) → AreAt s ps → map generation_number (views_at s ps) ≡ map place_number ps
generations_are s [] h = refl
generations_are s (p ∷ ps) h =
    let v = seen (get s p.key) p.generation h.0 in
    ap (map generation_number) (views_cons s p ps v.0 v.1) ∙ (λ i. v.2 i ∷ generations_are s ps h.1 i)

pub length_views : (s : Slab ViewValue) (ps : List Place) → AreAt s ps → length (views_at s ps) ≡ length ps
length_views s [] h = refl
length_views s (p ∷ ps) h =
    let v = seen (get s p.key) p.generation h.0 in
    ap length (views_cons s p ps v.0 v.1) ∙ ap suc (length_views s ps h.1)

-- the view at a place
pub view_nth : (s : Slab ViewValue) (ps : List Place) (i : ℕ) (d : Place) → AreAt s ps → i < length ps → slice_get (views_at s ps) i ≡ get s (get_or ps i d).key
view_nth s [] i d h lt = absurd (omega arith)
view_nth s (p ∷ ps) zero d h lt =
    let v = seen (get s p.key) p.generation h.0 in
    ap (λ vs. slice_get vs 0) (views_cons s p ps v.0 v.1) ∙ sym v.1
view_nth s (p ∷ ps) (suc i) d h lt =
    let v = seen (get s p.key) p.generation h.0 in
    ap (λ vs. slice_get vs (suc i)) (views_cons s p ps v.0 v.1) ∙ view_nth s ps i d h.1 (omega arith)

pub at_nth : (s : Slab ViewValue) (ps : List Place) (i : ℕ) (d : Place) → AreAt s ps → i < length ps → IsSomeAnd (get s (get_or ps i d).key) (λ v. v.generation ≡ (get_or ps i d).generation)
at_nth s [] i d h lt = absurd (omega arith)
at_nth s (p ∷ ps) zero d h lt = h.0
at_nth s (p ∷ ps) (suc i) d h lt = at_nth s ps i d h.1 (omega arith)

-- the view of a generation has no place
pub view_missed : (s : Slab ViewValue) (ps : List Place) (g : ℕ) → AreAt s ps → found_by place_number ps g ≡ None → found_by generation_number (views_at s ps) g ≡ None
view_missed s [] g h e = refl
view_missed s (p ∷ ps) g h e =
    let v = seen (get s p.key) p.generation h.0 in
    elim (cases_eq p.generation g) [
      | inl same ↦ (let f = found_here place_number p ps g same in absurd cc)
      | inr differs ↦ (
          let f = found_past place_number p ps g differs in
          ap (λ vs. found_by generation_number vs g) (views_cons s p ps v.0 v.1)
          ∙ found_past generation_number v.0 (views_at s ps) g (λ same. differs (sym v.2 ∙ same))
          ∙ view_missed s ps g h.1 cc
          )
    ]

-- it has one
pub view_found : (s : Slab ViewValue) (ps : List Place) (g : ℕ) (p : Place) → AreAt s ps → found_by place_number ps g ≡ Some p → found_by generation_number (views_at s ps) g ≡ get s p.key
view_found s [] g q h e = absurd cc
view_found s (p ∷ ps) g q h e =
    let v = seen (get s p.key) p.generation h.0 in
    elim (cases_eq p.generation g) [
      | inl same ↦ (
          let f = found_here place_number p ps g same in
          let k : p ≡ q = cc in
          ap (λ vs. found_by generation_number vs g) (views_cons s p ps v.0 v.1)
          ∙ found_here generation_number v.0 (views_at s ps) g (v.2 ∙ same) ∙ sym v.1 ∙ ap (λ (x : Place). get s x.key) k
          )
      | inr differs ↦ (
          let f = found_past place_number p ps g differs in
          ap (λ vs. found_by generation_number vs g) (views_cons s p ps v.0 v.1)
          ∙ found_past generation_number v.0 (views_at s ps) g (λ same. differs (sym v.2 ∙ same))
          ∙ view_found s ps g q h.1 cc
          )
    ]

above_only : (g k : ℕ) (ps : List Place) → AllByRecursion (λ m. g < m) (map place_number ps) → AllByRecursion (λ p. p.generation ≡ g → p.key ≡ k) ps
above_only g k [] up = tt
above_only g k (p ∷ ps) up = ((λ same. let lt : g < p.generation = up.0 in absurd (omega arith)), above_only g k ps up.1)

-- the place of a generation is the only one
only_found : (ps : List Place) (g : ℕ) (q : Place) → IsRising (map place_number ps) → found_by place_number ps g ≡ Some q → AllByRecursion (λ p. p.generation ≡ g → p.key ≡ q.key) ps
only_found [] g q up e = tt
only_found (p ∷ ps) g q up e = elim (cases_eq p.generation g) [
  | inl same ↦ (
      let f = found_here place_number p ps g same in
      let k : p ≡ q = cc in
      ((λ here. ap (λ (x : Place). x.key) k), above_only g q.key ps (subst (λ n. AllByRecursion (λ m. n < m) (map place_number ps)) same up.0))
      )
  | inr differs ↦ (
      let f = found_past place_number p ps g differs in
      ((λ same. absurd (differs same)), only_found ps g q up.1 cc)
      )
]

-- the key of the place of a generation is that of its view
pub key_found : (s : Slab ViewValue) (ps : List Place) (g : ℕ) (q : Place) → AreAt s ps → IsRising (map place_number ps) → found_by place_number ps g ≡ Some q → IsKeyOf s ps g q.key
key_found s ps g q h up e = record { only = only_found ps g q up e; there = there ps g h e }
  where
    there : (ps : List Place) (g : ℕ) → AreAt s ps → found_by place_number ps g ≡ Some q → IsSomeAnd (get s q.key) (λ v. v.generation ≡ g)
    there [] g h e = absurd cc
    there (p ∷ ps) g h e = elim (cases_eq p.generation g) [
      | inl same ↦ (
          let f = found_here place_number p ps g same in
          let k : p ≡ q = cc in
          let v = seen (get s p.key) p.generation h.0 in
          seen_is (get s q.key) g v.0 (ap (λ (x : Place). get s x.key) (sym k) ∙ v.1) (v.2 ∙ same)
          )
      | inr differs ↦ (let f = found_past place_number p ps g differs in there ps g h.1 cc)
    ]

-- one view changes, at its key
changed_at_key : (s t : Slab ViewValue) (ps : List Place) (g k : ℕ) (v w : ViewValue) (f : ViewValue → ViewValue) → Updates s t k (Some w) → AreAt s ps → AllByRecursion (λ p. p.generation ≡ g → p.key ≡ k) ps
    → get s k ≡ Some v → v.generation ≡ g → w ≡ f v → views_at t ps ≡ changed_by generation_number (views_at s ps) g f
changed_at_key s t [] g k v w f u h only e vg wf = refl
changed_at_key s t (p ∷ ps) g k v w f u h only e vg wf =
    let x = seen (get s p.key) p.generation h.0 in
    let rest = changed_at_key s t ps g k v w f u h.1 only.1 e vg wf in
    elim (cases_eq p.key k) [
      | inl same ↦ (
          let at : get s p.key ≡ Some v = ap (get s) same ∙ e in
          let is : x.0 ≡ v = cc in
          views_cons t p ps w (ap (get t) same ∙ u.changed)
          ∙ (λ i. wf i ∷ rest i)
          ∙ sym (ap (λ vs. changed_by generation_number vs g f) (views_cons s p ps v at) ∙ head_here v (views_at s ps) vg)
          )
      | inr differs ↦ (
          views_cons t p ps x.0 (u.others p.key differs ∙ x.1)
          ∙ ap (λ vs. x.0 ∷ vs) rest
          ∙ sym (ap (λ vs. changed_by generation_number vs g f) (views_cons s p ps x.0 x.1) ∙ head_past x.0 (views_at s ps) (λ same. differs (only.0 (sym x.2 ∙ same))))
          )
    ]
  where
    head_here : (v : ViewValue) (vs : List ViewValue) → v.generation ≡ g → changed_by generation_number (v ∷ vs) g f ≡ f v ∷ changed_by generation_number vs g f
    head_here v vs h = grind (arith, nat_tests)

    head_past : (v : ViewValue) (vs : List ViewValue) → (v.generation ≡ g → ⊥) → changed_by generation_number (v ∷ vs) g f ≡ v ∷ changed_by generation_number vs g f
    head_past v vs h = grind (arith, nat_tests)

at_changed : (s t : Slab ViewValue) (ps : List Place) (k : ℕ) (v w : ViewValue) → Updates s t k (Some w) → AreAt s ps → get s k ≡ Some v → w.generation ≡ v.generation → AreAt t ps
at_changed s t [] k v w u h e same = tt
at_changed s t (p ∷ ps) k v w u h e same =
    let x = seen (get s p.key) p.generation h.0 in
    let rest = at_changed s t ps k v w u h.1 e same in
    elim (cases_eq p.key k) [
      | inl here ↦ (
          let at : get s p.key ≡ Some v = ap (get s) here ∙ e in
          let is : x.0 ≡ v = cc in
          (seen_is (get t p.key) p.generation w (ap (get t) here ∙ u.changed) (same ∙ ap (λ (y : ViewValue). y.generation) (sym is) ∙ x.2), rest)
          )
      | inr differs ↦ (seen_is (get t p.key) p.generation x.0 (u.others p.key differs ∙ x.1) x.2, rest)
    ]

contains : (s : Slab ViewValue) (k : ℕ) (v : ViewValue) → get s k ≡ Some v → ContainsKey s k
contains s k v e = subst IsSome (sym e) refl

abbrev counted : Option ViewValue → ℕ
counted o = cond (is_some o) 1 0

count_set : (os : List (Option ViewValue)) (k : ℕ) (v w : ViewValue) → slice_index_or os k None ≡ Some v → count_by is_some (slice_set os k (Some w)) ≡ count_by is_some os
count_set [] k v w e = refl
count_set (o ∷ os) zero v w e = let k : counted o ≡ 1 = ap counted e in omega (arith, sum_by-cons counted (Some w) os, sum_by-cons counted o os)
count_set (o ∷ os) (suc k) v w e = omega (arith, count_set os k v w e, sum_by-cons counted o (slice_set os k (Some w)), sum_by-cons counted o os)

-- what is kept still holds with another view of the generation at its key
pub kept_changed : (s : Slab ViewValue) (ps : List Place) (last : Option ℕ) (room capacity k : ℕ) (v w : ViewValue) → AreViews s ps last room capacity → get s k ≡ Some v → w.generation ≡ v.generation → AreViews (with_value s k w) ps last room capacity
kept_changed s ps last room capacity k v w h e same = record {
  at = at_changed s (with_value s k w) ps k v w (Updates-with_value s k w (contains s k v e)) h.at e same;
  rising = h.rising;
  up_to = h.up_to;
  slab_room = omega (arith, h.slab_room, count_set s.slots k v w e);
  list_room = h.list_room;
}

-- and the views are those with that one changed
pub views_changed : (s : Slab ViewValue) (ps : List Place) (g k : ℕ) (v w : ViewValue) (f : ViewValue → ViewValue) → AreAt s ps → IsKeyOf s ps g k → get s k ≡ Some v → w ≡ f v → views_at (with_value s k w) ps ≡ changed_by generation_number (views_at s ps) g f
views_changed s ps g k v w f h key e wf =
    let x = seen (get s k) g key.there in
    let is : x.0 ≡ v = cc in
    changed_at_key s (with_value s k w) ps g k v w f (Updates-with_value s k w (contains s k v e)) h key.only e (ap (λ (y : ViewValue). y.generation) (sym is) ∙ x.2) wf

-- nothing but the room changes
at_same : (s t : Slab ViewValue) → t.slots ≡ s.slots → (ps : List Place) → AreAt s ps → AreAt t ps
at_same s t e [] h = tt
at_same s t e (p ∷ ps) h = (subst (λ os. IsSomeAnd (slice_index_or os p.key None) (λ v. v.generation ≡ p.generation)) (sym e) h.0, at_same s t e ps h.1)

views_same : (s t : Slab ViewValue) → t.slots ≡ s.slots → (ps : List Place) → views_at t ps ≡ views_at s ps
views_same s t e [] = refl
views_same s t e (p ∷ ps) = λ i. one_or_none (slice_index_or (e i) p.key None) ++ views_same s t e ps i

pub kept_reserved : (s t : Slab ViewValue) (ps qs : List Place) (last : Option ℕ) (room capacity more larger : ℕ) → AreViews s ps last room capacity → t ≡ record s { capacity = t.capacity } → qs ≡ ps → slab_len t + more ≤ t.capacity → length qs + more ≤ larger → AreViews t qs last more larger
kept_reserved s t ps qs last room capacity more larger h e same slab_room list_room = record {
  at = subst (AreAt t) (sym same) (at_same s t (ap (λ (x : Slab ViewValue). x.slots) e) ps h.at);
  rising = subst (λ xs. IsRising (map place_number xs)) (sym same) h.rising;
  up_to = subst (AreUpTo last) (sym same) h.up_to;
  slab_room = slab_room;
  list_room = list_room;
}

pub len_reserved : (s t : Slab ViewValue) → t ≡ record s { capacity = t.capacity } → slab_len t ≡ slab_len s
len_reserved s t e = ap (λ (x : Slab ViewValue). slab_len x) e

-- one more view, at a key that was vacant
apart : (s : Slab ViewValue) (k key n : ℕ) → IsSomeAnd (get s k) (λ v. v.generation ≡ n) → get s key ≡ None → k ≢ key
apart s k key n here none e = let v = seen (get s k) n here in let none' : get s k ≡ None = ap (get s) e ∙ none in absurd cc

at_added : (s t : Slab ViewValue) (key : ℕ) (v : ViewValue) (q : Place) → Updates s t key (Some v) → get s key ≡ None → q.key ≡ key → v.generation ≡ q.generation → (ps : List Place) → AreAt s ps → AreAt t (ps ++ q ∷ [])
at_added s t key v q u none k g [] h = (seen_is (get t q.key) q.generation v (ap (get t) k ∙ u.changed) g, tt)
at_added s t key v q u none k g (p ∷ ps) h =
    let x = seen (get s p.key) p.generation h.0 in
    (seen_is (get t p.key) p.generation x.0 (u.others p.key (apart s p.key key p.generation h.0 none) ∙ x.1) x.2, at_added s t key v q u none k g ps h.1)

views_added : (s t : Slab ViewValue) (key : ℕ) (v : ViewValue) (q : Place) → Updates s t key (Some v) → get s key ≡ None → q.key ≡ key → (ps : List Place) → AreAt s ps → views_at t (ps ++ q ∷ []) ≡ views_at s ps ++ v ∷ []
views_added s t key v q u none k [] h = ap (λ o. one_or_none o ++ []) (ap (get t) k ∙ u.changed)
views_added s t key v q u none k (p ∷ ps) h =
    (λ i. one_or_none (u.others p.key (apart s p.key key p.generation h.0 none) i) ++ views_added s t key v q u none k ps h.1 i)
    ∙ sym (append_assoc (one_or_none (get s p.key)) (views_at s ps) (v ∷ []))

pub below_new : (last : Option ℕ) (g : ℕ) (ps : List Place) → AreUpTo last ps → IsAbove last g → AllByRecursion (λ n. n < g) (map place_number ps)
below_new None g ps up above = subst (λ xs. AllByRecursion (λ n. n < g) (map place_number xs)) (sym up) tt
below_new (Some l) g ps up above = below ps up
  where
    below : (ps : List Place) → AllByRecursion (λ n. n ≤ l) (map place_number ps) → AllByRecursion (λ n. n < g) (map place_number ps)
    below [] up = tt
    below (p ∷ ps) up = (let le : p.generation ≤ l = up.0 in omega arith, below ps up.1)

all_more : (P : ℕ → Type 0) (ps : List Place) (q : Place) → AllByRecursion P (map place_number ps) → P q.generation → AllByRecursion P (map place_number (ps ++ q ∷ []))
all_more P [] q all h = (h, tt)
all_more P (p ∷ ps) q all h = (all.0, all_more P ps q all.1 h)

all_le : (g : ℕ) (ns : List ℕ) → AllByRecursion (λ n. n < g) ns → AllByRecursion (λ n. n ≤ g) ns
all_le g [] all = tt
all_le g (n ∷ ns) all = (let lt : n < g = all.0 in omega arith, all_le g ns all.1)

rising_more : (ps : List Place) (q : Place) → IsRising (map place_number ps) → AllByRecursion (λ n. n < q.generation) (map place_number ps) → IsRising (map place_number (ps ++ q ∷ []))
rising_more [] q up below = (tt, tt)
rising_more (p ∷ ps) q up below = (all_more (λ m. p.generation < m) ps q up.0 below.0, rising_more ps q up.1 below.1)

pub kept_added : (s t : Slab ViewValue) (ps qs : List Place) (last : Option ℕ) (room capacity larger key : ℕ) (v : ViewValue) (q : Place) → AreViews s ps last room capacity → Updates s t key (Some v) → get s key ≡ None
    → q.key ≡ key → v.generation ≡ q.generation → IsAbove last q.generation → slab_len t ≡ slab_len s + 1 → t.capacity ≡ s.capacity → qs ≡ ps ++ q ∷ [] → larger ≡ capacity → 0 < room → AreViews t qs (Some q.generation) (room - 1) larger
kept_added s t ps qs last room capacity larger key v q h u none k g above len cap same list some =
    let below = below_new last q.generation ps h.up_to above in
    record {
      at = subst (AreAt t) (sym same) (at_added s t key v q u none k g ps h.at);
      rising = subst (λ xs. IsRising (map place_number xs)) (sym same) (rising_more ps q h.rising below);
      up_to = subst (AreUpTo (Some q.generation)) (sym same) (all_more (λ n. n ≤ q.generation) ps q (all_le q.generation (map place_number ps) below) (omega arith));
      slab_room = omega (arith, h.slab_room);
      list_room = omega (arith, h.list_room, ap length same, length-append ps (q ∷ []));
    }

pub views_with : (s t : Slab ViewValue) (ps qs : List Place) (key : ℕ) (v : ViewValue) (q : Place) → AreAt s ps → Updates s t key (Some v) → get s key ≡ None → q.key ≡ key → qs ≡ ps ++ q ∷ [] → views_at t qs ≡ views_at s ps ++ v ∷ []
views_with s t ps qs key v q h u none k same = ap (views_at t) same ∙ views_added s t key v q u none k ps h

-- one view less
at_removed : (s : Slab ViewValue) (ps : List Place) (i : ℕ) → AreAt s ps → AreAt s (remove ps i)
at_removed s [] zero h = tt
at_removed s [] (suc i) h = tt
at_removed s (p ∷ ps) zero h = h.1
at_removed s (p ∷ ps) (suc i) h = (h.0, at_removed s ps i h.1)

above_apart : (g : ℕ) (ps : List Place) → AllByRecursion (λ m. g < m) (map place_number ps) → AllByRecursion (λ q. q.generation ≡ g → ⊥) ps
above_apart g [] up = tt
above_apart g (p ∷ ps) up = ((λ same. let lt : g < p.generation = up.0 in omega arith), above_apart g ps up.1)

others_apart : (ps : List Place) (i : ℕ) (d : Place) → IsRising (map place_number ps) → i < length ps → AllByRecursion (λ q. q.generation ≡ (get_or ps i d).generation → ⊥) (remove ps i)
others_apart [] i d up lt = absurd (omega arith)
others_apart (p ∷ ps) zero d up lt = above_apart p.generation ps up.0
others_apart (p ∷ ps) (suc i) d up lt =
    let below : p.generation < get_or (map place_number ps) i 0 = all_at (λ m. p.generation < m) (map place_number ps) i 0 up.0 (omega (arith, length_keys place_number ps)) in
    let at : get_or (map place_number ps) i 0 ≡ (get_or ps i d).generation = key_at place_number ps i d (omega arith) in
    ((λ same. omega arith), others_apart ps i d up.1 (omega arith))

keys_apart : (s : Slab ViewValue) (qs : List Place) (g k : ℕ) → AreAt s qs → AllByRecursion (λ q. q.generation ≡ g → ⊥) qs → IsSomeAnd (get s k) (λ v. v.generation ≡ g) → AllByRecursion (λ q. q.key ≢ k) qs
keys_apart s [] g k h others there = tt
keys_apart s (q ∷ qs) g k h others there =
    let v = seen (get s k) g there in
    let w = seen (get s q.key) q.generation h.0 in (
      (λ same. (let e : get s q.key ≡ get s k = ap (get s) same in let is : w.0 ≡ v.0 = cc in others.0 (sym w.2 ∙ ap (λ (y : ViewValue). y.generation) is ∙ v.2))),
      keys_apart s qs g k h.1 others.1 there,
    )

at_others : (s t : Slab ViewValue) (k : ℕ) (o : Option ViewValue) → Updates s t k o → (qs : List Place) → AllByRecursion (λ q. q.key ≢ k) qs → AreAt s qs → AreAt t qs
at_others s t k o u [] others h = tt
at_others s t k o u (q ∷ qs) others h =
    let v = seen (get s q.key) q.generation h.0 in
    (seen_is (get t q.key) q.generation v.0 (u.others q.key others.0 ∙ v.1) v.2, at_others s t k o u qs others.1 h.1)

views_others : (s t : Slab ViewValue) (k : ℕ) (o : Option ViewValue) → Updates s t k o → (qs : List Place) → AllByRecursion (λ q. q.key ≢ k) qs → views_at t qs ≡ views_at s qs
views_others s t k o u [] others = refl
views_others s t k o u (q ∷ qs) others = λ i. one_or_none (u.others q.key others.0 i) ++ views_others s t k o u qs others.1 i

views_less : (s : Slab ViewValue) (ps : List Place) (i : ℕ) → AreAt s ps → i < length ps → views_at s (remove ps i) ≡ remove (views_at s ps) i
views_less s [] i h lt = absurd (omega arith)
views_less s (p ∷ ps) zero h lt =
    let v = seen (get s p.key) p.generation h.0 in
    ap (λ vs. remove vs 0) (sym (views_cons s p ps v.0 v.1))
views_less s (p ∷ ps) (suc i) h lt =
    let v = seen (get s p.key) p.generation h.0 in
    views_cons s p (remove ps i) v.0 v.1 ∙ ap (λ vs. v.0 ∷ vs) (views_less s ps i h.1 (omega arith)) ∙ ap (λ vs. remove vs (suc i)) (sym (views_cons s p ps v.0 v.1))

up_to_less : (last : Option ℕ) (ps : List Place) (i : ℕ) → i < length ps → AreUpTo last ps → AreUpTo last (remove ps i)
up_to_less None ps i lt up = absurd (omega (arith, ap length up))
up_to_less (Some l) ps i lt up = all_removed place_number (λ n. n ≤ l) ps i up

apart_at : (s : Slab ViewValue) (ps : List Place) (i : ℕ) (d : Place) → AreAt s ps → IsRising (map place_number ps) → i < length ps → AllByRecursion (λ q. q.key ≢ (get_or ps i d).key) (remove ps i)
apart_at s ps i d h up lt = keys_apart s (remove ps i) (get_or ps i d).generation (get_or ps i d).key (at_removed s ps i h) (others_apart ps i d up lt) (at_nth s ps i d h lt)

pub kept_removed : (s t : Slab ViewValue) (ps qs : List Place) (last : Option ℕ) (room capacity i : ℕ) (d : Place) → AreViews s ps last room capacity → i < length ps → Updates s t (get_or ps i d).key None → qs ≡ remove ps i
    → slab_len t ≤ slab_len s → t.capacity ≡ s.capacity → length qs + 1 ≡ length ps → AreViews t qs last room capacity
kept_removed s t ps qs last room capacity i d h lt u same len cap shorter = record {
  at = subst (AreAt t) (sym same) (at_others s t (get_or ps i d).key None u (remove ps i) (apart_at s ps i d h.at h.rising lt) (at_removed s ps i h.at));
  rising = subst (λ xs. IsRising (map place_number xs)) (sym same) (rising_removed place_number ps i h.rising);
  up_to = subst (AreUpTo last) (sym same) (up_to_less last ps i lt h.up_to);
  slab_room = omega (arith, h.slab_room);
  list_room = omega (arith, h.list_room);
}

pub rising_views : (s : Slab ViewValue) (ps : List Place) → AreAt s ps → IsRising (map place_number ps) → IsRising (map generation_number (views_at s ps))
rising_views s ps h up = subst IsRising (sym (generations_are s ps h)) up

generation_nth : (s : Slab ViewValue) (ps : List Place) (i : ℕ) (w : ViewValue) (d : Place) → AreAt s ps → i < length ps → (get_or (views_at s ps) i w).generation ≡ (get_or ps i d).generation
generation_nth s ps i w d h lt =
    sym (key_at generation_number (views_at s ps) i w (omega (arith, length_views s ps h)))
    ∙ ap (λ ns. get_or ns i 0) (generations_are s ps h)
    ∙ key_at place_number ps i d lt

pub views_without : (s t : Slab ViewValue) (ps qs : List Place) (i g : ℕ) (d : Place) → AreAt s ps → IsRising (map place_number ps) → i < length ps → (get_or ps i d).generation ≡ g → Updates s t (get_or ps i d).key None → qs ≡ remove ps i
    → views_at t qs ≡ without_by generation_number (views_at s ps) g
views_without s t ps qs i g d h up lt e u same =
    let v = seen (get s (get_or ps i d).key) (get_or ps i d).generation (at_nth s ps i d h lt) in
    let n = generation_nth s ps i v.0 d h lt in
    ap (views_at t) same
    ∙ views_others s t (get_or ps i d).key None u (remove ps i) (apart_at s ps i d h up lt)
    ∙ views_less s ps i h lt
    ∙ sym (without_at generation_number (views_at s ps) g i v.0 (rising_views s ps h up) (omega (arith, length_views s ps h)) (n ∙ e))

-- the last generation
last_at : (ps : List Place) (o : Option ℕ) (p : Place) (i : ℕ) → suc i ≡ length ps → slice_get ps i ≡ Some p → last_or o (map place_number ps) ≡ Some p.generation
last_at [] o p i n e = absurd (omega arith)
last_at (q ∷ []) o p zero n e = let same : q ≡ p = cc in ap (λ (x : Place). Some x.generation) same
last_at (q ∷ []) o p (suc i) n e = absurd (omega arith)
last_at (q ∷ r ∷ ps) o p zero n e = absurd (omega arith)
last_at (q ∷ r ∷ ps) o p (suc i) n e = last_at (r ∷ ps) (Some q.generation) p i (omega arith) e

pub last_is : (ps : List Place) (o : Option ℕ) (p : Place) → slice_get ps (length ps - 1) ≡ Some p → last_or o (map place_number ps) ≡ Some p.generation
last_is [] o p e = absurd cc
last_is (q ∷ ps) o p e =
    let m : suc (length ps) - 1 ≡ length ps = omega arith in
    last_at (q ∷ ps) o p (length ps) refl (ap (slice_get (q ∷ ps)) (sym m) ∙ e)

-- the first so many change
abbrev pub front_mapped : (ViewValue → ViewValue) → ℕ → List ViewValue → List ViewValue
front_mapped f zero vs = vs
front_mapped f (suc i) [] = []
front_mapped f (suc i) (v ∷ vs) = f v ∷ front_mapped f i vs

pub front_more : (f : ViewValue → ViewValue) (vs : List ViewValue) (i : ℕ) (d : ViewValue) → i < length vs → slice_set (front_mapped f i vs) i (f (get_or (front_mapped f i vs) i d)) ≡ front_mapped f (suc i) vs
front_more f [] i d lt = absurd (omega arith)
front_more f (v ∷ vs) zero d lt = refl
front_more f (v ∷ vs) (suc i) d lt = ap (λ ws. f v ∷ ws) (front_more f vs i d (omega arith))

pub front_whole : (f : ViewValue → ViewValue) (vs : List ViewValue) (i : ℕ) → length vs ≤ i → front_mapped f i vs ≡ map f vs
front_whole f [] zero le = refl
front_whole f [] (suc i) le = refl
front_whole f (v ∷ vs) zero le = absurd (omega arith)
front_whole f (v ∷ vs) (suc i) le = ap (λ ws. f v ∷ ws) (front_whole f vs i (omega arith))

pub front_length : (f : ViewValue → ViewValue) (vs : List ViewValue) (i : ℕ) → length (front_mapped f i vs) ≡ length vs
front_length f vs zero = refl
front_length f [] (suc i) = refl
front_length f (v ∷ vs) (suc i) = ap suc (front_length f vs i)

-- one view more is forgotten
pub forget_step : (s : Slab ViewValue) (ps : List Place) (vs : List ViewValue) (i : ℕ) (d : Place) (v w : ViewValue) (f : ViewValue → ViewValue) → AreAt s ps → IsRising (map place_number ps) → i < length ps → get s (get_or ps i d).key ≡ Some v → w ≡ f v
    → views_at s ps ≡ front_mapped f i vs → views_at (with_value s (get_or ps i d).key w) ps ≡ front_mapped f (i + 1) vs
forget_step s ps vs i d v w f h up lt e wf so_far =
    let p = get_or ps i d in
    let key = key_found s ps p.generation p h up (found_at place_number ps p.generation i d up lt refl) in
    let within : i < length (views_at s ps) = omega (arith, length_views s ps h) in
    let more : i < length vs = omega (arith, ap length so_far, front_length f vs i) in
    views_changed s ps p.generation p.key v w f h key e wf
    ∙ sym (changed_only generation_number f (views_at s ps) p.generation i v (rising_views s ps h up) within (generation_nth s ps i v d h lt))
    ∙ ap (λ us. slice_set us i (f (get_or us i v))) so_far
    ∙ front_more f vs i v more
    ∙ ap (λ n. front_mapped f n vs) (sym (add-one i))

pub at_step : (s : Slab ViewValue) (ps : List Place) (k : ℕ) (v w : ViewValue) → AreAt s ps → get s k ≡ Some v → w.generation ≡ v.generation → AreAt (with_value s k w) ps
at_step s ps k v w h e same = at_changed s (with_value s k w) ps k v w (Updates-with_value s k w (contains s k v e)) h e same

pub len_step : (s : Slab ViewValue) (k : ℕ) (v w : ViewValue) → get s k ≡ Some v → slab_len (with_value s k w) ≡ slab_len s
len_step s k v w e = count_set s.slots k v w e

pub key_nth : (s : Slab ViewValue) (ps : List Place) (i : ℕ) (d : Place) → AreAt s ps → i < length ps → ContainsKey s (get_or ps i d).key
key_nth s ps i d h lt = let v = seen (get s (get_or ps i d).key) (get_or ps i d).generation (at_nth s ps i d h lt) in contains s (get_or ps i d).key v.0 v.1
