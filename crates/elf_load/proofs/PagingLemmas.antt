-- The pages that segments meet.
use Rattle.std.proofs.Common.{◌≡◌, ℕ, zero, suc, cond, ◌<◌, ◌≤◌, ◌+◌, ◌-◌, max, List, [], ◌∷◌, ◌++◌, Bool, true, false, ◌||◌, ◌&&◌, refl, sym, ap, ◌∙◌, append_assoc, append-nil, length, drop, arith}
use Rattle.std.specs.Prelude.{nat_le}
use Rattle.std.proofs.lemmas.List.{drop_all}
use Rattle.std.specs.List.{AllByRecursion, filter, range_with_len}
use Rattle.std.proofs.lemmas.List.Elements.{filter-append}
use Rattle.std.proofs.lemmas.Bool.Decides.{nat_tests}
use Rattle.elf_read.specs.declared.records.Segment.{Segment}
use Rattle.wf_outside.specs.declared.sizes.TheConstants.{DATA_END, DATA_END_PAGE}
use Rattle.elf_load.specs.Segments.{is_load, segment_end, first_page, page_after, meets, is_met}
use Rattle.elf_load.specs.Placing.{goes_before, AreInOrder, is_placeable}
use Rattle.elf_load.proofs.PlacingLemmas.{load_pages, pages_rise, next_page, goes_ends}
use Rattle.elf_load.specs.Loaded.{pages_below}

-- what the segments meet from a page on
abbrev pub numbers_from : ℕ → List Segment → List ℕ
numbers_from next [] = []
numbers_from next (s ∷ ss) =
    range_with_len (max (first_page s) next) (page_after s - max (first_page s) next) ++ numbers_from (page_after s) ss

-- ---- ranges

range_same : (a b m n : ℕ) → a ≡ b → m ≡ n → range_with_len a m ≡ range_with_len b n
range_same a b m n e f = ap (λ k. range_with_len k m) e ∙ ap (range_with_len b) f

range-append : (a m n : ℕ) → range_with_len a (m + n) ≡ range_with_len a m ++ range_with_len (a + m) n
range-append a zero n = range_same a (a + 0) (0 + n) n (omega arith) (omega arith)
range-append a (suc m) n =
    ap (range_with_len a) (suc_plus m n) ∙ ap (λ xs. a ∷ xs) (range-append (a + 1) m n ∙ ap (λ b. range_with_len (a + 1) m ++ range_with_len b n) (suc_along a m))
  where
    suc_plus : (m n : ℕ) → suc m + n ≡ suc (m + n)
    suc_plus m n = omega arith

    suc_along : (a m : ℕ) → a + 1 + m ≡ a + suc m
    suc_along a m = omega arith

-- one more number
pub range-push : (a b : ℕ) → a ≤ b → range_with_len a (b + 1 - a) ≡ range_with_len a (b - a) ++ b ∷ []
range-push a b h =
    range_same a a (b + 1 - a) (b - a + 1) refl (omega arith) ∙ range-append a (b - a) 1 ∙ ap (λ c. range_with_len a (b - a) ++ c ∷ []) (omega arith)

pub ruleset range_steps = (range-push, append_assoc)

-- no test passes, or each, or two agree, over a range
filter_none : (p : ℕ → Bool) (a n : ℕ) → ((k : ℕ) → a ≤ k → k < a + n → p k ≡ false) → filter p (range_with_len a n) ≡ []
filter_none p a zero h = refl
filter_none p a (suc n) h =
    let e : p a ≡ false = h a (omega arith) (omega arith) in
    rw e (filter_none p (a + 1) n (λ k lo hi. h k (omega arith) (omega arith)))

filter_each : (p : ℕ → Bool) (a n : ℕ) → ((k : ℕ) → a ≤ k → k < a + n → p k ≡ true) → filter p (range_with_len a n) ≡ range_with_len a n
filter_each p a zero h = refl
filter_each p a (suc n) h =
    let e : p a ≡ true = h a (omega arith) (omega arith) in
    rw e (ap (λ xs. a ∷ xs) (filter_each p (a + 1) n (λ k lo hi. h k (omega arith) (omega arith))))

filter_alike : (p q : ℕ → Bool) (a n : ℕ) → ((k : ℕ) → a ≤ k → k < a + n → p k ≡ q k) → filter p (range_with_len a n) ≡ filter q (range_with_len a n)
filter_alike p q a zero h = refl
filter_alike p q a (suc n) h =
    let e : p a ≡ q a = h a (omega arith) (omega arith) in
    rw e (ap (λ xs. cond (q a) (a ∷ xs) xs) (filter_alike p q (a + 1) n (λ k lo hi. h k (omega arith) (omega arith))))

-- a range in three parts
filter_parts : (p : ℕ → Bool) (a b c d : ℕ) → a ≤ b → b ≤ c → c ≤ d
    → filter p (range_with_len a (d - a)) ≡ filter p (range_with_len a (b - a)) ++ (filter p (range_with_len b (c - b)) ++ filter p (range_with_len c (d - c)))
filter_parts p a b c d h k l =
    ap (filter p) (range_same a a (d - a) ((b - a) + (d - b)) refl (omega arith) ∙ range-append a (b - a) (d - b)
    ∙ ap (λ xs. range_with_len a (b - a) ++ xs) (range_same (a + (b - a)) b (d - b) ((c - b) + (d - c)) (omega arith) (omega arith) ∙ range-append b (c - b) (d - c)
    ∙ ap (λ m. range_with_len b (c - b) ++ range_with_len m (d - c)) (omega arith)))
    ∙ filter-append p (range_with_len a (b - a)) (range_with_len b (c - b) ++ range_with_len c (d - c))
    ∙ ap (λ xs. filter p (range_with_len a (b - a)) ++ xs) (filter-append p (range_with_len b (c - b)) (range_with_len c (d - c)))

-- ---- the pages that segments meet

abbrev pub AreLoads : List Segment → Type 0
AreLoads ss = AllByRecursion (λ s. is_load s ≡ true) ss

abbrev pub EndBy : ℕ → List Segment → Type 0
EndBy n ss = AllByRecursion (λ s. page_after s ≤ n) ss

-- nothing behind a segment meets a page below those that it meets
none_met : (s : Segment) (ss : List Segment) (n : ℕ) → is_load s ≡ true → AllByRecursion (λ t. goes_before s t ≡ true) ss → n < first_page s → is_met ss n ≡ false
none_met s [] n h all lt = refl
none_met s (t ∷ ss) n h all lt = rw (not_met) (none_met s ss n h all.1 lt)
  where
    not_met : meets t n ≡ false
    not_met = let p : first_page s ≤ first_page t = pages_rise s t h all.0 in grind (arith, nat_tests)

-- the pages from one on that the segments meet
numbers_met : (next n : ℕ) (ss : List Segment) → AreLoads ss → AreInOrder ss → EndBy n ss → next ≤ n → AllByRecursion (λ s. next ≤ first_page s + 1) ss → numbers_from next ss ≡ filter (is_met ss) (range_with_len next (n - next))
numbers_met next n [] loads rising low le near = sym (filter_none (is_met []) next (n - next) (λ k lo hi. refl))
numbers_met next n (s ∷ ss) loads rising low le near =
    sym (filter_parts (is_met (s ∷ ss)) next from after n (omega arith) (from_below (near.0)) low.0
    ∙ ap (λ xs. xs ++ (filter (is_met (s ∷ ss)) (range_with_len from (after - from)) ++ filter (is_met (s ∷ ss)) (range_with_len after (n - after)))) below
    ∙ ap (λ xs. xs ++ filter (is_met (s ∷ ss)) (range_with_len after (n - after))) here
    ∙ ap (λ xs. range_with_len from (after - from) ++ xs) (behind ∙ sym (numbers_met after n ss loads.1 rising.1 low.1 low.0 (near_behind ss rising.0))))
  where
    from : ℕ
    from = max (first_page s) next

    after : ℕ
    after = page_after s

    size : first_page s < page_after s
    size = load_pages s loads.0

    from_below : next ≤ first_page s + 1 → from ≤ after
    from_below h = let k : first_page s < page_after s = size in omega arith

    below : filter (is_met (s ∷ ss)) (range_with_len next (from - next)) ≡ []
    below = filter_none (is_met (s ∷ ss)) next (from - next) (λ k lo hi. not_met (meets s k) _ (unmet k lo hi) (none_met s ss k loads.0 rising.0 (omega arith)))
      where
        unmet : (k : ℕ) → next ≤ k → k < next + (from - next) → meets s k ≡ false
        unmet k lo hi = grind (arith, nat_tests)

        not_met : (b c : Bool) → b ≡ false → c ≡ false → (b || c) ≡ false
        not_met b c e f = grind arith

    here : filter (is_met (s ∷ ss)) (range_with_len from (after - from)) ≡ range_with_len from (after - from)
    here = filter_each (is_met (s ∷ ss)) from (after - from) (λ k lo hi. is_there (meets s k) _ (met k lo hi))
      where
        met : (k : ℕ) → from ≤ k → k < from + (after - from) → meets s k ≡ true
        met k lo hi = grind (arith, nat_tests)

        is_there : (b c : Bool) → b ≡ true → (b || c) ≡ true
        is_there b c e = grind arith

    behind : filter (is_met (s ∷ ss)) (range_with_len after (n - after)) ≡ filter (is_met ss) (range_with_len after (n - after))
    behind = filter_alike (is_met (s ∷ ss)) (is_met ss) after (n - after) (λ k lo hi. as_others (meets s k) _ (unmet k lo))
      where
        unmet : (k : ℕ) → after ≤ k → meets s k ≡ false
        unmet k lo = grind (arith, nat_tests)

        as_others : (b c : Bool) → b ≡ false → (b || c) ≡ c
        as_others b c e = grind arith

    near_behind : (ts : List Segment) → AllByRecursion (λ t. goes_before s t ≡ true) ts → AllByRecursion (λ t. after ≤ first_page t + 1) ts
    near_behind [] all = tt
    near_behind (t ∷ ts) all = (next_page s t (goes_ends s t all.0), near_behind ts all.1)

near_zero : (ss : List Segment) → AllByRecursion (λ s. 0 ≤ first_page s + 1) ss
near_zero [] = tt
near_zero (s ∷ ss) = (omega arith, near_zero ss)

pub are_loads : (size : ℕ) (ss : List Segment) → AllByRecursion (λ s. is_placeable size s ≡ true) ss → AreLoads ss
are_loads size [] each = tt
are_loads size (s ∷ ss) each = (left (is_load s) _ _ _ each.0, are_loads size ss each.1)
  where
    left : (a b c d : Bool) → (((a && b) && c) && d) ≡ true → a ≡ true
    left a b c d e = grind arith

-- what is placed ends below the stacks
pub ends_low : (size : ℕ) (s : Segment) → is_placeable size s ≡ true → segment_end s ≤ DATA_END
ends_low size s h = low (is_load s) (segment_end s) DATA_END _ _ h
  where
    low : (a : Bool) (m n : ℕ) (c d : Bool) → (((a && nat_le m n) && c) && d) ≡ true → m ≤ n
    low a m n c d e = grind (arith, nat_tests)

pub end_low : (size : ℕ) (ss : List Segment) → AllByRecursion (λ s. is_placeable size s ≡ true) ss → EndBy DATA_END_PAGE ss
end_low size [] each = tt
end_low size (s ∷ ss) each = (low (ends_low size s each.0), end_low size ss each.1)
  where
    low : segment_end s ≤ DATA_END → page_after s ≤ DATA_END_PAGE
    low h = omega arith

numbers_below : (n : ℕ) (ss : List Segment) → AreLoads ss → AreInOrder ss → EndBy n ss → numbers_from 0 ss ≡ pages_below n (is_met ss)
unfolding pages_below
numbers_below n ss loads rising low = numbers_met 0 n ss loads rising low (omega arith) (near_zero ss) ∙ ap (λ m. filter (is_met ss) (range_with_len 0 m)) (omega arith)

-- all numbers are there
pub numbers_all : (i : ℕ) (numbers : List ℕ) (next : ℕ) (ss : List Segment) → AreInOrder ss → AreLoads ss → EndBy DATA_END_PAGE ss → length ss ≤ i
    → numbers ++ numbers_from next (drop i ss) ≡ numbers_from 0 ss → numbers ≡ pages_below DATA_END_PAGE (is_met ss)
numbers_all i numbers next ss rising loads low done all =
    sym (append-nil numbers) ∙ sym (ap (λ xs. numbers ++ numbers_from next xs) (drop_all i ss done)) ∙ all ∙ numbers_below DATA_END_PAGE ss loads rising low
