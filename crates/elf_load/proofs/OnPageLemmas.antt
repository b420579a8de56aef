-- The segments that meet one page.
use Rattle.std.proofs.Common.{◌≡◌, ℕ, zero, suc, ◌<◌, ◌≤◌, ◌+◌, ◌-◌, List, [], ◌∷◌, Bool, true, false, refl, sym, ap, ◌∙◌, length, take, drop, get_or, arith}
use Rattle.std.specs.Prelude.{nat_le, nat_lt}
use Rattle.std.specs.List.{AllByRecursion, filter}
use Rattle.std.specs.List.Sorted.{IsPartitionPoint, IsPartitionedBy}
use Rattle.std.proofs.lemmas.Bool.Decides.{nat_tests}
use Rattle.elf_read.specs.declared.records.Segment.{Segment}
use Rattle.elf_load.specs.Segments.{is_load, first_page, page_after, meets}
use Rattle.elf_load.specs.Placing.{goes_before, AreInOrder}
use Rattle.elf_load.proofs.PlacingLemmas.{load_pages, pages_rise, next_page, goes_ends, no_segment}
use Rattle.elf_load.proofs.PagingLemmas.{AreLoads}

-- pages rise with addresses
after_rises : (s t : Segment) → is_load t ≡ true → goes_before s t ≡ true → page_after s ≤ page_after t
after_rises s t h before =
    let near : page_after s ≤ first_page t + 1 = next_page s t (goes_ends s t before) in
    let size : first_page t < page_after t = load_pages t h in
    omega arith

pub all_at : {A : Type 0} (P : A → Type 0) (xs : List A) (i : ℕ) (d : A) → AllByRecursion P xs → i < length xs → P (get_or xs i d)
all_at P [] i d all lt = absurd (omega arith)
all_at P (x ∷ xs) zero d all lt = all.0
all_at P (x ∷ xs) (suc i) d all lt = all_at P xs i d all.1 (omega arith)

-- what holds of a later one holds of an earlier one
passed_on : (p : Segment → Bool) → ((s t : Segment) → is_load s ≡ true → is_load t ≡ true → goes_before s t ≡ true → p t ≡ true → p s ≡ true) → (ss : List Segment) → AreLoads ss → AreInOrder ss → IsPartitionedBy p ss
passed_on p on [] loads rising i j d le lt h = absurd (omega arith)
passed_on p on (s ∷ ss) loads rising zero zero d le lt h = h
passed_on p on (s ∷ ss) loads rising zero (suc j) d le lt h =
    on s (get_or ss j d) loads.0 (all_at (λ t. is_load t ≡ true) ss j d loads.1 (omega arith)) (all_at (λ t. goes_before s t ≡ true) ss j d rising.0 (omega arith)) h
passed_on p on (s ∷ ss) loads rising (suc i) zero d le lt h = absurd (omega arith)
passed_on p on (s ∷ ss) loads rising (suc i) (suc j) d le lt h = passed_on p on ss loads.1 rising.1 i j d (omega arith) (omega arith) h

pub ended_parts : (n : ℕ) (ss : List Segment) → AreLoads ss → AreInOrder ss → IsPartitionedBy (λ s. nat_le (page_after s) n) ss
ended_parts n ss loads rising = passed_on (λ s. nat_le (page_after s) n) on ss loads rising
  where
    on : (s t : Segment) → is_load s ≡ true → is_load t ≡ true → goes_before s t ≡ true → nat_le (page_after t) n ≡ true → nat_le (page_after s) n ≡ true
    on s t h k before le = let rise : page_after s ≤ page_after t = after_rises s t k before in grind (arith, nat_tests)

pub begun_parts : (n : ℕ) (ss : List Segment) → AreLoads ss → AreInOrder ss → IsPartitionedBy (λ s. nat_le (first_page s) n) ss
begun_parts n ss loads rising = passed_on (λ s. nat_le (first_page s) n) on ss loads rising
  where
    on : (s t : Segment) → is_load s ≡ true → is_load t ≡ true → goes_before s t ≡ true → nat_le (first_page t) n ≡ true → nat_le (first_page s) n ≡ true
    on s t h k before le = let rise : first_page s ≤ first_page t = pages_rise s t h before in grind (arith, nat_tests)

-- a test of numbers as a fact
pub point_told : (f : Segment → ℕ) (n i : ℕ) (ss : List Segment) → IsPartitionPoint (λ s. nat_le (f s) n ≡ true) (λ s. nat_le (f s) n ≡ false) ss i → IsPartitionPoint (λ s. f s ≤ n) (λ s. n < f s) ss i
point_told f n i ss point = ((λ k d lo hi. at_most (f (get_or ss k d)) (point.0 k d lo hi)), (λ k d lo hi. above (f (get_or ss k d)) (point.1 k d lo hi)))
  where
    at_most : (m : ℕ) → nat_le m n ≡ true → m ≤ n
    at_most m e = grind (arith, nat_tests)

    above : (m : ℕ) → nat_le m n ≡ false → n < m
    above m e = grind (arith, nat_tests)

-- a test that passes between two places alone
filter_nothing : (p : Segment → Bool) (ss : List Segment) → ((k : ℕ) (d : Segment) → k < length ss → p (get_or ss k d) ≡ false) → filter p ss ≡ []
filter_nothing p [] none = refl
filter_nothing p (s ∷ ss) none = let e : p s ≡ false = none 0 s (omega arith) in rw e (filter_nothing p ss (λ k d lt. none (suc k) d (omega arith)))

filter_first : (p : Segment → Bool) (ss : List Segment) (j : ℕ) → j ≤ length ss → ((k : ℕ) (d : Segment) → k < j → p (get_or ss k d) ≡ true)
    → ((k : ℕ) (d : Segment) → j ≤ k → k < length ss → p (get_or ss k d) ≡ false) → filter p ss ≡ take j ss
filter_first p ss zero le some none = filter_nothing p ss (λ k d lt. none k d (omega arith) lt)
filter_first p [] (suc j) le some none = absurd (omega arith)
filter_first p (s ∷ ss) (suc j) le some none =
    let e : p s ≡ true = some 0 s (omega arith) in
    rw e (ap (λ xs. s ∷ xs) (filter_first p ss j (omega arith) (λ k d lt. some (suc k) d (omega arith)) (λ k d lo lt. none (suc k) d (omega arith) (omega arith))))

filter_window : (p : Segment → Bool) (ss : List Segment) (i j : ℕ) → i ≤ j → j ≤ length ss → ((k : ℕ) (d : Segment) → k < i → p (get_or ss k d) ≡ false)
    → ((k : ℕ) (d : Segment) → i ≤ k → k < j → p (get_or ss k d) ≡ true) → ((k : ℕ) (d : Segment) → j ≤ k → k < length ss → p (get_or ss k d) ≡ false)
    → take (j - i) (drop i ss) ≡ filter p ss
filter_window p ss zero j le lt before some none =
    ap (λ n. take n ss) (omega arith) ∙ sym (filter_first p ss j lt (λ k d hi. some k d (omega arith) hi) none)
filter_window p [] (suc i) j le lt before some none = absurd (omega arith)
filter_window p (s ∷ ss) (suc i) zero le lt before some none = absurd (omega arith)
filter_window p (s ∷ ss) (suc i) (suc j) le lt before some none =
    let e : p s ≡ false = before 0 s (omega arith) in
    rw e (ap (λ n. take n (drop i ss)) (omega arith)
    ∙ filter_window p ss i j (omega arith) (omega arith) (λ k d hi. before (suc k) d (omega arith)) (λ k d lo hi. some (suc k) d (omega arith) (omega arith)) (λ k d lo hi. none (suc k) d (omega arith) (omega arith)))

-- those between the two places are those that meet the page
pub point_order : (n i j : ℕ) (ss : List Segment) → AreLoads ss → IsPartitionPoint (λ s. page_after s ≤ n) (λ s. n < page_after s) ss i → IsPartitionPoint (λ s. first_page s ≤ n) (λ s. n < first_page s) ss j
    → i ≤ length ss → i ≤ j
point_order n i j ss loads ended begun le = by_order (nat_lt j i) refl
  where
    contrary : j < i → ⊥
    contrary lt =
        let size : first_page (get_or ss j no_segment) < page_after (get_or ss j no_segment) = load_pages (get_or ss j no_segment) (all_at (λ t. is_load t ≡ true) ss j no_segment loads (omega arith)) in
        let low : page_after (get_or ss j no_segment) ≤ n = ended.0 j no_segment (omega arith) lt in
        let high : n < first_page (get_or ss j no_segment) = begun.1 j no_segment (omega arith) (omega arith) in
        omega arith

    by_order : (b : Bool) → nat_lt j i ≡ b → i ≤ j
    by_order true e = let lt : j < i = grind (arith, nat_tests) in absurd (contrary lt)
    by_order false e = grind (arith, nat_tests)

pub between_met : (n i j : ℕ) (ss : List Segment) → AreLoads ss → IsPartitionPoint (λ s. page_after s ≤ n) (λ s. n < page_after s) ss i → IsPartitionPoint (λ s. first_page s ≤ n) (λ s. n < first_page s) ss j
    → i ≤ length ss → j ≤ length ss → take (j - i) (drop i ss) ≡ filter (λ s. meets s n) ss
between_met n i j ss loads ended begun le lt =
    filter_window (λ s. meets s n) ss i j (point_order n i j ss loads ended begun le) lt
    (λ k d hi. above (get_or ss k d) (ended.0 k d (omega arith) hi))
    (λ k d lo hi. within (get_or ss k d) (ended.1 k d lo (omega arith)) (begun.0 k d (omega arith) hi))
    (λ k d lo hi. below (get_or ss k d) (begun.1 k d lo hi))
  where
    above : (s : Segment) → page_after s ≤ n → meets s n ≡ false
    above s h = grind (arith, nat_tests)

    within : (s : Segment) → n < page_after s → first_page s ≤ n → meets s n ≡ true
    within s h k = grind (arith, nat_tests)

    below : (s : Segment) → n < first_page s → meets s n ≡ false
    below s h = grind (arith, nat_tests)
