-- What patches are built over.
use Rattle.std.proofs.Common.{◌≡◌, ◌<◌, ◌≤◌, ◌+◌, ℕ, suc, zero, List, [], ◌∷◌, ◌++◌, false, ◌==◌, ◌||◌, refl, ap, sym, ◌∙◌, arith, length, get_or, max, All}
use Rattle.std.specs.Prelude.{nat_eq}
use Rattle.std.specs.List.{AllByRecursion, IsDistinct, list_any, range_with_len}
use Rattle.std.specs.List.Sorted.{IsPermutation, IsSorted, IsStrictlySortedBy}
use Rattle.std.specs.Ordering.{nat_cmp}
use Rattle.std.specs.declared.cmp.Ordering.TheVariants.{Less}
use Rattle.std.proofs.lemmas.Bool.Decides.{nat_tests}
use Rattle.std.proofs.lemmas.List.Sorted.{All-permutation, IsNonDecreasingBy-from_sort, list_any-IsPermutation}
use Rattle.std.proofs.lemmas.Map.Keys.{IsDistinct-IsPermutation, IsStrictlyIncreasing-from_distinct, sorted_from_strictly_increasing, sorted_head, sorted_tail}
use Rattle.wf_outside.specs.Lists.{IsRising}
use Rattle.wf_outside.specs.declared.sizes.TheConstants.{DATA_END, DATA_END_PAGE}
use Rattle.wf_outside.specs.Images.{DeltaValue, ImageValue, data_numbers, text_numbers}
use Rattle.wf_outside.specs.Pages.{page_of}
use Rattle.patch_build.specs.Areas.{AreaValue, IsArea}
use Rattle.patch_build.specs.Fits.{HasPages, IsSameArea, area_over, next_behind, page_behind}
use Rattle.patch_build.specs.Jumps.{has_page}

below_all : (x : ℕ) (xs : List ℕ) → AllByRecursion (λ y. nat_cmp x y ≡ Less) xs → AllByRecursion (λ y. x < y) xs
below_all x [] all = tt
below_all x (y ∷ xs) all = (grind (arith, nat_tests, all.0), below_all x xs all.1)

rising : (xs : List ℕ) → IsStrictlySortedBy nat_cmp xs → IsRising xs
rising [] sorted = tt
rising (x ∷ xs) sorted = (below_all x xs (sorted_head nat_cmp x xs sorted), rising xs (sorted_tail nat_cmp x xs sorted))

first_all : (P : ℕ → Type 0) (xs ys : List ℕ) → AllByRecursion P (xs ++ ys) → AllByRecursion P xs
first_all P [] ys all = tt
first_all P (x ∷ xs) ys all = (all.0, first_all P xs ys all.1)

first_distinct : (xs ys : List ℕ) → IsDistinct nat_eq (xs ++ ys) → IsDistinct nat_eq xs
unfolding IsDistinct
first_distinct [] ys distinct = tt
first_distinct (x ∷ xs) ys distinct =
    (first_all (λ y. nat_eq x y ≡ false) xs ys distinct.0, first_distinct xs ys distinct.1)

eq_flips : (x y : ℕ) → nat_eq x y ≡ nat_eq y x
eq_flips x y = grind (arith, nat_tests)

-- numbers that are there once, sorted, rise
pub rising-sorted : (xs ys zs : List ℕ) → IsDistinct nat_eq (xs ++ ys) → IsPermutation xs zs → IsSorted nat_cmp zs → IsRising zs
rising-sorted xs ys zs distinct permutation sorted =
    rising zs (sorted_from_strictly_increasing zs
    (IsStrictlyIncreasing-from_distinct zs (IsNonDecreasingBy-from_sort (λ (x : ℕ). x) zs sorted)
    (IsDistinct-IsPermutation nat_eq eq_flips xs zs permutation (first_distinct xs ys distinct))))

-- each number is below the page behind all
pub below_behind : (n : ℕ) (ns : List ℕ) → page_behind ns ≤ n → AllByRecursion (λ m. m < n) ns
below_behind n [] le = tt
below_behind n (m ∷ ns) le = (omega arith, below_behind n ns (omega arith))

behind-append : (xs ys : List ℕ) → page_behind (xs ++ ys) ≡ max (page_behind xs) (page_behind ys)
behind-append [] ys = omega arith
behind-append (x ∷ xs) ys = let h = behind-append xs ys in omega arith

-- the page behind numbers below one is at most that one
pub behind_low : (n : ℕ) (ns : List ℕ) → AllByRecursion (λ m. m < n) ns → page_behind ns ≤ n
behind_low n [] all = omega arith
behind_low n (m ∷ ns) all = let h = behind_low n ns all.1 in let k = all.0 in omega arith

-- numbers below a place and above it, but none at it
pub none_found : (xs : List ℕ) (n i : ℕ) → ((k : ℕ) → k < i → get_or xs k 0 < n) → ((k : ℕ) → i ≤ k → k < length xs → n < get_or xs k 0)
    → false ≡ list_any (λ m. m == n) xs
none_found [] n i before behind = refl
none_found (x ∷ xs) n zero before behind =
    let h : n < x = behind 0 (omega arith) (omega arith) in
    let e : (x == n) ≡ false = grind (arith, nat_tests) in
    none_found xs n 0 (λ k l. absurd (omega arith)) (λ k l m. behind (suc k) (omega arith) (omega arith)) ∙ ap (λ b. b || list_any (λ m. m == n) xs) (sym e)
none_found (x ∷ xs) n (suc i) before behind =
    let h : x < n = before 0 (omega arith) in
    let e : (x == n) ≡ false = grind (arith, nat_tests) in
    none_found xs n i (λ k l. before (suc k) (omega arith)) (λ k l m. behind (suc k) (omega arith) (omega arith)) ∙ ap (λ b. b || list_any (λ m. m == n) xs) (sym e)

-- an address past those of data is in no page below a free one
pub none_high : (xs : List ℕ) (next at : ℕ) → next ≤ DATA_END_PAGE → AllByRecursion (λ n. n < next) xs → DATA_END ≤ at → false ≡ has_page xs at
none_high [] next at low used high = refl
none_high (x ∷ xs) next at low used high =
    let h : x < next = used.0 in
    let e : (x == page_of at) ≡ false = grind (arith, nat_tests) in
    none_high xs next at low used.1 high ∙ ap (λ b. b || has_page xs at) (sym e)

-- what holds at each place holds of each element, and the other way round
to_each : {A : Type 0} (P : A → Type 0) (xs : List A) → All P xs → AllByRecursion P xs
to_each P [] all = tt
to_each P (x ∷ xs) all = (all 0 x (omega arith), to_each P xs (λ k d l. all (suc k) d (omega arith)))

at_each : {A : Type 0} (P : A → Type 0) (xs : List A) → AllByRecursion P xs → All P xs
at_each P [] all k d l = absurd (omega arith)
at_each P (x ∷ xs) all zero d l = all.0
at_each P (x ∷ xs) all (suc k) d l = at_each P xs all.1 k d (omega arith)

-- the area of an image keeps what each area keeps
pub area_begins : (text others zs : List ℕ) → IsDistinct nat_eq (text ++ others) → All (λ n. n < DATA_END_PAGE) text → All (λ n. n < DATA_END_PAGE) others
    → IsPermutation text zs → IsSorted nat_cmp zs → IsArea (max (page_behind text) (page_behind others)) zs
area_begins text others zs distinct low also permutation sorted = record {
  low =
      let h = behind_low DATA_END_PAGE text (to_each (λ n. n < DATA_END_PAGE) text low) in
      let k = behind_low DATA_END_PAGE others (to_each (λ n. n < DATA_END_PAGE) others also) in
      omega arith;
  rising = rising-sorted text others zs distinct permutation sorted;
  used =
      let next : ℕ = max (page_behind text) (page_behind others) in
      to_each (λ n. n < max (page_behind text) (page_behind others)) zs
      (All-permutation (λ n. n < max (page_behind text) (page_behind others)) text zs permutation
      (at_each (λ n. n < max (page_behind text) (page_behind others)) text (below_behind (max (page_behind text) (page_behind others)) text (omega arith))));
}

-- the same pages are found in a list that was sorted
pub same_begun : (image : ImageValue) (area : AreaValue) → area.next ≡ max (page_behind (text_numbers image.text)) (page_behind (data_numbers image.pages))
    → IsPermutation (text_numbers image.text) area.text → area.jumps ≡ [] → IsSameArea area (area_over image)
same_begun image area next permutation jumps = record {
  next = next;
  text = λ test. sym (list_any-IsPermutation test (text_numbers image.text) area.text permutation);
  jumps = jumps;
}

all-append : (P : ℕ → Type 0) (xs ys : List ℕ) → AllByRecursion P xs → AllByRecursion P ys → AllByRecursion P (xs ++ ys)
all-append P [] ys all also = also
all-append P (x ∷ xs) ys all also = (all.0, all-append P xs ys all.1 also)

all-from : (P Q : ℕ → Type 0) (xs : List ℕ) → ((x : ℕ) → P x → Q x) → AllByRecursion P xs → AllByRecursion Q xs
all-from P Q [] f all = tt
all-from P Q (x ∷ xs) f all = (f x all.0, all-from P Q xs f all.1)

-- numbers in a row, from one on and below another
pub row_from : (a n b : ℕ) → b ≤ a → AllByRecursion (λ y. b ≤ y) (range_with_len a n)
row_from a zero b le = tt
row_from a (suc n) b le = (le, row_from (a + 1) n b (omega arith))

pub row_below : (a n b : ℕ) → a + n ≤ b → AllByRecursion (λ y. y < b) (range_with_len a n)
row_below a zero b le = tt
row_below a (suc n) b le = (omega arith, row_below (a + 1) n b (omega arith))

pub row_rises : (a n : ℕ) → IsRising (range_with_len a n)
row_rises a zero = tt
row_rises a (suc n) = (all-from (λ y. a + 1 ≤ y) (λ y. a < y) (range_with_len (a + 1) n) (λ x h. omega (arith, h)) (row_from (a + 1) n (a + 1) (omega arith)), row_rises (a + 1) n)

rising-append : (n : ℕ) (xs ys : List ℕ) → IsRising xs → IsRising ys → AllByRecursion (λ x. x < n) xs → AllByRecursion (λ y. n ≤ y) ys → IsRising (xs ++ ys)
rising-append n [] ys up also below above = also
rising-append n (x ∷ xs) ys up also below above = (
  all-append (λ m. x < m) xs ys up.0 (all-from (λ y. n ≤ y) (λ y. x < y) ys (λ y h. let k : x < n = below.0 in omega (arith, h, k)) above),
  rising-append n xs ys up.1 also below.1 above,
)

grown : (next more all : ℕ) (text numbers : List ℕ) → IsArea next text → numbers ≡ range_with_len next more → next + more ≤ all → all ≤ DATA_END_PAGE → IsArea all (text ++ numbers)
grown next more all text numbers kept is le low = record {
  low = low;
  rising = rising-append next text numbers kept.rising (rw is (row_rises next more)) kept.used (rw is (row_from next more next (omega arith)));
  used = all-append (λ n. n < all) text numbers (all-from (λ n. n < next) (λ n. n < all) text (λ x h. omega (arith, h, le)) kept.used) (rw is (row_below next more all le));
}

-- behind a patch an area keeps what each area keeps
pub area_grows : (area : AreaValue) (delta : DeltaValue) → IsArea area.next area.text → HasPages area.next delta
    → IsArea (next_behind area.next delta) (area.text ++ text_numbers delta.private)
area_grows area delta kept pages =
    grown area.next (length delta.private) (next_behind area.next delta) area.text (text_numbers delta.private) kept pages.private (omega arith) pages.low
