-- What an image keeps.
use Rattle.std.proofs.Common.{◌≡◌, ℕ, zero, suc, cond, ◌<◌, ◌≤◌, ◌+◌, ◌/◌, ◌%◌, List, [], ◌∷◌, ◌++◌, Bool, true, false, true≢false, ◌||◌, ◌&&◌, refl, sym, subst, ap, ◌∙◌, arith, map, nat_eq}
use Rattle.std.specs.Prelude.{◌==◌}
use Rattle.std.specs.List.{All, AllByRecursion, Contains, IsDistinct, filter, range_with_len}
use Rattle.std.proofs.lemmas.Bool.Decides.{nat_tests}
use Rattle.elf_read.specs.declared.records.Segment.{Segment}
use Rattle.wf_outside.specs.Pages.{PageValue, DataPageValue}
use Rattle.wf_outside.specs.Images.{IsImage, text_numbers, data_numbers}
use Rattle.wf_outside.specs.declared.sizes.TheConstants.{DATA_END_PAGE}
use Rattle.elf_load.specs.Segments.{meets, page_after, is_executable, is_text, is_data}
use Rattle.elf_load.specs.Placing.{is_placeable}
use Rattle.elf_load.specs.Loaded.{loaded_text, loaded_data, pages_below}
use Rattle.elf_load.proofs.PagingLemmas.{EndBy, end_low}
use Rattle.elf_load.proofs.NumberLemmas.{below_low}

-- the numbers of pages that are made of numbers
text_made : (file : List ℕ) (loads : List Segment) (ns : List ℕ) → text_numbers (map (loaded_text file loads) ns) ≡ ns
text_made file loads [] = refl
text_made file loads (n ∷ ns) = ap (λ xs. n ∷ xs) (text_made file loads ns)

data_made : (file : List ℕ) (loads : List Segment) (ns : List ℕ) → data_numbers (map (loaded_data file loads) ns) ≡ ns
data_made file loads [] = refl
data_made file loads (n ∷ ns) = ap (λ xs. n ∷ xs) (data_made file loads ns)

-- ---- each number is there once

apart : (m n : ℕ) → m < n → nat_eq m n ≡ false
apart m n lt = grind (arith, nat_tests)

-- all that are kept of a range lie behind what is below it
range_behind : (p : ℕ → Bool) (m a n : ℕ) → m < a → AllByRecursion (λ k. nat_eq m k ≡ false) (filter p (range_with_len a n))
range_behind p m a zero lt = tt
range_behind p m a (suc n) lt = by_test (p a) (range_behind p m (a + 1) n (omega arith))
  where
    by_test : (b : Bool) → AllByRecursion (λ k. nat_eq m k ≡ false) (filter p (range_with_len (a + 1) n))
        → AllByRecursion (λ k. nat_eq m k ≡ false) (cond b (a ∷ filter p (range_with_len (a + 1) n)) (filter p (range_with_len (a + 1) n)))
    by_test true rest = (apart m a lt, rest)
    by_test false rest = rest

range_distinct : (p : ℕ → Bool) (a n : ℕ) → IsDistinct nat_eq (filter p (range_with_len a n))
unfolding IsDistinct
range_distinct p a zero = tt
range_distinct p a (suc n) = by_test (p a) (range_distinct p (a + 1) n)
  where
    by_test : (b : Bool) → IsDistinct nat_eq (filter p (range_with_len (a + 1) n)) → IsDistinct nat_eq (cond b (a ∷ filter p (range_with_len (a + 1) n)) (filter p (range_with_len (a + 1) n)))
    by_test true rest = (range_behind p a (a + 1) n (omega arith), rest)
    by_test false rest = rest

-- what passes one test is none of what passes the other
passes_apart : (p q : ℕ → Bool) → ((k : ℕ) → p k ≡ true → q k ≡ false) → (m : ℕ) → p m ≡ true → (ns : List ℕ) → AllByRecursion (λ k. nat_eq m k ≡ false) (filter q ns)
passes_apart p q h m is [] = tt
passes_apart p q h m is (n ∷ ns) = by_test (q n) refl (passes_apart p q h m is ns)
  where
    other : (b : Bool) → nat_eq m n ≡ b → q n ≡ true → nat_eq m n ≡ false
    other true e f =
        let same : m ≡ n = grind (arith, nat_tests) in
        absurd (true≢false (sym f ∙ ap q (sym same) ∙ h m is))
    other false e f = e

    by_test : (b : Bool) → q n ≡ b → AllByRecursion (λ k. nat_eq m k ≡ false) (filter q ns) → AllByRecursion (λ k. nat_eq m k ≡ false) (cond b (n ∷ filter q ns) (filter q ns))
    by_test true e rest = (other (nat_eq m n) refl e, rest)
    by_test false e rest = rest

all-append : (P : ℕ → Type 0) (xs ys : List ℕ) → AllByRecursion P xs → AllByRecursion P ys → AllByRecursion P (xs ++ ys)
all-append P [] ys h k = k
all-append P (x ∷ xs) ys h k = (h.0, all-append P xs ys h.1 k)

both_distinct : (p q : ℕ → Bool) → ((k : ℕ) → p k ≡ true → q k ≡ false) → (a n : ℕ) (ms : List ℕ) → IsDistinct nat_eq (filter q ms) → IsDistinct nat_eq (filter p (range_with_len a n) ++ filter q ms)
unfolding IsDistinct
both_distinct p q h a zero ms d = d
both_distinct p q h a (suc n) ms d = by_test (p a) refl (both_distinct p q h (a + 1) n ms d)
  where
    by_test : (b : Bool) → p a ≡ b → IsDistinct nat_eq (filter p (range_with_len (a + 1) n) ++ filter q ms)
        → IsDistinct nat_eq (cond b (a ∷ filter p (range_with_len (a + 1) n)) (filter p (range_with_len (a + 1) n)) ++ filter q ms)
    by_test true e rest =
        (all-append (λ k. nat_eq a k ≡ false) (filter p (range_with_len (a + 1) n)) (filter q ms) (range_behind p a (a + 1) n (omega arith)) (passes_apart p q h a e ms), rest)
    by_test false e rest = rest

below_distinct : (p q : ℕ → Bool) → ((k : ℕ) → p k ≡ true → q k ≡ false) → (n : ℕ) → IsDistinct nat_eq (pages_below n p ++ pages_below n q)
unfolding pages_below
below_distinct p q h n = both_distinct p q h 0 n (range_with_len 0 n) (range_distinct q 0 n)

-- text is no data
text_no_data : (loads : List Segment) (n : ℕ) → is_text loads n ≡ true → is_data loads n ≡ false
text_no_data loads n h = grind arith

-- ---- the entry's page is there

range_contains : (p : ℕ → Bool) (k a n : ℕ) → a ≤ k → k < a + n → p k ≡ true → Contains (filter p (range_with_len a n)) k
range_contains p k a zero lo hi is = absurd (omega arith)
range_contains p k a (suc n) lo hi is = by_place (nat_eq k a) refl (p a) refl (λ up. range_contains p k (a + 1) n up (omega arith) is)
  where
    rest : List ℕ
    rest = filter p (range_with_len (a + 1) n)

    by_place : (b : Bool) → nat_eq k a ≡ b → (c : Bool) → p a ≡ c → (a + 1 ≤ k → Contains rest k) → Contains (cond c (a ∷ rest) rest) k
    by_place true e true f h = let same : a ≡ k = grind (arith, nat_tests) in (0, omega arith, same)
    by_place true e false f h = let same : k ≡ a = grind (arith, nat_tests) in absurd (true≢false (sym is ∙ ap p same ∙ f))
    by_place false e true f h =
        let up : a + 1 ≤ k = grind (arith, nat_tests) in
        let there : Contains rest k = h up in
        (suc there.0, omega (arith, there.1), there.2)
    by_place false e false f h = let up : a + 1 ≤ k = grind (arith, nat_tests) in h up

below_contains : (n k : ℕ) (p : ℕ → Bool) → k < n → p k ≡ true → Contains (pages_below n p) k
unfolding pages_below
below_contains n k p lt is = range_contains p k 0 n (omega arith) (omega arith) is

text_ends : (n k : ℕ) (ss : List Segment) → EndBy n ss → is_text ss k ≡ true → k < n
text_ends n k [] low is = absurd (true≢false (sym is))
text_ends n k (s ∷ ss) low is = by_test (meets s k && is_executable s) refl is (text_ends n k ss low.1)
  where
    ends : (b : Bool) → (meets s k && b) ≡ true → page_after s ≤ n → k < n
    ends b e h = grind (arith, nat_tests)

    by_test : (b : Bool) → (meets s k && is_executable s) ≡ b → (b || is_text ss k) ≡ true → (is_text ss k ≡ true → k < n) → k < n
    by_test true e f h = ends (is_executable s) e low.0
    by_test false e f h = h f

-- an image of text and data, of which the entry's page is one of text
pub image_kept : (size entry : ℕ) (file : List ℕ) (loads : List Segment) (text : List PageValue) (pages : List DataPageValue) → AllByRecursion (λ s. is_placeable size s ≡ true) loads
    → text ≡ map (loaded_text file loads) (pages_below DATA_END_PAGE (is_text loads)) → pages ≡ map (loaded_data file loads) (pages_below DATA_END_PAGE (is_data loads))
    → ((entry % 4 == 0) && is_text loads (entry / 4096)) ≡ true → IsImage text pages entry
image_kept size entry file loads text pages each t d is = record {
  distinct = subst (IsDistinct nat_eq) (sym both) (below_distinct (is_text loads) (is_data loads) (text_no_data loads) DATA_END_PAGE);
  text_low = subst (All (λ n. n < DATA_END_PAGE)) (sym texts) (below_low DATA_END_PAGE (is_text loads));
  data_low = subst (All (λ n. n < DATA_END_PAGE)) (sym datas) (below_low DATA_END_PAGE (is_data loads));
  aligned = aligned (entry % 4) _ is;
  is_text = subst (λ (ns : List ℕ). Contains ns (entry / 4096)) (sym texts)
      (below_contains DATA_END_PAGE (entry / 4096) (is_text loads) (text_ends DATA_END_PAGE (entry / 4096) loads (end_low size loads each) (there (entry % 4) _ is)) (there (entry % 4) _ is));
}
  where
    texts : text_numbers text ≡ pages_below DATA_END_PAGE (is_text loads)
    texts = ap text_numbers t ∙ text_made file loads (pages_below DATA_END_PAGE (is_text loads))

    datas : data_numbers pages ≡ pages_below DATA_END_PAGE (is_data loads)
    datas = ap data_numbers d ∙ data_made file loads (pages_below DATA_END_PAGE (is_data loads))

    both : text_numbers text ++ data_numbers pages ≡ pages_below DATA_END_PAGE (is_text loads) ++ pages_below DATA_END_PAGE (is_data loads)
    both = ap (λ ns. ns ++ data_numbers pages) texts ∙ ap (λ ns. pages_below DATA_END_PAGE (is_text loads) ++ ns) datas

    aligned : (m : ℕ) (b : Bool) → ((m == 0) && b) ≡ true → m ≡ 0
    aligned m b e = grind (arith, nat_tests)

    there : (m : ℕ) (b : Bool) → ((m == 0) && b) ≡ true → b ≡ true
    there m b e = grind (arith, nat_tests)
