-- Pages that are mapped, one after another.
use Rattle.std.proofs.Common.{◌≡◌, ◌<◌, ◌+◌, ◌-◌, ◌++◌, ℕ, zero, suc, List, [], ◌∷◌, Bool, true, false, Option, None, length, get_or, replicate, slice_get, is_some, nat_eq, refl, ap, ◌∙◌, append_assoc, add-zero, arith}
use Rattle.std.specs.List.{AllByRecursion, IsDistinct, range_with_len}
use Rattle.std.proofs.lemmas.Bool.Decides.{nat_tests}
use Rattle.std.proofs.lemmas.Option.{slice_get-get_or}
use Rattle.wf_outside.specs.Images.{DeltaValue}
use Rattle.wf_outside.specs.Pages.{DataPageValue}
use Rattle.wf_flat.specs.Lists.{found_by}
use Rattle.wf_flat.specs.Memory.{data_in}
use Rattle.wf_flat.specs.Ordered.{IsOrdered, page_numbers}
use Rattle.wf_flat.specs.State.{FlatState, PageState}
use Rattle.wf_flat.proofs.SortLemmas.{IsRising-sorted_by}
use Rattle.wf_outside.specs.Lists.{IsRising}
use Rattle.wf_effects.specs.Effects.{shared_words, mapped_page, mapped_pages, mapped}
use Rattle.wf_effects.specs.Ranges.{is_data}

-- a page that is found has the words
pub shared_found : (shared : List DataPageValue) (n at : ℕ) (d : DataPageValue) → found_by (λ (p : DataPageValue). p.number) shared n ≡ slice_get shared at → at < length shared → (get_or shared at d).words ≡ shared_words shared n
shared_found shared n at d found h = rw (found, slice_get-get_or shared at d h) refl

-- none is
pub shared_none : (shared : List DataPageValue) (n : ℕ) → found_by (λ (p : DataPageValue). p.number) shared n ≡ None → replicate 512 0 ≡ shared_words shared n
shared_none shared n none = rw none refl

-- one more
pub mapped_next : (delta : Option DeltaValue) (write : Bool) (first birth n i : ℕ) (front now : List PageState) (page : PageState) → i < n → now ≡ front ++ page ∷ [] → page ≡ mapped_page delta write (first + i) (birth + i)
    → now ++ mapped_pages delta write (first + (i + 1)) (birth + (i + 1)) (n - (i + 1)) ≡ front ++ mapped_pages delta write (first + i) (birth + i) (n - i)
mapped_next delta write first birth n i front now page lt is at =
    let k = n - (i + 1) in
    let left : n - i ≡ suc k = omega arith in
    let a : first + (i + 1) ≡ first + i + 1 = omega arith in
    let b : birth + (i + 1) ≡ birth + i + 1 = omega arith in
    rw (is, at, left, a, b) (append_assoc front (mapped_page delta write (first + i) (birth + i) ∷ []) (mapped_pages delta write (first + i + 1) (birth + i + 1) k))

-- one more number
pub range_more : (a n : ℕ) → range_with_len a n ++ (a + n) ∷ [] ≡ range_with_len a (n + 1)
range_more a zero = ap (λ (x : ℕ). x ∷ []) (add-zero a)
range_more a (suc n) =
    let e : a + suc n ≡ a + 1 + n = omega arith in
    let f : suc n + 1 ≡ suc (n + 1) = omega arith in
    rw (e, f) (ap (λ (xs : List ℕ). a ∷ xs) (range_more (a + 1) n))

-- the numbers of pages that are mapped
pub mapped_numbers : (delta : Option DeltaValue) (write : Bool) (page birth n : ℕ) → page_numbers (mapped_pages delta write page birth n) ≡ range_with_len page n
mapped_numbers delta write page birth zero = refl
mapped_numbers delta write page birth (suc n) = ap (λ (ns : List ℕ). page ∷ ns) (mapped_numbers delta write (page + 1) (birth + 1) n)

numbers_append : (xs ys : List PageState) → page_numbers (xs ++ ys) ≡ page_numbers xs ++ page_numbers ys
numbers_append [] ys = refl
numbers_append (x ∷ xs) ys = ap (λ (ns : List ℕ). x.number ∷ ns) (numbers_append xs ys)

apart : (n m : ℕ) → n < m → nat_eq n m ≡ false
apart n m h = grind (arith, nat_tests)

all_apart : (n : ℕ) (ns : List ℕ) → AllByRecursion (λ m. n < m) ns → AllByRecursion (λ m. nat_eq n m ≡ false) ns
all_apart n [] all = tt
all_apart n (m ∷ ms) all = (apart n m all.0, all_apart n ms all.1)

above_range : (a b n : ℕ) → a < b → AllByRecursion (λ m. nat_eq a m ≡ false) (range_with_len b n)
above_range a b zero h = tt
above_range a b (suc n) h = (apart a b h, above_range a (b + 1) n (omega arith))

range_distinct : (a n : ℕ) → IsDistinct nat_eq (range_with_len a n)
unfolding IsDistinct
range_distinct a zero = tt
range_distinct a (suc n) = (above_range a (a + 1) n (omega arith), range_distinct (a + 1) n)

both_apart : (n : ℕ) (xs ys : List ℕ) → AllByRecursion (λ m. nat_eq n m ≡ false) xs → AllByRecursion (λ m. nat_eq n m ≡ false) ys → AllByRecursion (λ m. nat_eq n m ≡ false) (xs ++ ys)
both_apart n [] ys all more = more
both_apart n (x ∷ xs) ys all more = (all.0, both_apart n xs ys all.1 more)

-- a number that is not found is none of these
head_apart : (page : PageState) (pages : List PageState) (ns : List ℕ) → AllByRecursion (λ n. is_some (data_in (page ∷ pages) n) ≡ false) ns → AllByRecursion (λ n. nat_eq page.number n ≡ false) ns
head_apart page pages [] all = tt
head_apart page pages (n ∷ ns) all = (by_test (nat_eq page.number n) refl all.0, head_apart page pages ns all.1)
  where
    by_test : (b : Bool) → nat_eq page.number n ≡ b → is_some (data_in (page ∷ pages) n) ≡ false → nat_eq page.number n ≡ false
    by_test false e none = e
    by_test true e none = absurd (let k : is_some (data_in (page ∷ pages) n) ≡ true = rw e refl in cc)

tail_absent : (page : PageState) (pages : List PageState) (ns : List ℕ) → AllByRecursion (λ n. is_some (data_in (page ∷ pages) n) ≡ false) ns → AllByRecursion (λ n. is_some (data_in pages n) ≡ false) ns
tail_absent page pages [] all = tt
tail_absent page pages (n ∷ ns) all = (by_test (nat_eq page.number n) refl all.0, tail_absent page pages ns all.1)
  where
    by_test : (b : Bool) → nat_eq page.number n ≡ b → is_some (data_in (page ∷ pages) n) ≡ false → is_some (data_in pages n) ≡ false
    by_test false e none = rw e at none
    by_test true e none = absurd (let k : is_some (data_in (page ∷ pages) n) ≡ true = rw e refl in cc)

numbers_distinct : (pages : List PageState) (ns : List ℕ) → IsRising (page_numbers pages) → IsDistinct nat_eq ns → AllByRecursion (λ n. is_some (data_in pages n) ≡ false) ns → IsDistinct nat_eq (page_numbers pages ++ ns)
unfolding IsDistinct
numbers_distinct [] ns up distinct absent = distinct
numbers_distinct (page ∷ pages) ns up distinct absent = (
  both_apart page.number (page_numbers pages) ns (all_apart page.number (page_numbers pages) up.0) (head_apart page pages ns absent),
  numbers_distinct pages ns up.1 distinct (tail_absent page pages ns absent),
)

-- where none of them is there, no number stands twice
pub mapped_distinct : (pages more : List PageState) (delta : Option DeltaValue) (write : Bool) (first birth n : ℕ) → IsRising (page_numbers pages) → AllByRecursion (λ page. is_some (data_in pages page) ≡ false) (range_with_len first n)
    → more ≡ mapped_pages delta write first birth n → IsDistinct nat_eq (page_numbers (pages ++ more))
mapped_distinct pages more delta write first birth n up free is =
    let e : page_numbers (pages ++ more) ≡ page_numbers pages ++ range_with_len first n =
    numbers_append pages more ∙ ap (λ (ns : List ℕ). page_numbers pages ++ ns) (ap page_numbers is ∙ mapped_numbers delta write first birth n) in
    rw e (numbers_distinct pages (range_with_len first n) up (range_distinct first n) free)

-- the pages stay in order
pub mapped_ordered : (s : FlatState) (first n : ℕ) (write : Bool) (delta : Option DeltaValue) → IsOrdered s → AllByRecursion (λ page. is_data s page ≡ false) (range_with_len first n) → IsOrdered (mapped s first n write delta)
mapped_ordered s first n write delta up free = record {
  pages = IsRising-sorted_by (λ (p : PageState). p.number) (s.pages ++ mapped_pages delta write first s.births n) (mapped_distinct s.pages _ delta write first s.births n up.pages free refl);
  met = up.met;
}
