-- The tables at the start are ordered.
use Rattle.std.proofs.Common.{◌≡◌, ◌<◌, ◌≤◌, ◌+◌, ◌*◌, ◌++◌, ℕ, zero, suc, List, [], ◌∷◌, map, refl, sym, ap, ◌∙◌, arith, subst, nat_eq}
use Rattle.std.specs.Prelude.{All}
use Rattle.std.specs.List.{AllByRecursion, IsDistinct}
use Rattle.wf_outside.specs.Pages.{LimitsValue}
use Rattle.wf_outside.specs.Images.{ImageValue, IsImage}
use Rattle.wf_flat.specs.State.{PageState}
use Rattle.wf_outside.specs.Lists.{IsRising}
use Rattle.wf_flat.specs.Lists.{sorted_by}
use Rattle.wf_flat.specs.Ordered.{IsOrdered, page_numbers}
use Rattle.wf_flat.specs.Boot.{fresh_page, stack_of, stacks_of, numbered_from, boot_pages, boot_of}
use Rattle.wf_flat.proofs.SortLemmas.{IsRising-sorted_by, low_sorted}
use Rattle.wf_flat.proofs.BootLemmas.{fresh_numbers, distinct_back}
use Rattle.wf_flat.proofs.ListLemmas.{all_append}

all_above : (x n : ℕ) (ys : List ℕ) → x < n → AllByRecursion (λ m. n ≤ m) ys → AllByRecursion (λ m. x < m) ys
all_above x n [] lt all = tt
all_above x n (y ∷ ys) lt all = (let k : n ≤ y = all.0 in omega arith, all_above x n ys lt all.1)

-- rising numbers below n, and rising numbers from n on
rising_append : (n : ℕ) (xs ys : List ℕ) → IsRising xs → IsRising ys → AllByRecursion (λ m. m < n) xs → AllByRecursion (λ m. n ≤ m) ys → IsRising (xs ++ ys)
rising_append n [] ys up more low high = more
rising_append n (x ∷ xs) ys up more low high =
    (all_append (λ m. x < m) xs ys up.0 (all_above x n ys low.0 high), rising_append n xs ys up.1 more low.1 high)

numbers_append : (xs ys : List PageState) → page_numbers (xs ++ ys) ≡ page_numbers xs ++ page_numbers ys
numbers_append [] ys = refl
numbers_append (x ∷ xs) ys = ap (λ (ns : List ℕ). x.number ∷ ns) (numbers_append xs ys)

numbers_from : (birth : ℕ) (pages : List PageState) → page_numbers (numbered_from birth pages) ≡ page_numbers pages
unfolding numbered_from
numbers_from birth [] = refl
numbers_from birth (page ∷ pages) = ap (λ (ns : List ℕ). page.number ∷ ns) (numbers_from (birth + 1) pages)

low_more : (a b : ℕ) (xs : List ℕ) → a ≤ b → AllByRecursion (λ m. m < a) xs → AllByRecursion (λ m. m < b) xs
low_more a b [] le all = tt
low_more a b (x ∷ xs) le all = (let k : x < a = all.0 in omega arith, low_more a b xs le all.1)

high_more : (a b : ℕ) (xs : List ℕ) → a ≤ b → AllByRecursion (λ m. b ≤ m) xs → AllByRecursion (λ m. a ≤ m) xs
high_more a b [] le all = tt
high_more a b (x ∷ xs) le all = (let k : b ≤ x = all.0 in omega arith, high_more a b xs le all.1)

record AreStacks (n : ℕ) (numbers : List ℕ) : Type 0 where
  rising : IsRising numbers
  low : AllByRecursion (λ m. m < 0x3E00000 + 16 * n) numbers
  high : AllByRecursion (λ m. 0x3E00000 ≤ m) numbers

stack_rises : (n : ℕ) → IsRising (page_numbers (stack_of n))
stack_rises n = ((omega arith, (omega arith, (omega arith, tt))), ((omega arith, (omega arith, tt)), ((omega arith, tt), (tt, tt))))

stack_low : (n : ℕ) → AllByRecursion (λ m. m < 0x3E00000 + 16 * suc n) (page_numbers (stack_of n))
stack_low n = (omega arith, (omega arith, (omega arith, (omega arith, tt))))

stack_high : (n : ℕ) → AllByRecursion (λ m. 0x3E00000 + 16 * n ≤ m) (page_numbers (stack_of n))
stack_high n = (omega arith, (omega arith, (omega arith, (omega arith, tt))))

stacks_are : (n : ℕ) → AreStacks n (page_numbers (stacks_of n))
unfolding stacks_of
stacks_are zero = record { rising = tt; low = tt; high = tt }
stacks_are (suc n) =
    let before = stacks_are n in
    let numbers = page_numbers (stacks_of n) in
    let more = page_numbers (stack_of n) in
    rw (numbers_append (stacks_of n) (stack_of n)) (record {
      rising = rising_append (0x3E00000 + 16 * n) numbers more before.rising (stack_rises n) before.low (stack_high n);
      low = all_append (λ m. m < 0x3E00000 + 16 * suc n) numbers more (low_more (0x3E00000 + 16 * n) (0x3E00000 + 16 * suc n) numbers (omega arith) before.low) (stack_low n);
      high = all_append (λ m. 0x3E00000 ≤ m) numbers more before.high (high_more 0x3E00000 (0x3E00000 + 16 * n) more (omega arith) (stack_high n));
    })

-- the tables at the start of an image
pub boot_ordered : (image : ImageValue) (harts : ℕ) (limits : LimitsValue) → IsImage image.text image.pages image.entry → IsOrdered (boot_of image harts limits)
boot_ordered image harts limits is =
    let fresh = map fresh_page image.pages in
    let sorted = sorted_by (λ (p : PageState). p.number) fresh in
    let apart : IsDistinct nat_eq (page_numbers fresh) = subst (IsDistinct nat_eq) (sym (fresh_numbers image.pages)) (distinct_back _ _ is.distinct) in
    let low : All (λ n. n < 0x3E00000) (page_numbers fresh) = subst (All (λ (n : ℕ). n < 0x3E00000)) (sym (fresh_numbers image.pages)) is.data_low in
    let stacks = stacks_are harts in
    let e : page_numbers (boot_pages image harts) ≡ page_numbers sorted ++ page_numbers (stacks_of harts) = numbers_from 0 (sorted ++ stacks_of harts) ∙ numbers_append sorted (stacks_of harts) in
    record {
      pages = subst IsRising (sym e) (rising_append 0x3E00000 (page_numbers sorted) (page_numbers (stacks_of harts)) (IsRising-sorted_by (λ (p : PageState). p.number) fresh apart) stacks.rising (low_sorted (λ (p : PageState). p.number) 0x3E00000 fresh low) stacks.high);
      met = tt;
    }
