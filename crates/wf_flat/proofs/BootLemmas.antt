-- The lists at the start, one element after another.
use Rattle.std.proofs.Common.{◌≡◌, ◌<◌, ◌≤◌, ◌+◌, ◌*◌, ◌/◌, ◌++◌, ℕ, zero, suc, List, [], ◌∷◌, length, get_or, set, drop, refl, sym, ap, ◌∙◌, append_assoc, length-append, append-nil, add-one, add-zero, zero-add, arith, map, nat_eq, false}
use Rattle.std.specs.List.{AllByRecursion, IsDistinct}
use Rattle.std.proofs.lemmas.List.{drop_all}
use Rattle.std.proofs.lemmas.Map.Keys.{IsDistinct-head, IsDistinct-tail}
use Rattle.wf_outside.specs.Pages.{PageValue, DataPageValue}
use Rattle.wf_outside.specs.Images.{ImageValue, IsImage, text_numbers, data_numbers}
use Rattle.wf_flat.proofs.RisingLemmas.{length-places_with}
use Rattle.wf_flat.proofs.SortLemmas.{length_distinct, length-sorted_by, length-map}
use Rattle.std.proofs.Math.Seq.{drop-cons}
use Rattle.wf_flat.specs.Lists.{with_number, sorted_by}
use Rattle.wf_flat.specs.State.{PageState}
use Rattle.wf_flat.specs.Boot.{fresh_page, stack_of, stacks_of, numbered_from, boot_hart, boot_harts, boot_text, boot_pages, boot_reach, places_with}

-- the first so many are numbered
abbrev pub numbered_to : ℕ → ℕ → List PageState → List PageState
numbered_to zero birth pages = pages
numbered_to (suc i) birth [] = []
numbered_to (suc i) birth (page ∷ pages) = record page { birth = birth } ∷ numbered_to i (birth + 1) pages

pub length-numbered_to : (i birth : ℕ) (pages : List PageState) → length (numbered_to i birth pages) ≡ length pages
length-numbered_to zero birth pages = refl
length-numbered_to (suc i) birth [] = refl
length-numbered_to (suc i) birth (page ∷ pages) = ap suc (length-numbered_to i (birth + 1) pages)

-- one more is numbered
pub numbered_more : (i birth : ℕ) (pages : List PageState) (d : PageState) → i < length pages
    → set (numbered_to i birth pages) i (record (get_or (numbered_to i birth pages) i d) { birth = birth + i }) ≡ numbered_to (i + 1) birth pages
numbered_more i birth [] d h = absurd (omega arith)
numbered_more zero birth (page ∷ pages) d h = ap (λ (b : ℕ). (let p : PageState = record page { birth = b } in p) ∷ pages) (add-zero birth)
numbered_more (suc i) birth (page ∷ pages) d h =
    let e : birth + suc i ≡ birth + 1 + i = omega arith in
    let f : suc i + 1 ≡ suc (i + 1) = omega arith in
    let first : PageState = record page { birth = birth } in
    let rest : List PageState = numbered_to i (birth + 1) pages in
    ap (λ (b : ℕ). first ∷ set rest i (record (get_or rest i d) { birth = b })) e
    ∙ ap (λ (xs : List PageState). first ∷ xs) (numbered_more i (birth + 1) pages d (omega arith))
    ∙ ap (λ (k : ℕ). numbered_to k birth (page ∷ pages)) (sym f)

-- the next is numbered
pub number_step : (pages now : List PageState) (i : ℕ) (old : PageState) → i < length now → now ≡ numbered_to i 0 pages → old ≡ get_or now i old → set now i (record old { birth = i }) ≡ numbered_to (i + 1) 0 pages
number_step pages now i old h e f =
    let first : List PageState = numbered_to i 0 pages in
    let g : old ≡ get_or first i old = f ∙ ap (λ (xs : List PageState). get_or xs i old) e in
    let lt : i < length pages = omega (arith, h, ap length e, length-numbered_to i 0 pages) in
    ap (λ (xs : List PageState). set xs i (record old { birth = i })) e
    ∙ ap (λ (p : PageState). set first i (record p { birth = i })) g
    ∙ ap (λ (b : ℕ). set first i (record (get_or first i old) { birth = b })) (sym (zero-add i))
    ∙ numbered_more i 0 pages old lt

-- all are
pub numbered_all : (i birth : ℕ) (pages : List PageState) → length pages ≤ i → numbered_to i birth pages ≡ numbered_from birth pages
unfolding numbered_from
numbered_all zero birth [] h = refl
numbered_all zero birth (page ∷ pages) h = absurd (omega arith)
numbered_all (suc i) birth [] h = refl
numbered_all (suc i) birth (page ∷ pages) h = ap (λ (xs : List PageState). record page { birth = birth } ∷ xs) (numbered_all i (birth + 1) pages (omega arith))

pub stacks_none : (pages : List PageState) → pages ≡ pages ++ stacks_of 0
unfolding stacks_of
stacks_none pages = sym (append-nil pages)

stacks_step : (i : ℕ) → stacks_of (suc i) ≡ stacks_of i ++ stack_of i
unfolding stacks_of
stacks_step i = refl

pub stacks_more : (pages : List PageState) (i : ℕ) → (pages ++ stacks_of i) ++ stack_of i ≡ pages ++ stacks_of (i + 1)
stacks_more pages i =
    append_assoc pages (stacks_of i) (stack_of i) ∙ ap (λ (xs : List PageState). pages ++ xs) (sym (ap stacks_of (add-one i) ∙ stacks_step i))

pub ruleset stack_steps = (stacks_none, stacks_more)

pub harts_none : (entry : ℕ) → [] ≡ boot_harts entry 0
unfolding boot_harts
harts_none entry = refl

pub harts_more : (entry i : ℕ) → boot_harts entry i ++ boot_hart entry i ∷ [] ≡ boot_harts entry (i + 1)
unfolding boot_harts
harts_more entry i = rw add-one refl

pub ruleset hart_steps = (harts_none, harts_more)

pub places_none : (places : List ℕ) → places_with places [] ≡ places
unfolding places_with
places_none places = refl

pub places_more : (places numbers : List ℕ) (i d : ℕ) → i < length numbers → places_with places (drop i numbers) ≡ places_with (with_number (get_or numbers i d / 512) places) (drop (i + 1) numbers)
unfolding places_with
places_more places numbers i d h = rw (drop-cons numbers i d h, add-one) refl

pub places_done : (places numbers : List ℕ) (i : ℕ) → length numbers ≤ i → places_with places (drop i numbers) ≡ places
places_done places numbers i h = ap (places_with places) (drop_all i numbers h) ∙ places_none places

pub ruleset place_steps = (places_none, places_more, places_done)

-- the numbers of fresh pages
pub fresh_numbers : (pages : List DataPageValue) → map (λ (page : PageState). page.number) (map fresh_page pages) ≡ data_numbers pages
fresh_numbers [] = refl
fresh_numbers (page ∷ pages) = ap (λ (ns : List ℕ). page.number ∷ ns) (fresh_numbers pages)

all_front : (P : ℕ → Type 0) (xs ys : List ℕ) → AllByRecursion P (xs ++ ys) → AllByRecursion P xs
all_front P [] ys all = tt
all_front P (x ∷ xs) ys all = (all.0, all_front P xs ys all.1)

-- distinct numbers are so in each part
pub distinct_front : (xs ys : List ℕ) → IsDistinct nat_eq (xs ++ ys) → IsDistinct nat_eq xs
unfolding IsDistinct
distinct_front [] ys h = tt
distinct_front (x ∷ xs) ys h =
    (all_front (λ y. nat_eq x y ≡ false) xs ys (IsDistinct-head nat_eq x (xs ++ ys) h), distinct_front xs ys (IsDistinct-tail nat_eq x (xs ++ ys) h))

pub distinct_back : (xs ys : List ℕ) → IsDistinct nat_eq (xs ++ ys) → IsDistinct nat_eq ys
distinct_back [] ys h = h
distinct_back (x ∷ xs) ys h = distinct_back xs ys (IsDistinct-tail nat_eq x (xs ++ ys) h)

length-numbered_from : (birth : ℕ) (pages : List PageState) → length (numbered_from birth pages) ≡ length pages
unfolding numbered_from
length-numbered_from birth [] = refl
length-numbered_from birth (page ∷ pages) = ap suc (length-numbered_from (birth + 1) pages)

length-stacks_of : (n : ℕ) → length (stacks_of n) ≡ 4 * n
unfolding stacks_of
length-stacks_of zero = refl
length-stacks_of (suc n) = omega (arith, length-append (stacks_of n) (stack_of n), length-stacks_of n)

length-fresh : (pages : List DataPageValue) → length (map fresh_page pages) ≡ length pages
length-fresh [] = refl
length-fresh (page ∷ pages) = ap suc (length-fresh pages)

-- an image has fewer than 2 ^ 26 pages
pub text_few : (image : ImageValue) → IsImage image.text image.pages image.entry → length (boot_text image) ≤ 0x3E00000
text_few image is =
    omega (arith, length-sorted_by (λ (p : PageValue). p.number) image.text, length_distinct (λ (p : PageValue). p.number) 0x3E00000 image.text (distinct_front _ _ is.distinct) is.text_low)

pub pages_few : (image : ImageValue) (harts : ℕ) → IsImage image.text image.pages image.entry → harts ≤ 64 → length (boot_pages image harts) ≤ 0x3E00100
pages_few image harts is few =
    let sorted : List PageState = sorted_by (λ (p : PageState). p.number) (map fresh_page image.pages) in
    omega (
      arith,
      length-numbered_from 0 (sorted ++ stacks_of harts),
      length-append sorted (stacks_of harts),
      length-stacks_of harts,
      length-sorted_by (λ (p : PageState). p.number) (map fresh_page image.pages),
      length-fresh image.pages,
      length_distinct (λ (p : DataPageValue). p.number) 0x3E00000 image.pages (distinct_back _ _ is.distinct) is.data_low,
    )

pub places_few : (image : ImageValue) (harts : ℕ) → IsImage image.text image.pages image.entry → harts ≤ 64 → length (boot_reach image harts) ≤ 0x7C00100
places_few image harts is few =
    let text : List ℕ = text_numbers (boot_text image) in
    let pages : List ℕ = map (λ (p : PageState). p.number) (boot_pages image harts) in
    omega (
      arith,
      length-places_with (places_with [] text) pages,
      length-places_with [] text,
      length-map (λ (p : PageValue). p.number) (boot_text image),
      length-map (λ (p : PageState). p.number) (boot_pages image harts),
      text_few image is,
      pages_few image harts is few,
    )
