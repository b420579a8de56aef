-- The kernel's own actor maps the pages of a patch, and a generation is born with it.
use Rattle.std.proofs.Common.{◌≡◌, ◌≢◌, ◌<◌, ◌≤◌, ◌+◌, ◌==◌, ◌&&◌, ◌||◌, ◌++◌, ℕ, List, [], ◌∷◌, Bool, true, false, map, refl, sym, ap, subst, ◌∙◌, inl, inr, arith, is_some, nat_eq, append-nil, append_assoc, if◌then◌else◌}
use Rattle.std.specs.List.{AllByRecursion, IsDistinct, fold, list_any, range_with_len}
use Rattle.std.proofs.lemmas.Bool.{cases_lt}
use Rattle.std.proofs.lemmas.Bool.Decides.{nat_tests}
use Rattle.wf_outside.specs.Images.{data_numbers}
use Rattle.wf_outside.specs.Pages.{DataPageValue, IsPage}
use Rattle.wf_flat.specs.Lists.{inserted_by, sorted_by}
use Rattle.wf_flat.specs.Memory.{page_in}
use Rattle.wf_flat.specs.State.{GenState}
use Rattle.wf_effects.specs.declared.ranges.PageRun.{PageRun}
use Rattle.wf_effects.specs.Effects.{reaching}
use Rattle.wf_effects.specs.Ranges.{continues, longer, run_of, runs_of, with_behind}
use Rattle.wf_sound.specs.Sound.{run_numbers}
use Rattle.wf_flat.proofs.ListLemmas.{all_append}
use Rattle.wf_flat.proofs.BootLemmas.{distinct_back, distinct_front}
use Rattle.wf_effects.proofs.MappedLemmas.{range_more}
use Rattle.wf_sound.proofs.AllLemmas.{all_back, all_front, all_more, distinct_apart, distinct_both, inserted_here, inserted_past}

is_behind : (x y : ℕ) (b : Bool) → ((x == y) && b) ≡ true → x ≡ y
is_behind x y b e = grind (arith, nat_tests)

last_run : (run : PageRun) (page : DataPageValue) (b : Bool) → (b ≡ true → run.first + run.count ≡ page.number)
    → run_numbers (if b then longer run ∷ [] else run ∷ run_of page ∷ []) ≡ (range_with_len run.first run.count ++ []) ++ page.number ∷ []
last_run run page true h =
    append-nil (range_with_len run.first (run.count + 1))
    ∙ sym (range_more run.first run.count)
    ∙ ap (λ (k : ℕ). range_with_len run.first run.count ++ k ∷ []) (h refl)
    ∙ ap (λ (ks : List ℕ). ks ++ page.number ∷ []) (sym (append-nil (range_with_len run.first run.count)))
last_run run page false h = sym (append_assoc (range_with_len run.first run.count) [] (page.number ∷ []))

one_behind : (runs : List PageRun) (page : DataPageValue) → run_numbers (with_behind runs page) ≡ run_numbers runs ++ page.number ∷ []
one_behind [] page = refl
one_behind (run ∷ []) page = last_run run page (continues run page) (λ e. is_behind (run.first + run.count) page.number _ e)
one_behind (run ∷ next ∷ runs) page =
    ap (λ (ks : List ℕ). range_with_len run.first run.count ++ ks) (one_behind (next ∷ runs) page)
    ∙ sym (append_assoc (range_with_len run.first run.count) (run_numbers (next ∷ runs)) (page.number ∷ []))

all_behind : (runs : List PageRun) (pages : List DataPageValue) → run_numbers (fold with_behind runs pages) ≡ run_numbers runs ++ data_numbers pages
all_behind runs [] = sym (append-nil (run_numbers runs))
all_behind runs (page ∷ pages) =
    all_behind (with_behind runs page) pages
    ∙ ap (λ (ks : List ℕ). ks ++ data_numbers pages) (one_behind runs page)
    ∙ append_assoc (run_numbers runs) (page.number ∷ []) (data_numbers pages)

-- the runs of pages have their numbers
pub runs_numbers : (pages : List DataPageValue) → run_numbers (runs_of pages) ≡ data_numbers pages
runs_numbers pages = all_behind [] pages

abbrev IsLow : PageRun → Type 0
IsLow run = run.first + run.count ≤ 67108864

low_last : (run : PageRun) (page : DataPageValue) (b : Bool) → (b ≡ true → run.first + run.count ≡ page.number) → IsLow run → page.number < 67108864 → AllByRecursion IsLow (if b then longer run ∷ [] else run ∷ run_of page ∷ [])
low_last run page true h low lt = let e : run.first + run.count ≡ page.number = h refl in (omega arith, tt)
low_last run page false h low lt = (low, (omega arith, tt))

low_behind : (runs : List PageRun) (page : DataPageValue) → AllByRecursion IsLow runs → page.number < 67108864 → AllByRecursion IsLow (with_behind runs page)
low_behind [] page low lt = (omega arith, tt)
low_behind (run ∷ []) page low lt = low_last run page (continues run page) (λ e. is_behind (run.first + run.count) page.number _ e) low.0 lt
low_behind (run ∷ next ∷ runs) page low lt = (low.0, low_behind (next ∷ runs) page low.1 lt)

low_all : (runs : List PageRun) (pages : List DataPageValue) → AllByRecursion IsLow runs → AllByRecursion (λ page. IsPage page.number page.words) pages → AllByRecursion IsLow (fold with_behind runs pages)
low_all runs [] low pages = low
low_all runs (page ∷ more) low pages = low_all (with_behind runs page) more (low_behind runs page low pages.0.low) pages.1

-- they end below the last address
pub runs_low : (pages : List DataPageValue) → AllByRecursion (λ page. IsPage page.number page.words) pages → AllByRecursion (λ run. run.first + run.count ≤ 67108864) (runs_of pages)
runs_low pages all = low_all [] pages tt all

all_uninserted : (P : ℕ → Type 0) (x : ℕ) (ys : List ℕ) → AllByRecursion P (inserted_by (λ n. n) x ys) → P x × AllByRecursion P ys
all_uninserted P x [] all = (all.0, tt)
all_uninserted P x (y ∷ ys) all = elim (cases_lt y x) [
  | inl lt ↦ (let e : AllByRecursion P (y ∷ inserted_by (λ n. n) x ys) = subst (AllByRecursion P) (inserted_past (λ (n : ℕ). n) x y ys lt) all in let rest = all_uninserted P x ys e.1 in (rest.0, (e.0, rest.1)))
  | inr le ↦ (let e : AllByRecursion P (x ∷ y ∷ ys) = subst (AllByRecursion P) (inserted_here (λ (n : ℕ). n) x y ys le) all in (e.0, e.1))
]

-- what holds of numbers that were sorted holds of them
pub all_unsorted : (P : ℕ → Type 0) (ns : List ℕ) → AllByRecursion P (sorted_by (λ n. n) ns) → AllByRecursion P ns
all_unsorted P [] all = tt
all_unsorted P (n ∷ ns) all = let w = all_uninserted P n (sorted_by (λ n. n) ns) all in (w.0, all_unsorted P ns w.1)

all_swap : {A B : Type 0} (R : A → B → Type 0) (xs : List A) (ys : List B) → AllByRecursion (λ x. AllByRecursion (λ y. R x y) ys) xs → AllByRecursion (λ y. AllByRecursion (λ x. R x y) xs) ys
all_swap R xs [] all = tt
all_swap R xs (y ∷ ys) all = (all_more (λ x. AllByRecursion (λ z. R x z) (y ∷ ys)) (λ x. R x y) (λ x h. h.0) xs all, all_swap R xs ys (all_more (λ x. AllByRecursion (λ z. R x z) (y ∷ ys)) (λ x. AllByRecursion (λ z. R x z) ys) (λ x h. h.1) xs all))

-- numbers without those in the middle
pub distinct_ends : (xs ys zs : List ℕ) → IsDistinct nat_eq (xs ++ (ys ++ zs)) → IsDistinct nat_eq (xs ++ zs)
distinct_ends xs ys zs d =
    distinct_both xs zs (distinct_front xs (ys ++ zs) d) (distinct_back ys zs (distinct_back xs (ys ++ zs) d))
    (all_more (λ x. AllByRecursion (λ y. nat_eq x y ≡ false) (ys ++ zs)) (λ x. AllByRecursion (λ y. nat_eq x y ≡ false) zs) (λ x h. all_back (λ y. nat_eq x y ≡ false) ys zs h) xs (distinct_apart xs (ys ++ zs) d))

not_same : (a b : ℕ) → nat_eq a b ≡ false → b ≢ a
not_same a b e = grind (arith, nat_tests)

not_equal : (a b : ℕ) → nat_eq a b ≡ false → a ≢ b
not_equal a b e = grind (arith, nat_tests)

-- those of the middle are none of the others
pub middle_apart : (xs ys zs : List ℕ) → IsDistinct nat_eq (xs ++ (ys ++ zs)) → AllByRecursion (λ m. AllByRecursion (λ k. k ≢ m) ys) (xs ++ zs)
middle_apart xs ys zs d = all_append (λ m. AllByRecursion (λ k. k ≢ m) ys) xs zs
    (all_more (λ x. AllByRecursion (λ y. nat_eq x y ≡ false) (ys ++ zs)) (λ m. AllByRecursion (λ k. k ≢ m) ys) (λ x h. all_more (λ y. nat_eq x y ≡ false) (λ k. k ≢ x) (λ y e. not_same x y e) ys (all_front (λ y. nat_eq x y ≡ false) ys zs h)) xs (distinct_apart xs (ys ++ zs) d))
    (all_swap (λ k m. k ≢ m) ys zs (all_more (λ k. AllByRecursion (λ m. nat_eq k m ≡ false) zs) (λ k. AllByRecursion (λ m. k ≢ m) zs) (λ k h. all_more (λ m. nat_eq k m ≡ false) (λ m. k ≢ m) (λ m e. not_equal k m e) zs h) ys (distinct_apart ys zs (distinct_back xs (ys ++ zs) d))))

pub live_text_kept : (gens : List GenState) (numbers : List ℕ) (m : ℕ) → list_any (λ gen. gen.live && is_some (page_in gen.text m)) (map (reaching numbers) gens) ≡ list_any (λ gen. gen.live && is_some (page_in gen.text m)) gens
live_text_kept [] numbers m = refl
live_text_kept (gen ∷ gens) numbers m = ap (λ (b : Bool). (gen.live && is_some (page_in gen.text m)) || b) (live_text_kept gens numbers m)
