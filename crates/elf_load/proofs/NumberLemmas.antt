-- The numbers of pages.
use Rattle.std.proofs.Common.{◌≡◌, ℕ, cond, ◌<◌, ◌≤◌, List, [], ◌∷◌, Bool, true, false, not, ◌||◌, ◌&&◌, refl, sym, ap, ◌∙◌, length, take, take_all, get_or, arith, map}
use Rattle.std.specs.Prelude.{◌-◌, None, Some, slice_get}
use Rattle.std.specs.List.{All, filter, range_with_len, last_or}
use Rattle.std.proofs.lemmas.List.Elements.{All-filter, All-get_or, filter_agree, All-from_get_or}
use Rattle.std.proofs.lemmas.List.FromFn.{length-range_with_len, get_or-range_with_len}
use Rattle.elf_read.specs.declared.records.Segment.{Segment}
use Rattle.elf_load.specs.Segments.{meets, is_executable, is_met, is_text, is_data}
use Rattle.elf_load.specs.Loaded.{pages_below}

-- they are low
pub below_low : (n : ℕ) (p : ℕ → Bool) → All (λ k. k < n) (pages_below n p)
unfolding pages_below
below_low n p = All-filter p (λ k. k < n) (range_with_len 0 n) (All-from_get_or (λ k. k < n) (range_with_len 0 n) 0 (λ i lt. low i lt))
  where
    low : (i : ℕ) → i < length (range_with_len 0 n) → get_or (range_with_len 0 n) i 0 < n
    low i lt = let h : i < n = omega (arith, lt, length-range_with_len 0 n) in omega (arith, get_or-range_with_len 0 n i 0 h)

pub number_low : (n i : ℕ) (p : ℕ → Bool) (numbers : List ℕ) → numbers ≡ pages_below n p → i < length numbers → get_or numbers i 0 < n
number_low n i p numbers e lt = rw (sym e) at (λ (h : i < length (pages_below n p)). All-get_or (λ k. k < n) (pages_below n p) i 0 h (below_low n p)) lt

filter-filter : (p q : ℕ → Bool) (xs : List ℕ) → filter p (filter q xs) ≡ filter (λ x. q x && p x) xs
filter-filter p q [] = refl
filter-filter p q (x ∷ xs) = by_test (q x) (p x) refl (filter-filter p q xs)
  where
    by_test : (b c : Bool) → p x ≡ c → filter p (filter q xs) ≡ filter (λ x. q x && p x) xs
        → filter p (cond b (x ∷ filter q xs) (filter q xs)) ≡ cond (b && c) (x ∷ filter (λ x. q x && p x) xs) (filter (λ x. q x && p x) xs)
    by_test true true c e = rw c (ap (λ ys. x ∷ ys) e)
    by_test true false c e = rw c e
    by_test false true c e = e
    by_test false false c e = e

-- what is text is met
pub text_met : (loads : List Segment) (n : ℕ) → is_text loads n ≡ true → is_met loads n ≡ true
text_met [] n h = h
text_met (s ∷ ss) n h = by_test (meets s n) (is_executable s) (is_text ss n) (is_met ss n) h (text_met ss n)
  where
    by_test : (b c d e : Bool) → ((b && c) || d) ≡ true → (d ≡ true → e ≡ true) → (b || e) ≡ true
    by_test b c d e h k = grind arith

-- the numbers of pages of text, of those that are met
text_below : (n : ℕ) (loads : List Segment) → filter (is_text loads) (pages_below n (is_met loads)) ≡ pages_below n (is_text loads)
unfolding pages_below
text_below n loads =
    filter-filter (is_text loads) (is_met loads) (range_with_len 0 n) ∙ filter_agree (λ k. is_met loads k && is_text loads k) (is_text loads) (λ k. agree (is_met loads k) (is_text loads k) (text_met loads k)) (range_with_len 0 n)
  where
    agree : (b c : Bool) → (c ≡ true → b ≡ true) → (b && c) ≡ c
    agree b c h = grind arith

data_below : (n : ℕ) (loads : List Segment) → filter (λ k. not (is_text loads k)) (pages_below n (is_met loads)) ≡ pages_below n (is_data loads)
unfolding pages_below
data_below n loads = filter-filter (λ k. not (is_text loads k)) (is_met loads) (range_with_len 0 n)

-- all are sorted into text and data
pub text_done : {A : Type 0} (f : ℕ → A) (n i : ℕ) (loads : List Segment) (numbers : List ℕ) (pages : List A) → numbers ≡ pages_below n (is_met loads) → length numbers ≤ i
    → pages ≡ map f (filter (is_text loads) (take i numbers)) → pages ≡ map f (pages_below n (is_text loads))
text_done f n i loads numbers pages e done h = h ∙ ap (λ xs. map f (filter (is_text loads) xs)) (take_all i numbers done ∙ e) ∙ ap (map f) (text_below n loads)

pub data_done : {A : Type 0} (f : ℕ → A) (n i : ℕ) (loads : List Segment) (numbers : List ℕ) (pages : List A) → numbers ≡ pages_below n (is_met loads) → length numbers ≤ i
    → pages ≡ map f (filter (λ k. not (is_text loads k)) (take i numbers)) → pages ≡ map f (pages_below n (is_data loads))
data_done f n i loads numbers pages e done h = h ∙ ap (λ xs. map f (filter (λ k. not (is_text loads k)) xs)) (take_all i numbers done ∙ e) ∙ ap (map f) (data_below n loads)

-- the last of them
pub last_got : (numbers : List ℕ) → slice_get numbers (length numbers - 1) ≡ last_or None numbers
last_got [] = refl
last_got (n ∷ ns) = ap (slice_get (n ∷ ns)) (omega arith) ∙ got n ns
  where
    got : (n : ℕ) (ns : List ℕ) → slice_get (n ∷ ns) (length ns) ≡ last_or (Some n) ns
    got n [] = refl
    got n (m ∷ ns) = got m ns
