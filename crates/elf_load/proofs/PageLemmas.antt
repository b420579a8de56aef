-- Pages from the segments that meet them.
use Rattle.std.proofs.Common.{◌≡◌, ℕ, zero, suc, cond, ◌<◌, ◌≤◌, ◌+◌, ◌*◌, ◌/◌, List, [], ◌∷◌, ◌++◌, Bool, true, false, ◌||◌, ◌&&◌, refl, sym, ap, ◌∙◌, length, append-nil, arith}
use Rattle.std.specs.Prelude.{Some, map}
use Rattle.std.specs.List.{AllByRecursion, filter, find, list_any, range_with_len}
use Rattle.std.specs.Option.{option_map_or}
use Rattle.std.proofs.lemmas.Bool.Decides.{nat_tests}
use Rattle.elf_read.specs.declared.records.Segment.{Segment}
use Rattle.wf_outside.specs.Pages.{PageValue, DataPageValue}
use Rattle.elf_load.specs.Segments.{segment_end, meets, is_executable, is_writable, is_text, may_write}
use Rattle.elf_load.specs.Placing.{is_placeable, goes_before, AreInOrder}
use Rattle.elf_load.specs.Loaded.{covers, given, byte_at, bytes_at, words_in, page_words, loaded_text, loaded_data}
use Rattle.elf_load.proofs.FillingLemmas.{fits_memory}

-- what holds of each holds of each that is kept
all-filter : (P : Segment → Type 0) (q : Segment → Bool) (ss : List Segment) → AllByRecursion P ss → AllByRecursion P (filter q ss)
all-filter P q [] all = tt
all-filter P q (s ∷ ss) all = by_test (q s) (all-filter P q ss all.1)
  where
    by_test : (b : Bool) → AllByRecursion P (filter q ss) → AllByRecursion P (cond b (s ∷ filter q ss) (filter q ss))
    by_test true rest = (all.0, rest)
    by_test false rest = rest

pub rising-filter : (q : Segment → Bool) (ss : List Segment) → AreInOrder ss → AreInOrder (filter q ss)
rising-filter q [] rising = tt
rising-filter q (s ∷ ss) rising = by_test (q s) (rising-filter q ss rising.1)
  where
    by_test : (b : Bool) → AreInOrder (filter q ss) → AreInOrder (cond b (s ∷ filter q ss) (filter q ss))
    by_test true rest = (all-filter (λ t. goes_before s t ≡ true) q ss rising.0, rest)
    by_test false rest = rest

pub placeable-filter : (size : ℕ) (q : Segment → Bool) (ss : List Segment) → AllByRecursion (λ s. is_placeable size s ≡ true) ss → AllByRecursion (λ s. is_placeable size s ≡ true) (filter q ss)
placeable-filter size q ss each = all-filter (λ s. is_placeable size s ≡ true) q ss each

-- one of those that are kept passes
pub any-filter : (p q : Segment → Bool) (ss : List Segment) → list_any p (filter q ss) ≡ list_any (λ s. q s && p s) ss
any-filter p q [] = refl
any-filter p q (s ∷ ss) = by_test (q s) (any-filter p q ss)
  where
    by_test : (b : Bool) → list_any p (filter q ss) ≡ list_any (λ s. q s && p s) ss → list_any p (cond b (s ∷ filter q ss) (filter q ss)) ≡ ((b && p s) || list_any (λ s. q s && p s) ss)
    by_test true e = ap (λ b. p s || b) e
    by_test false e = e

-- the first that passes is kept
find-filter : (p q : Segment → Bool) (ss : List Segment) → AllByRecursion (λ s. p s ≡ true → q s ≡ true) ss → find p (filter q ss) ≡ find p ss
find-filter p q [] all = refl
find-filter p q (s ∷ ss) all = by_test (q s) (p s) refl refl (find-filter p q ss all.1)
  where
    by_test : (b c : Bool) → q s ≡ b → p s ≡ c → find p (filter q ss) ≡ find p ss → find p (cond b (s ∷ filter q ss) (filter q ss)) ≡ cond c (Some s) (find p ss)
    by_test true true b c e = rw c refl
    by_test true false b c e = rw c e
    by_test false true b c e = cc (all.0 c)
    by_test false false b c e = e

-- what holds an address of a page meets it
holds_meets : (size : ℕ) (s : Segment) (n a : ℕ) → is_placeable size s ≡ true → 4096 * n ≤ a → a < 4096 * n + 4096 → covers s a ≡ true → meets s n ≡ true
holds_meets size s n a h lo hi held =
    let fits : s.p_filesz ≤ s.p_memsz = fits_memory size s h in
    let from : s.p_vaddr ≤ a = grind (arith, nat_tests) in
    let to : a < s.p_vaddr + s.p_filesz = grind (arith, nat_tests) in
    meets_there (omega arith) (omega arith)
  where
    meets_there : s.p_vaddr / 4096 ≤ n → n < (segment_end s + 4095) / 4096 → meets s n ≡ true
    meets_there h k = grind (arith, nat_tests)

all_hold : (size : ℕ) (ss : List Segment) (n a : ℕ) → AllByRecursion (λ s. is_placeable size s ≡ true) ss → 4096 * n ≤ a → a < 4096 * n + 4096 → AllByRecursion (λ s. covers s a ≡ true → meets s n ≡ true) ss
all_hold size [] n a each lo hi = tt
all_hold size (s ∷ ss) n a each lo hi = (holds_meets size s n a each.0 lo hi, all_hold size ss n a each.1 lo hi)

map_alike : (f g : ℕ → ℕ) (a n : ℕ) → ((k : ℕ) → a ≤ k → k < a + n → f k ≡ g k) → map f (range_with_len a n) ≡ map g (range_with_len a n)
map_alike f g a zero h = refl
map_alike f g a (suc n) h =
    ap (λ b. b ∷ map f (range_with_len (a + 1) n)) (h a (omega arith) (omega arith)) ∙ ap (λ xs. g a ∷ xs) (map_alike f g (a + 1) n (λ k lo hi. h k (omega arith) (omega arith)))

pub bytes_alike : (file : List ℕ) (ss ts : List Segment) (a n : ℕ) → ((k : ℕ) → a ≤ k → k < a + n → byte_at file ss k ≡ byte_at file ts k) → bytes_at file ss a n ≡ bytes_at file ts a n
unfolding bytes_at
bytes_alike file ss ts a n h = map_alike (byte_at file ss) (byte_at file ts) a n h

-- the words of a page are those that the segments on it give
pub words-filter : (file : List ℕ) (ss : List Segment) (n : ℕ) → AllByRecursion (λ s. is_placeable (length file) s ≡ true) ss → page_words file (filter (λ s. meets s n) ss) n ≡ page_words file ss n
words-filter file ss n each =
    ap (words_in 512) (bytes_alike file (filter (λ s. meets s n) ss) ss (4096 * n) 4096
    (λ a lo hi. ap (λ o. option_map_or (λ s. given file s a) o 0) (find-filter (λ s. covers s a) (λ s. meets s n) ss (all_hold (length file) ss n a each lo hi))))

-- ---- what the segments on a page tell of it

text_told : (loads here : List Segment) (n : ℕ) → here ≡ filter (λ s. meets s n) loads → list_any is_executable here ≡ is_text loads n
text_told loads here n e = ap (list_any is_executable) e ∙ any-filter is_executable (λ s. meets s n) loads

write_told : (loads here : List Segment) (n : ℕ) → here ≡ filter (λ s. meets s n) loads → list_any is_writable here ≡ may_write loads n
write_told loads here n e = ap (list_any is_writable) e ∙ any-filter is_writable (λ s. meets s n) loads

words_told : (file : List ℕ) (loads here : List Segment) (n : ℕ) (words : List ℕ) → AllByRecursion (λ s. is_placeable (length file) s ≡ true) loads → here ≡ filter (λ s. meets s n) loads
    → words ≡ page_words file here n → words ≡ page_words file loads n
words_told file loads here n words each e f = f ∙ ap (λ ss. page_words file ss n) e ∙ words-filter file loads n each

-- a page of text
pub is_text_page : (file : List ℕ) (loads here : List Segment) (n : ℕ) (words : List ℕ) (text : Bool) → AllByRecursion (λ s. is_placeable (length file) s ≡ true) loads
    → here ≡ filter (λ s. meets s n) loads → words ≡ page_words file here n → text ≡ list_any is_executable here → text ≡ true → (before : List PageValue)
    → (let page : PageValue = record { number = n; words = words } in before ++ page ∷ [] ≡ before ++ cond (is_text loads n) (loaded_text file loads n ∷ []) [])
is_text_page file loads here n words text each e f g h before =
    let t : is_text loads n ≡ true = sym (text_told loads here n e) ∙ sym g ∙ h in
    let w : words ≡ page_words file loads n = words_told file loads here n words each e f in
    rw (t, w) refl

pub no_data_page : (file : List ℕ) (loads here : List Segment) (n : ℕ) (text : Bool) → here ≡ filter (λ s. meets s n) loads → text ≡ list_any is_executable here → text ≡ true → (before : List DataPageValue)
    → before ≡ before ++ cond (is_text loads n) [] (loaded_data file loads n ∷ [])
no_data_page file loads here n text e g h before =
    let t : is_text loads n ≡ true = sym (text_told loads here n e) ∙ sym g ∙ h in
    rw t (sym (append-nil before))

-- a page of data
pub is_data_page : (file : List ℕ) (loads here : List Segment) (n : ℕ) (words : List ℕ) (text write : Bool) → AllByRecursion (λ s. is_placeable (length file) s ≡ true) loads
    → here ≡ filter (λ s. meets s n) loads → words ≡ page_words file here n → text ≡ list_any is_executable here → write ≡ list_any is_writable here → text ≡ false → (before : List DataPageValue)
    → (let page : DataPageValue = record { number = n; write = write; words = words } in before ++ page ∷ [] ≡ before ++ cond (is_text loads n) [] (loaded_data file loads n ∷ []))
is_data_page file loads here n words text write each e f g i h before =
    let t : is_text loads n ≡ false = sym (text_told loads here n e) ∙ sym g ∙ h in
    let w : words ≡ page_words file loads n = words_told file loads here n words each e f in
    let m : write ≡ may_write loads n = i ∙ write_told loads here n e in
    rw (t, w, m) refl

pub no_text_page : (file : List ℕ) (loads here : List Segment) (n : ℕ) (text : Bool) → here ≡ filter (λ s. meets s n) loads → text ≡ list_any is_executable here → text ≡ false → (before : List PageValue)
    → before ≡ before ++ cond (is_text loads n) (loaded_text file loads n ∷ []) []
no_text_page file loads here n text e g h before =
    let t : is_text loads n ≡ false = sym (text_told loads here n e) ∙ sym g ∙ h in
    rw t (sym (append-nil before))
