-- The bytes of a page.
use Rattle.std.proofs.Common.{◌≡◌, ℕ, zero, suc, cond, ◌<◌, ◌≤◌, ◌+◌, ◌-◌, ◌*◌, max, min, List, [], ◌∷◌, ◌++◌, Bool, true, false, ◌&&◌, refl, sym, ap, ◌∙◌, length, take, drop, get_or, arith}
use Rattle.std.specs.Prelude.{nat_le, nat_lt}
use borrow.Rule.Slice.PartMut.{put_mid, post_of}
use Rattle.std.specs.Prelude.{Option, None, Some, map}
use Rattle.std.specs.List.{AllByRecursion, slice_range, find, range_with_len}
use Rattle.std.specs.Option.{option_map_or, option_or}
use Rattle.std.proofs.lemmas.List.{ext_get_or, take_more}
use Rattle.std.proofs.lemmas.List.FromFn.{length-map-range_with_len, get_or-map-range_with_len}
use Rattle.byteorder.specs.Endian.{little_number, IsRead}
use Rattle.std.proofs.lemmas.Bool.Decides.{nat_tests}
use Rattle.std.proofs.lemmas.Grind.{common_steps}
use Rattle.elf_read.specs.declared.records.Segment.{Segment}
use Rattle.elf_load.specs.Segments.{segment_end}
use Rattle.elf_load.specs.Placing.{is_placeable, goes_before, AreInOrder}
use Rattle.elf_load.specs.Loaded.{covers, given, byte_at, bytes_at, words_in}
use Rattle.elf_load.proofs.PlacingLemmas.{goes_ends}
use Rattle.elf_load.proofs.OnPageLemmas.{all_at}

-- ---- a part of a list is overwritten

over_below : (xs ys zs : List ℕ) (a k : ℕ) → a ≤ length xs → k < a → get_or (take a xs ++ (ys ++ zs)) k 0 ≡ get_or xs k 0
over_below xs ys zs a k le lt = grind (arith, common_steps)

over_within : (xs ys zs : List ℕ) (a k : ℕ) → a ≤ length xs → a ≤ k → k < a + length ys → get_or (take a xs ++ (ys ++ zs)) k 0 ≡ get_or ys (k - a) 0
over_within xs ys zs a k le lo lt = grind (arith, common_steps)

over_above : (xs ys : List ℕ) (a n k : ℕ) → a + n ≤ length xs → n ≡ length ys → a + n ≤ k → get_or (put_mid a n xs ys) k 0 ≡ get_or xs k 0
over_above xs ys a n k le e lo = grind (arith, common_steps)

-- an element of a part of a part
part_of : (file : List ℕ) (o f a b k : ℕ) → o + f ≤ length file → a ≤ b → b ≤ f → k < b - a → get_or (slice_range (slice_range file o (o + f)) a b) k 0 ≡ get_or file (o + (a + k)) 0
part_of file o f a b k in_file le lt h = grind (arith, common_steps)

-- what stands in a page once a part is copied there
pub part_copied : (file page copied : List ℕ) (s : Segment) (start from to k : ℕ) → length page ≡ 4096 → s.p_offset + s.p_filesz ≤ length file
    → from ≡ max s.p_vaddr start → to ≡ min (s.p_vaddr + s.p_filesz) (start + 4096) → from < to
    → copied ≡ slice_range (slice_range file s.p_offset (s.p_offset + s.p_filesz)) (from - s.p_vaddr) (to - s.p_vaddr) → length copied ≡ to - from → k < 4096
    → get_or (put_mid (from - start) (to - start - (from - start)) page copied) k 0 ≡ cond (covers s (start + k)) (given file s (start + k)) (get_or page k 0)
part_copied file page copied s start from to k whole in_file f t lt e size h = by_place (nat_lt (start + k) from) (nat_lt (start + k) to) refl refl
  where
    by_place : (b c : Bool) → nat_lt (start + k) from ≡ b → nat_lt (start + k) to ≡ c
        → get_or (put_mid (from - start) (to - start - (from - start)) page copied) k 0 ≡ cond (covers s (start + k)) (given file s (start + k)) (get_or page k 0)
    by_place true c b d =
        let out : covers s (start + k) ≡ false = grind (arith, nat_tests) in
        let below : k < from - start = grind (arith, nat_tests) in
        rw out (over_below page copied (post_of (from - start) (to - start - (from - start)) page) (from - start) k (omega arith) below)
    by_place false true b d =
        let out : covers s (start + k) ≡ true = grind (arith, nat_tests) in
        let lo : from - start ≤ k = grind (arith, nat_tests) in
        let hi : k < to - start = grind (arith, nat_tests) in
        rw out (over_within page copied (post_of (from - start) (to - start - (from - start)) page) (from - start) k (omega arith) lo (omega arith)
        ∙ ap (λ xs. get_or xs (k - (from - start)) 0) e
        ∙ part_of file s.p_offset s.p_filesz (from - s.p_vaddr) (to - s.p_vaddr) (k - (from - start)) in_file (omega arith) (omega arith) (omega arith)
        ∙ ap (λ n. get_or file n 0) (omega arith))
    by_place false false b d =
        let out : covers s (start + k) ≡ false = grind (arith, nat_tests) in
        let hi : to - start ≤ k = grind (arith, nat_tests) in
        rw out (over_above page copied (from - start) (to - start - (from - start)) k (omega arith) (omega arith) (omega arith))

-- what is placed lies in the file, and in its memory
pub lies_in_file : (size : ℕ) (s : Segment) → is_placeable size s ≡ true → s.p_offset + s.p_filesz ≤ size
lies_in_file size s h = lies _ (s.p_offset + s.p_filesz) size _ h
  where
    lies : (a : Bool) (m n : ℕ) (b : Bool) → ((a && nat_le m n) && b) ≡ true → m ≤ n
    lies a m n b e = grind (arith, nat_tests)

pub fits_memory : (size : ℕ) (s : Segment) → is_placeable size s ≡ true → s.p_filesz ≤ s.p_memsz
fits_memory size s h = fits _ s.p_filesz s.p_memsz h
  where
    fits : (a : Bool) (m n : ℕ) → (a && nat_le m n) ≡ true → m ≤ n
    fits a m n e = grind (arith, nat_tests)

-- ---- the segments on a page give its bytes one after another

pub find_none : (p : Segment → Bool) (ss : List Segment) → AllByRecursion (λ s. p s ≡ false) ss → find p ss ≡ None
find_none p [] none = refl
find_none p (s ∷ ss) none = rw none.0 (find_none p ss none.1)

pub find-push : (p : Segment → Bool) (ss : List Segment) (s : Segment) → find p (ss ++ s ∷ []) ≡ option_or (find p ss) (cond (p s) (Some s) None)
find-push p [] s = refl
find-push p (t ∷ ss) s = by_test (p t) (find-push p ss s)
  where
    by_test : (b : Bool) → find p (ss ++ s ∷ []) ≡ option_or (find p ss) (cond (p s) (Some s) None)
        → cond b (Some t) (find p (ss ++ s ∷ [])) ≡ option_or (cond b (Some t) (find p ss)) (cond (p s) (Some s) None)
    by_test true e = refl
    by_test false e = e

-- what goes before a segment holds none of the addresses that the segment holds
pub holds_apart : (size : ℕ) (t s : Segment) (a : ℕ) → is_placeable size t ≡ true → goes_before t s ≡ true → covers s a ≡ true → covers t a ≡ false
holds_apart size t s a h before held =
    let ends : segment_end t ≤ s.p_vaddr = goes_ends t s before in
    let fits : t.p_filesz ≤ t.p_memsz = fits_memory size t h in
    grind (arith, nat_tests)

none_holds : (size : ℕ) (ss : List Segment) (i : ℕ) (d : Segment) (a : ℕ) → AreInOrder ss → AllByRecursion (λ s. is_placeable size s ≡ true) ss → i < length ss → covers (get_or ss i d) a ≡ true
    → AllByRecursion (λ t. covers t a ≡ false) (take i ss)
none_holds size [] i d a rising each lt held = absurd (omega arith)
none_holds size (s ∷ ss) zero d a rising each lt held = tt
none_holds size (s ∷ ss) (suc i) d a rising each lt held =
    (holds_apart size s (get_or ss i d) a each.0 (all_at (λ t. goes_before s t ≡ true) ss i d rising.0 (omega arith)) held, none_holds size ss i d a rising.1 each.1 (omega arith) held)

-- one more segment gives the bytes that it holds
byte_at-more : (file : List ℕ) (size : ℕ) (ss : List Segment) (i : ℕ) (d : Segment) (a : ℕ) → AreInOrder ss → AllByRecursion (λ s. is_placeable size s ≡ true) ss → i < length ss
    → byte_at file (take (i + 1) ss) a ≡ cond (covers (get_or ss i d) a) (given file (get_or ss i d) a) (byte_at file (take i ss) a)
byte_at-more file size ss i d a rising each lt =
    ap (λ ts. byte_at file ts a) (take_more ss i d lt) ∙ ap (λ o. option_map_or (λ s. given file s a) o 0) (find-push (λ s. covers s a) (take i ss) (get_or ss i d)) ∙ by_test (covers (get_or ss i d) a) refl
  where
    by_test : (b : Bool) → covers (get_or ss i d) a ≡ b
        → option_map_or (λ s. given file s a) (option_or (find (λ s. covers s a) (take i ss)) (cond b (Some (get_or ss i d)) None)) 0
        ≡ cond b (given file (get_or ss i d) a) (option_map_or (λ s. given file s a) (find (λ s. covers s a) (take i ss)) 0)
    by_test true e = rw (find_none (λ s. covers s a) (take i ss) (none_holds size ss i d a rising each lt e)) refl
    by_test false e = or_none (find (λ s. covers s a) (take i ss))
      where
        or_none : (o : Option Segment) → option_map_or (λ s. given file s a) (option_or o None) 0 ≡ option_map_or (λ s. given file s a) o 0
        or_none None = refl
        or_none (Some s) = refl

pub byte_step : (file : List ℕ) (size : ℕ) (ss : List Segment) (i : ℕ) (d : Segment) (a old new : ℕ) → AreInOrder ss → AllByRecursion (λ s. is_placeable size s ≡ true) ss → i < length ss
    → new ≡ cond (covers (get_or ss i d) a) (given file (get_or ss i d) a) old → old ≡ byte_at file (take i ss) a → new ≡ byte_at file (take (i + 1) ss) a
byte_step file size ss i d a old new rising each lt e f =
    e ∙ ap (cond (covers (get_or ss i d) a) (given file (get_or ss i d) a)) f ∙ sym (byte_at-more file size ss i d a rising each lt)

-- ---- lists told by their elements

from_range : (f : ℕ → ℕ) (a n : ℕ) (xs : List ℕ) → length xs ≡ n → ((k : ℕ) → k < n → get_or xs k 0 ≡ f (a + k)) → xs ≡ map f (range_with_len a n)
from_range f a n xs size each =
    ext_get_or 0 xs (map f (range_with_len a n)) (size ∙ sym (length-map-range_with_len f a n))
    (λ k lt. each k (omega arith) ∙ sym (get_or-map-range_with_len f a n k (a + k) 0 (omega arith) refl))

pub bytes_told : (file : List ℕ) (loads : List Segment) (a n : ℕ) (xs : List ℕ) → length xs ≡ n → ((k : ℕ) → k < n → get_or xs k 0 ≡ byte_at file loads (a + k)) → xs ≡ bytes_at file loads a n
unfolding bytes_at
bytes_told file loads a n xs size each = from_range (byte_at file loads) a n xs size each

pub words_told : (bytes : List ℕ) (n : ℕ) (xs : List ℕ) → length xs ≡ n → IsRead little_number 8 bytes xs → xs ≡ words_in n bytes
unfolding words_in
words_told bytes n xs size each =
    from_range (λ k. little_number 8 (drop (8 * k) bytes)) 0 n xs size (λ k lt. each k (omega arith) ∙ ap (λ m. little_number 8 (drop (8 * m) bytes)) (omega arith))
