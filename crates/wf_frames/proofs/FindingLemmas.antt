-- What a search among the places of what is true finds.
use Rattle.std.proofs.Common.{◌≡◌, ◌<◌, ◌≤◌, ◌+◌, ℕ, zero, suc, List, [], ◌∷◌, Bool, true, false, Option, Some, None, Ok, Err, length, get_or, refl, sym, ap, ◌∙◌, subst, arith, inl, inr, slice_get, Bor}
use Rattle.std.specs.Ordering.{nat_cmp}
use Rattle.std.specs.List.{insert, remove}
use Rattle.std.specs.List.Sorted.{IsBinarySearchResult}
use Rattle.std.proofs.Math.ListN.{set}
use Rattle.std.proofs.lemmas.Bool.{cases_lt, false≢true}
use Rattle.std.proofs.lemmas.Option.{slice_get_past, slice_get-get_or}
use Rattle.std.specs.Prelude.{option_copied, IsSome, IfSome, ◌↔◌}
use Rattle.std.proofs.lemmas.Bool.Decides.{nat_tests}
use Rattle.std.proofs.lemmas.List.Sorted.{searched}
use Rattle.wf_frames.specs.Frames.{places_from, first_from}
use Rattle.wf_frames.proofs.PlaceLemmas.{place_le, place_lt, place_rises, stands, is_true_at, place_removed, place_inserted}

pub rises : (bs : List Bool) (xs : List ℕ) → xs ≡ places_from 0 bs → (i j : ℕ) → i ≤ j → j < length xs → get_or xs i 0 ≤ get_or xs j 0
rises bs xs e = subst (λ ys. (i j : ℕ) → i ≤ j → j < length ys → get_or ys i 0 ≤ get_or ys j 0) (sym e) (place_le bs 0)

-- a place that is found is that of the number, and is taken out
pub found_out : (bs : List Bool) (xs : List ℕ) (n k : ℕ) → xs ≡ places_from 0 bs → IsBinarySearchResult (λ y. nat_cmp y n) xs (Ok k) → remove xs k ≡ places_from 0 (set bs n false)
found_out bs xs n k e r =
    let w = searched xs n (Ok k) r (rises bs xs e) in
    let lt : k < length (places_from 0 bs) = subst (λ ys. k < length ys) e w.0 in
    let at : get_or (places_from 0 bs) k 0 ≡ n = subst (λ ys. get_or ys k 0 ≡ n) e w.1 in
    ap (λ ys. remove ys k) e ∙ place_removed bs 0 n k lt (omega arith)

-- what is true is found
pub not_missed : (bs : List Bool) (xs : List ℕ) (n k : ℕ) → xs ≡ places_from 0 bs → get_or bs n false ≡ true → IsBinarySearchResult (λ y. nat_cmp y n) xs (Err k) → ⊥
not_missed bs xs n k e h r =
    let w = searched xs n (Err k) r (rises bs xs e) in
    let s = stands bs 0 n h in
    let lt : s.0 < length xs = subst (λ ys. s.0 < length ys) (sym e) s.1 in
    let at : get_or xs s.0 0 ≡ n = subst (λ ys. get_or ys s.0 0 ≡ n) (sym e) (omega arith) in
    elim (cases_lt s.0 k) [
      | inl before ↦ (let b = w.1 s.0 before in omega arith)
      | inr behind ↦ (let b = w.2 s.0 behind lt in omega arith)
    ]

-- what is false isn't found
pub not_found : (bs : List Bool) (xs : List ℕ) (n k : ℕ) → xs ≡ places_from 0 bs → get_or bs n false ≡ false → IsBinarySearchResult (λ y. nat_cmp y n) xs (Ok k) → ⊥
not_found bs xs n k e h r =
    let w = searched xs n (Ok k) r (rises bs xs e) in
    let lt : k < length (places_from 0 bs) = subst (λ ys. k < length ys) e w.0 in
    let at : get_or (places_from 0 bs) k 0 ≡ n = subst (λ ys. get_or ys k 0 ≡ n) e w.1 in
    let t = is_true_at bs 0 n k lt (omega arith) in
    absurd (cc)

-- and its place is where it is put in
pub found_in : (bs : List Bool) (xs : List ℕ) (n k : ℕ) → xs ≡ places_from 0 bs → n < length bs → get_or bs n false ≡ false → IsBinarySearchResult (λ y. nat_cmp y n) xs (Err k) → insert xs k n ≡ places_from 0 (set bs n true)
found_in bs xs n k e h f r =
    let w = searched xs n (Err k) r (rises bs xs e) in
    let w' = subst (λ ys. (k ≤ length ys) × ((j : ℕ) → j < k → get_or ys j 0 < n) × ((j : ℕ) → k ≤ j → j < length ys → n < get_or ys j 0)) e w in
    let z : 0 + n ≡ n = omega arith in
    ap (λ ys. insert ys k n) e ∙ ap (λ v. insert (places_from 0 bs) k v) (sym z)
    ∙ place_inserted bs 0 n k h f w'.0 (λ j lt. let b = w'.1 j lt in omega arith) (λ j ge lt. let b = w'.2 j ge lt in omega arith)

first_here : (x : ℕ) (xs : List ℕ) (from : ℕ) → from ≤ x → Some x ≡ first_from from (x ∷ xs)
first_here x xs from h = grind (arith, nat_tests)

first_past : (x : ℕ) (xs : List ℕ) (from : ℕ) → x < from → first_from from xs ≡ first_from from (x ∷ xs)
first_past x xs from h = grind (arith, nat_tests)

-- the first at or above a number stands behind all that are below it
pub first_is : (xs : List ℕ) (from k : ℕ) → k ≤ length xs → ((j : ℕ) → j < k → get_or xs j 0 < from) → ((j : ℕ) → k ≤ j → j < length xs → from ≤ get_or xs j 0) → slice_get xs k ≡ first_from from xs
first_is [] from zero le before behind = refl
first_is [] from (suc k) le before behind = absurd (omega arith)
first_is (x ∷ xs) from zero le before behind = let b = behind 0 (omega arith) (omega arith) in first_here x xs from b
first_is (x ∷ xs) from (suc k) le before behind =
    let b = before 0 (omega arith) in
    first_is xs from k (omega arith) (λ j lt. before (suc j) (omega arith)) (λ j ge lt. behind (suc j) (omega arith) (omega arith))
    ∙ first_past x xs from b

-- the first place is taken out
pub popped : (bs : List Bool) (n : ℕ) (ns : List ℕ) → n ∷ ns ≡ places_from 0 bs → ns ≡ places_from 0 (set bs n false)
popped bs n ns e =
    let lt : 0 < length (places_from 0 bs) = subst (λ ys. 0 < length ys) e (omega arith) in
    let at : get_or (places_from 0 bs) 0 0 ≡ n = sym (ap (λ ys. get_or ys 0 0) e) in
    ap (λ ys. remove ys 0) e ∙ place_removed bs 0 n 0 lt (omega arith)

pub popped_lt : (bs : List Bool) (n : ℕ) (ns : List ℕ) → n ∷ ns ≡ places_from 0 bs → n < length bs
popped_lt bs n ns e =
    let lt : 0 < length (places_from 0 bs) = subst (λ ys. 0 < length ys) e (omega arith) in
    let at : get_or (places_from 0 bs) 0 0 ≡ n = sym (ap (λ ys. get_or ys 0 0) e) in
    let w = place_lt bs 0 0 lt in omega arith

-- a place that is found is the first at or above its number
pub found_first : (bs : List Bool) (xs : List ℕ) (n k : ℕ) → xs ≡ places_from 0 bs → IsBinarySearchResult (λ y. nat_cmp y n) xs (Ok k) → Some n ≡ first_from n xs
found_first bs xs n k e r =
    let w = searched xs n (Ok k) r (rises bs xs e) in
    let up = subst (λ ys. (i j : ℕ) → i < j → j < length ys → get_or ys i 0 < get_or ys j 0) (sym e) (place_rises bs 0) in
    let at = w.1 in
    ap Some (sym at) ∙ sym (slice_get-get_or xs k 0 w.0)
    ∙ first_is xs n k (omega arith) (λ j lt. let u = up j k lt w.0 in omega arith) (λ j ge lt. let u = rises bs xs e k j ge lt in omega arith)

-- where none is found, the first above stands at the place that a search gives
pub missed_first : (bs : List Bool) (xs : List ℕ) (n k : ℕ) → xs ≡ places_from 0 bs → IsBinarySearchResult (λ y. nat_cmp y n) xs (Err k) → slice_get xs k ≡ first_from n xs
missed_first bs xs n k e r =
    let w = searched xs n (Err k) r (rises bs xs e) in
    first_is xs n k w.0 w.1 (λ j ge lt. let u = w.2 j ge lt in omega arith)

-- an element that is lent, and copied
pub copied_is : (xs : List ℕ) (i : ℕ) (o : Option (Bor ℕ)) → (IsSome o ↔ (i < length xs)) → IfSome o (λ x. x.now ≡ get_or xs i x.now) → option_copied o ≡ slice_get xs i
copied_is xs i None v l = elim (cases_lt i (length xs)) [ inl lt ↦ absurd (false≢true (v.1 lt)) | inr ge ↦ sym (slice_get_past xs i ge) ]
copied_is xs i (Some x) v l = ap Some l ∙ sym (slice_get-get_or xs i x.now (v.0 refl))
