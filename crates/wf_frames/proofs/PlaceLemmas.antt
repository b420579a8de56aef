-- The places of what is true: in order, found, one less and one more.
use Rattle.std.proofs.Common.{◌≡◌, ◌<◌, ◌≤◌, ◌+◌, ℕ, zero, suc, List, [], ◌∷◌, Bool, true, false, length, get_or, refl, ap, ◌∙◌, arith}
use Rattle.std.proofs.Math.ListN.{set}
use Rattle.std.proofs.lemmas.Bool.{false≢true}
use Rattle.std.specs.List.{insert, remove}
use Rattle.wf_frames.specs.Frames.{places_from}

-- no place is before the first
pub place_ge : (bs : List Bool) (n k : ℕ) → k < length (places_from n bs) → n ≤ get_or (places_from n bs) k 0
place_ge [] n k h = absurd (omega arith)
place_ge (true ∷ bs) n zero h = omega arith
place_ge (true ∷ bs) n (suc k) h = let r = place_ge bs (suc n) k (omega arith) in omega arith
place_ge (false ∷ bs) n k h = let r = place_ge bs (suc n) k h in omega arith

-- nor past the last
pub place_lt : (bs : List Bool) (n k : ℕ) → k < length (places_from n bs) → get_or (places_from n bs) k 0 < n + length bs
place_lt [] n k h = absurd (omega arith)
place_lt (true ∷ bs) n zero h = omega arith
place_lt (true ∷ bs) n (suc k) h = let r = place_lt bs (suc n) k (omega arith) in omega arith
place_lt (false ∷ bs) n k h = let r = place_lt bs (suc n) k h in omega arith

-- a place behind another is at or above it
pub place_le : (bs : List Bool) (n i j : ℕ) → i ≤ j → j < length (places_from n bs) → get_or (places_from n bs) i 0 ≤ get_or (places_from n bs) j 0
place_le [] n i j le h = absurd (omega arith)
place_le (true ∷ bs) n zero zero le h = omega arith
place_le (true ∷ bs) n (suc i) zero le h = absurd (omega arith)
place_le (true ∷ bs) n zero (suc j) le h = let r = place_ge bs (suc n) j (omega arith) in omega arith
place_le (true ∷ bs) n (suc i) (suc j) le h = place_le bs (suc n) i j (omega arith) (omega arith)
place_le (false ∷ bs) n i j le h = place_le bs (suc n) i j le h

-- and above it where it is another
pub place_rises : (bs : List Bool) (n i j : ℕ) → i < j → j < length (places_from n bs) → get_or (places_from n bs) i 0 < get_or (places_from n bs) j 0
place_rises [] n i j lt h = absurd (omega arith)
place_rises (true ∷ bs) n i zero lt h = absurd (omega arith)
place_rises (true ∷ bs) n zero (suc j) lt h = let r = place_ge bs (suc n) j (omega arith) in omega arith
place_rises (true ∷ bs) n (suc i) (suc j) lt h = place_rises bs (suc n) i j (omega arith) (omega arith)
place_rises (false ∷ bs) n i j lt h = place_rises bs (suc n) i j lt h

-- where something is true, its place stands among the places
pub stands : (bs : List Bool) (n i : ℕ) → get_or bs i false ≡ true → (k : ℕ) × (k < length (places_from n bs)) × (get_or (places_from n bs) k 0 ≡ n + i)
stands [] n i h = absurd (false≢true h)
stands (true ∷ bs) n zero h = (0, omega arith, omega arith)
stands (true ∷ bs) n (suc i) h = let r = stands bs (suc n) i h in (suc r.0, omega arith, omega arith)
stands (false ∷ bs) n zero h = absurd (false≢true h)
stands (false ∷ bs) n (suc i) h = let r = stands bs (suc n) i h in (r.0, r.1, omega arith)

-- a place that stands there is true
pub is_true_at : (bs : List Bool) (n i k : ℕ) → k < length (places_from n bs) → get_or (places_from n bs) k 0 ≡ n + i → get_or bs i false ≡ true
is_true_at [] n i k h e = absurd (omega arith)
is_true_at (true ∷ bs) n zero k h e = refl
is_true_at (true ∷ bs) n (suc i) zero h e = absurd (omega arith)
is_true_at (true ∷ bs) n (suc i) (suc k) h e = is_true_at bs (suc n) i k (omega arith) (omega arith)
is_true_at (false ∷ bs) n zero k h e = let r = place_ge bs (suc n) k h in absurd (omega arith)
is_true_at (false ∷ bs) n (suc i) k h e = is_true_at bs (suc n) i k h (omega arith)

-- one place less
pub place_removed : (bs : List Bool) (n i k : ℕ) → k < length (places_from n bs) → get_or (places_from n bs) k 0 ≡ n + i → remove (places_from n bs) k ≡ places_from n (set bs i false)
place_removed [] n i k h e = absurd (omega arith)
place_removed (true ∷ bs) n zero zero h e = refl
place_removed (true ∷ bs) n zero (suc k) h e = let r = place_ge bs (suc n) k (omega arith) in absurd (omega arith)
place_removed (true ∷ bs) n (suc i) zero h e = absurd (omega arith)
place_removed (true ∷ bs) n (suc i) (suc k) h e = ap (λ xs. n ∷ xs) (place_removed bs (suc n) i k (omega arith) (omega arith))
place_removed (false ∷ bs) n zero k h e = let r = place_ge bs (suc n) k h in absurd (omega arith)
place_removed (false ∷ bs) n (suc i) k h e = place_removed bs (suc n) i k h (omega arith)

-- one place more
pub place_inserted : (bs : List Bool) (n i k : ℕ) → i < length bs → get_or bs i false ≡ false → k ≤ length (places_from n bs)
    → ((j : ℕ) → j < k → get_or (places_from n bs) j 0 < n + i) → ((j : ℕ) → k ≤ j → j < length (places_from n bs) → n + i < get_or (places_from n bs) j 0)
    → insert (places_from n bs) k (n + i) ≡ places_from n (set bs i true)
place_inserted [] n i k h e le before behind = absurd (omega arith)
place_inserted (true ∷ bs) n zero k h e le before behind = absurd (cc)
place_inserted (false ∷ bs) n zero zero h e le before behind = let m : n + 0 ≡ n = omega arith in ap (λ m. m ∷ places_from (suc n) bs) m
place_inserted (false ∷ bs) n zero (suc k) h e le before behind =
    let r = place_ge bs (suc n) 0 (omega arith) in
    let b = before 0 (omega arith) in
    absurd (omega arith)
place_inserted (true ∷ bs) n (suc i) zero h e le before behind = let b = behind 0 (omega arith) (omega arith) in absurd (omega arith)
place_inserted (true ∷ bs) n (suc i) (suc k) h e le before behind =
    let m : n + suc i ≡ suc n + i = omega arith in
    ap (λ v. insert (n ∷ places_from (suc n) bs) (suc k) v) m
    ∙ ap (λ xs. n ∷ xs) (place_inserted bs (suc n) i k (omega arith) e (omega arith)
    (λ j lt. let b = before (suc j) (omega arith) in omega arith) (λ j ge lt. let b = behind (suc j) (omega arith) (omega arith) in omega arith))
place_inserted (false ∷ bs) n (suc i) k h e le before behind =
    let m : n + suc i ≡ suc n + i = omega arith in
    ap (λ v. insert (places_from (suc n) bs) k v) m
    ∙ place_inserted bs (suc n) i k (omega arith) e le
    (λ j lt. let b = before j lt in omega arith) (λ j ge lt. let b = behind j ge lt in omega arith)

-- there are at most as many places as there is anything
pub places_few : (bs : List Bool) (n : ℕ) → length (places_from n bs) ≤ length bs
places_few [] n = omega arith
places_few (true ∷ bs) n = let r = places_few bs (suc n) in omega arith
places_few (false ∷ bs) n = let r = places_few bs (suc n) in omega arith

-- and fewer where something is false
pub places_fewer : (bs : List Bool) (n i : ℕ) → i < length bs → get_or bs i false ≡ false → length (places_from n bs) < length bs
places_fewer [] n i h e = absurd (omega arith)
places_fewer (true ∷ bs) n zero h e = absurd (cc)
places_fewer (true ∷ bs) n (suc i) h e = let r = places_fewer bs (suc n) i (omega arith) e in omega arith
places_fewer (false ∷ bs) n zero h e = let r = places_few bs (suc n) in omega arith
places_fewer (false ∷ bs) n (suc i) h e = let r = places_fewer bs (suc n) i (omega arith) e in omega arith
