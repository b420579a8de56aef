-- Lists whose elements change one after another, from the front on.
use Rattle.std.proofs.Common.{◌≡◌, ◌<◌, ◌≤◌, ◌+◌, ℕ, zero, suc, List, [], ◌∷◌, length, get_or, set, drop, map, refl, sym, ap, ◌∙◌, add-one, arith}
use Rattle.std.specs.List.{fold}
use Rattle.std.proofs.Math.Seq.{drop-cons}
use Rattle.wf_flat.specs.Lists.{others_changed}

-- the first so many have changed
abbrev pub changed_to : {A : Type 0} → (A → A) → ℕ → List A → List A
changed_to f zero xs = xs
changed_to f (suc i) [] = []
changed_to f (suc i) (x ∷ xs) = f x ∷ changed_to f i xs

pub length-changed_to : {A : Type 0} (f : A → A) (i : ℕ) (xs : List A) → length (changed_to f i xs) ≡ length xs
length-changed_to f zero xs = refl
length-changed_to f (suc i) [] = refl
length-changed_to f (suc i) (x ∷ xs) = ap suc (length-changed_to f i xs)

-- the next has not changed yet
pub next_old : {A : Type 0} (f : A → A) (i : ℕ) (xs : List A) (d : A) → i < length xs → get_or (changed_to f i xs) i d ≡ get_or xs i d
next_old f i [] d h = absurd (omega arith)
next_old f zero (x ∷ xs) d h = refl
next_old f (suc i) (x ∷ xs) d h = next_old f i xs d (omega arith)

one_more : {A : Type 0} (f : A → A) (i : ℕ) (xs : List A) (d : A) → i < length xs → set (changed_to f i xs) i (f (get_or xs i d)) ≡ changed_to f (suc i) xs
one_more f i [] d h = absurd (omega arith)
one_more f zero (x ∷ xs) d h = refl
one_more {A = A} f (suc i) (x ∷ xs) d h = ap (λ (ys : List A). f x ∷ ys) (one_more f i xs d (omega arith))

-- one more has
pub changed_more : {A : Type 0} (f : A → A) (i : ℕ) (xs now : List A) (d new : A) → i < length now → now ≡ changed_to f i xs → new ≡ f (get_or now i d) → set now i new ≡ changed_to f (i + 1) xs
changed_more {A = A} f i xs now d new h e is =
    let lt : i < length xs = omega (arith, h, ap length e, length-changed_to f i xs) in
    let old : get_or now i d ≡ get_or xs i d = ap (λ (ys : List A). get_or ys i d) e ∙ next_old f i xs d lt in
    let new_is : new ≡ f (get_or xs i d) = is ∙ ap f old in
    ap (λ (ys : List A). set ys i new) e ∙ ap (λ (y : A). set (changed_to f i xs) i y) new_is
    ∙ one_more f i xs d lt ∙ ap (λ (k : ℕ). changed_to f k xs) (sym (add-one i))

-- all have
pub changed_all : {A : Type 0} (f : A → A) (i : ℕ) (xs : List A) → length xs ≤ i → changed_to f i xs ≡ map f xs
changed_all f zero [] h = refl
changed_all f zero (x ∷ xs) h = absurd (omega arith)
changed_all f (suc i) [] h = refl
changed_all {A = A} f (suc i) (x ∷ xs) h = ap (λ (ys : List A). f x ∷ ys) (changed_all f i xs (omega arith))

-- one more element is folded in
pub fold_next : {A B : Type 0} (f : B → A → B) (b : B) (xs : List A) (i : ℕ) (d : A) → i < length xs → fold f (f b (get_or xs i d)) (drop (i + 1) xs) ≡ fold f b (drop i xs)
fold_next f b xs i d h = rw (drop-cons xs i d h, add-one) refl

-- the first so many have changed, but for the one at a place
abbrev pub others_to : {A : Type 0} → (A → A) → ℕ → ℕ → List A → List A
others_to f but zero xs = xs
others_to f but (suc i) [] = []
others_to f zero (suc i) (x ∷ xs) = x ∷ changed_to f i xs
others_to f (suc but) (suc i) (x ∷ xs) = f x ∷ others_to f but i xs

pub length-others_to : {A : Type 0} (f : A → A) (but i : ℕ) (xs : List A) → length (others_to f but i xs) ≡ length xs
length-others_to f but zero xs = refl
length-others_to f but (suc i) [] = refl
length-others_to f zero (suc i) (x ∷ xs) = ap suc (length-changed_to f i xs)
length-others_to f (suc but) (suc i) (x ∷ xs) = ap suc (length-others_to f but i xs)

-- the next has not changed yet
pub other_old : {A : Type 0} (f : A → A) (but i : ℕ) (xs : List A) (d : A) → i < length xs → get_or (others_to f but i xs) i d ≡ get_or xs i d
other_old f but i [] d h = absurd (omega arith)
other_old f but zero (x ∷ xs) d h = refl
other_old f zero (suc i) (x ∷ xs) d h = next_old f i xs d (omega arith)
other_old f (suc but) (suc i) (x ∷ xs) d h = other_old f but i xs d (omega arith)

other_more : {A : Type 0} (f : A → A) (but i : ℕ) (xs : List A) (d : A) → i < length xs → (i ≡ but → ⊥) → set (others_to f but i xs) i (f (get_or xs i d)) ≡ others_to f but (suc i) xs
other_more f but i [] d h apart = absurd (omega arith)
other_more f zero zero (x ∷ xs) d h apart = absurd (apart refl)
other_more f (suc but) zero (x ∷ xs) d h apart = refl
other_more {A = A} f zero (suc i) (x ∷ xs) d h apart = ap (λ (ys : List A). x ∷ ys) (one_more f i xs d (omega arith))
other_more {A = A} f (suc but) (suc i) (x ∷ xs) d h apart = ap (λ (ys : List A). f x ∷ ys) (other_more f but i xs d (omega arith) (λ e. apart (ap suc e)))

-- one more has
pub others_more : {A : Type 0} (f : A → A) (but i : ℕ) (xs now : List A) (d new : A) → i < length now → (i ≡ but → ⊥) → now ≡ others_to f but i xs → new ≡ f (get_or now i d) → set now i new ≡ others_to f but (i + 1) xs
others_more {A = A} f but i xs now d new h apart e is =
    let lt : i < length xs = omega (arith, h, ap length e, length-others_to f but i xs) in
    let old : get_or now i d ≡ get_or xs i d = ap (λ (ys : List A). get_or ys i d) e ∙ other_old f but i xs d lt in
    let new_is : new ≡ f (get_or xs i d) = is ∙ ap f old in
    ap (λ (ys : List A). set ys i new) e ∙ ap (λ (y : A). set (others_to f but i xs) i y) new_is
    ∙ other_more f but i xs d lt apart ∙ ap (λ (k : ℕ). others_to f but k xs) (sym (add-one i))

other_kept : {A : Type 0} (f : A → A) (i : ℕ) (xs : List A) → others_to f i i xs ≡ others_to f i (suc i) xs
other_kept f zero [] = refl
other_kept f zero (x ∷ xs) = refl
other_kept f (suc i) [] = refl
other_kept {A = A} f (suc i) (x ∷ xs) = ap (λ (ys : List A). f x ∷ ys) (other_kept f i xs)

-- the one at the place stays
pub others_kept : {A : Type 0} (f : A → A) (but i : ℕ) (xs : List A) → i ≡ but → others_to f but i xs ≡ others_to f but (i + 1) xs
others_kept {A = A} f but i xs e = rw (← e) (other_kept f i xs ∙ ap (λ (k : ℕ). others_to f i k xs) (sym (add-one i)))

-- all others have
pub others_all : {A : Type 0} (f : A → A) (but i : ℕ) (xs : List A) → length xs ≤ i → others_to f but i xs ≡ others_changed xs but f
others_all f but zero [] h = refl
others_all f but zero (x ∷ xs) h = absurd (omega arith)
others_all f but (suc i) [] h = refl
others_all {A = A} f zero (suc i) (x ∷ xs) h = ap (λ (ys : List A). x ∷ ys) (changed_all f i xs (omega arith))
others_all {A = A} f (suc but) (suc i) (x ∷ xs) h = ap (λ (ys : List A). f x ∷ ys) (others_all f but i xs (omega arith))
