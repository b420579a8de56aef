-- Lists in the order of numbers.
use Rattle.std.specs.Prelude.{ℕ, zero, suc, ◌==◌, List, [], ◌∷◌, Option, None, Some, if◌then◌else◌, map, nat_lt, slice_get, slice_set}

-- one more element, before the first whose number is not below its own
abbrev pub inserted_by : {A : Type 0} → (A → ℕ) → A → List A → List A
inserted_by number x [] = x ∷ []
inserted_by number x (y ∷ ys) =
    if nat_lt (number y) (number x) then y ∷ inserted_by number x ys else x ∷ y ∷ ys

-- the elements by rising number
abbrev pub sorted_by : {A : Type 0} → (A → ℕ) → List A → List A
sorted_by number [] = []
sorted_by number (x ∷ xs) = inserted_by number x (sorted_by number xs)

-- a rising list with one more number, where it isn't there yet
abbrev pub with_number : ℕ → List ℕ → List ℕ
with_number n [] = n ∷ []
with_number n (m ∷ ms) =
    if nat_lt m n then m ∷ with_number n ms else (if m == n then m ∷ ms else n ∷ m ∷ ms)

-- the element at i changes, where it is there
abbrev pub changed_at : {A : Type 0} → List A → ℕ → (A → A) → List A
changed_at {A} xs i f = put (slice_get xs i)
  where
    put : Option A → List A
    put None = xs
    put (Some x) = slice_set xs i (f x)

-- the element of a number
abbrev pub found_by : {A : Type 0} → (A → ℕ) → List A → ℕ → Option A
found_by number [] n = None
found_by number (x ∷ xs) n = if number x == n then Some x else found_by number xs n

-- the element of a number changes
abbrev pub changed_by : {A : Type 0} → (A → ℕ) → List A → ℕ → (A → A) → List A
changed_by number xs n f = map (λ x. if number x == n then f x else x) xs

-- all elements but the one at a place change
abbrev pub others_changed : {A : Type 0} → List A → ℕ → (A → A) → List A
others_changed [] at f = []
others_changed (x ∷ xs) zero f = x ∷ map f xs
others_changed (x ∷ xs) (suc at) f = f x ∷ others_changed xs at f
