-- Values, or why there is none.
use Rattle.std.specs.Prelude.{◌≡◌, Result, Ok, Err, List, ℕ}

-- a value that is made of another, where that one is there
abbrev pub and_then : {A B E : Type 0} → Result A E → (A → Result B E) → Result B E
and_then (Ok a) f = f a
and_then (Err e) f = Err e

-- the same, where another reason is given
abbrev pub or_told : {A E F : Type 0} → (E → F) → Result A E → Result A F
or_told f (Ok a) = Ok a
or_told f (Err e) = Err (f e)

-- the bytes that a change leaves, or why it is not made
abbrev pub Leaves : {E : Type 0} → Result (Unit {0}) E → List ℕ → Result (List ℕ) E → Type 0
Leaves (Ok done) bytes change = change ≡ Ok bytes
Leaves (Err e) bytes change = change ≡ Err e
