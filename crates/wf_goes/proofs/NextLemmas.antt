-- The first thing to do, and the rest.
use Rattle.std.proofs.Common.{◌≡◌, ◌↔◌, ◌≤◌, ◌<◌, ◌+◌, ◌==◌, ℕ, zero, suc, Bool, true, false, List, [], ◌∷◌, Option, Some, None, IsTrue, refl, ap, ◌∙◌, subst, add-one, arith, drop, length, not, leb, eqb}
use Rattle.std.specs.Prelude.{if◌then◌else◌, slice_get}
use Rattle.std.specs.List.{AllByRecursion, filter}
use Rattle.std.specs.Option.{option_eq}
use Rattle.std.proofs.lemmas.Bool.{false≢true}
use Rattle.std.proofs.lemmas.Bool.Decides.{nat_tests}
use Rattle.wf_outside.specs.Lists.{IsRising}
use Rattle.wf_flat.specs.declared.event.Event.{Event}
use Rattle.wf_flat.specs.State.{FlatState}
use Rattle.wf_verdict.specs.declared.work.Todo.{Todo}
use Rattle.wf_verdict.specs.declared.work.Todo.TheVariants.{Exactly}
use Rattle.wf_legal.specs.Calls.{IsNext, later}

some_same : {A : Type 0} (x y : A) → Some x ≡ Some y → x ≡ y
some_same x y e = cc

-- the first thing to do is this event
pub next_is : (s : FlatState) (todo : List Todo) (next event : Event) (r : Bool) → Some (Exactly next) ≡ slice_get todo 0 → IsTrue r ↔ (event ≡ next) → IsTrue r ↔ IsNext s todo event
next_is s [] next event r e d = absurd (cc)
next_is s (first ∷ todo) next event r e d = subst (λ (t : Todo). IsTrue r ↔ IsNext s (t ∷ todo) event) (some_same (Exactly next) first e) d

-- a list without its first element
abbrev rest : {A : Type 0} → List A → List A
rest [] = []
rest (x ∷ xs) = xs

next_drop : {A : Type 0} (i : ℕ) (xs : List A) → drop (suc i) xs ≡ rest (drop i xs)
next_drop zero [] = refl
next_drop zero (x ∷ xs) = refl
next_drop (suc i) [] = refl
next_drop (suc i) (x ∷ xs) = next_drop i xs

pub dropped : {A : Type 0} (i : ℕ) (xs now : List A) → drop i xs ≡ now → drop (i + 1) xs ≡ rest now
dropped {A = A} i xs now e = rw add-one (next_drop i xs ∙ ap (λ (ys : List A). rest ys) e)

later_rest : (todo : List Todo) → rest todo ≡ later todo
later_rest [] = refl
later_rest (next ∷ todo) = refl

-- the first thing is done
pub passed : (i : ℕ) (xs now : List Todo) → drop i xs ≡ now → drop (i + 1) xs ≡ later now
passed i xs now e = dropped i xs now e ∙ later_rest now

-- a first element is within
pub first_within : {A : Type 0} (i : ℕ) (xs : List A) (x : A) → slice_get (drop i xs) 0 ≡ Some x → i < length xs
first_within zero [] x e = absurd (cc)
first_within (suc i) [] x e = absurd (cc)
first_within zero (y ∷ xs) x e = omega arith
first_within (suc i) (y ∷ xs) x e = let r : i < length xs = first_within i xs x e in omega arith

-- a first that is there is this, or not
pub first_same : (o : Option ℕ) (n : ℕ) → true ≡ option_eq eqb o (Some n) → o ≡ Some n
first_same None n e = absurd (cc)
first_same (Some m) n e = ap Some (grind (arith, nat_tests))

pub first_other : (o : Option ℕ) (n : ℕ) → false ≡ option_eq eqb o (Some n) → o ≡ Some n → ⊥
first_other o n e is = false≢true (e ∙ ap (λ (p : Option ℕ). option_eq eqb p (Some n)) is ∙ grind (arith, nat_tests))

pub rising_rest : (ns : List ℕ) → IsRising ns → IsRising (rest ns)
rising_rest [] up = tt
rising_rest (n ∷ ns) up = up.1

-- all that are above a number are kept where that goes
kept : (page : ℕ) (ns : List ℕ) → AllByRecursion (λ n. page < n) ns → ns ≡ filter (λ other. not (other == page)) ns
kept page [] above = refl
kept page (n ∷ ns) above = by_test (n == page) refl (ap (λ (ms : List ℕ). n ∷ ms) (kept page ns above.1))
  where
    by_test : (b : Bool) → (n == page) ≡ b → n ∷ ns ≡ n ∷ filter (λ other. not (other == page)) ns → n ∷ ns ≡ (if not b then n ∷ filter (λ other. not (other == page)) ns else filter (λ other. not (other == page)) ns)
    by_test true t e = absurd (let lt : page < n = above.0 in grind (arith, nat_tests))
    by_test false t e = e

-- the first that is owed goes
pub paid_first : (page : ℕ) (ns : List ℕ) → IsRising ns → slice_get ns 0 ≡ Some page → rest ns ≡ filter (λ other. not (other == page)) ns
paid_first page [] up e = refl
paid_first page (n ∷ ns) up e = by_test (n == page) refl
  where
    same : n ≡ page
    same = some_same n page e

    by_test : (b : Bool) → (n == page) ≡ b → ns ≡ (if not b then n ∷ filter (λ other. not (other == page)) ns else filter (λ other. not (other == page)) ns)
    by_test true t = kept page ns (subst (λ (m : ℕ). AllByRecursion (λ k. m < k) ns) same up.0)
    by_test false t = absurd (let e : n ≡ page = same in grind (arith, nat_tests))

above_all : (page n : ℕ) (ns : List ℕ) → page < n → AllByRecursion (λ m. n < m) ns → AllByRecursion (λ m. page < m) ns
above_all page n [] lt above = tt
above_all page n (m ∷ ns) lt above = (let a : n < m = above.0 in omega arith, above_all page n ns lt above.1)

-- a page goes that is not owed, below all that are
pub paid_none : (page : ℕ) (ns : List ℕ) → IsRising ns → AllByRecursion (λ other. page ≤ other) ns → (slice_get ns 0 ≡ Some page → ⊥) → ns ≡ filter (λ other. not (other == page)) ns
paid_none page [] up least apart = refl
paid_none page (n ∷ ns) up least apart =
    let below : page < n = strictly (λ e. apart (ap Some e)) in
    kept page (n ∷ ns) (below, above_all page n ns below up.0)
  where
    strictly : (n ≡ page → ⊥) → page < n
    strictly h = let le : page ≤ n = least.0 in omega (arith, h)

at_least : (page n : ℕ) (ns : List ℕ) → page ≤ n → AllByRecursion (λ m. n < m) ns → AllByRecursion (λ m. page ≤ m) ns
at_least page n [] le above = tt
at_least page n (m ∷ ns) le above = (let a : n < m = above.0 in omega arith, at_least page n ns le above.1)

-- none is owed below a page, if the first is not
pub least_first : (page first : ℕ) (ns : List ℕ) → IsRising ns → Some first ≡ slice_get ns 0 → IsTrue (leb page first) ↔ AllByRecursion (λ other. page ≤ other) ns
least_first page first [] up e = absurd (cc)
least_first page first (n ∷ ns) up e =
    let same : first ≡ n = some_same first n e in
    (λ t. (let le : page ≤ n = grind (arith, nat_tests) in (le, at_least page n ns le up.0)), λ all. (let le : page ≤ n = all.0 in grind (arith, nat_tests)))

pub least_none : (page : ℕ) (ns : List ℕ) → None ≡ slice_get ns 0 → AllByRecursion (λ other. page ≤ other) ns
least_none page [] e = tt
least_none page (n ∷ ns) e = absurd (cc)
