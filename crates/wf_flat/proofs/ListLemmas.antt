-- Lists whose elements change one by one, what holds of all elements, and what holds of what is there.
use Rattle.std.proofs.Common.{◌≡◌, ◌<◌, ◌++◌, ℕ, zero, suc, List, [], ◌∷◌, Option, Some, None, length, refl, sym, subst, ap, arith}
use Rattle.std.specs.Prelude.{IsSomeAnd, IfSome, map, slice_get}
use Rattle.std.specs.List.{AllByRecursion}
use Rattle.wf_flat.specs.Lists.{changed_at, others_changed}
use Rattle.wf_flat.specs.Serving.{AllBut}

-- what is there, with what holds of it
pub some_and : {A : Type 0} (o : Option A) (P : A → Type 0) → IsSomeAnd o P → (x : A) × (o ≡ Some x) × P x
some_and None P h = absurd h
some_and (Some x) P h = (x, refl, h)

-- it is there, and it holds of it
pub and_some : {A : Type 0} (o : Option A) (P : A → Type 0) (x : A) → o ≡ Some x → P x → IsSomeAnd o P
and_some {A = A} o P x e h = subst (λ (p : Option A). IsSomeAnd p P) (sym e) h

-- what follows from what holds of it, if it is there
pub if_some_more : {A : Type 0} (o : Option A) (P Q : A → Type 0) → ((x : A) → P x → Q x) → IfSome o P → IfSome o Q
if_some_more None P Q more h = tt
if_some_more (Some x) P Q more h = more x h

-- what holds of all of both holds of all
pub all_append : {A : Type 0} (P : A → Type 0) (xs ys : List A) → AllByRecursion P xs → AllByRecursion P ys → AllByRecursion P (xs ++ ys)
all_append P [] ys all more = more
all_append P (x ∷ xs) ys all more = (all.0, all_append P xs ys all.1 more)

-- an element behind the first changes
pub changed_next : {A : Type 0} (x : A) (xs : List A) (i : ℕ) (f : A → A) → changed_at (x ∷ xs) (suc i) f ≡ x ∷ changed_at xs i f
changed_next {A = A} x xs i f = by_there (slice_get xs i) refl
  where
    by_there : (o : Option A) → slice_get xs i ≡ o → changed_at (x ∷ xs) (suc i) f ≡ x ∷ changed_at xs i f
    by_there None e = rw e refl
    by_there (Some y) e = rw e refl

-- a change leaves as many
pub length_changed : {A : Type 0} (f : A → A) (xs : List A) (i : ℕ) → length (changed_at xs i f) ≡ length xs
length_changed f [] i = refl
length_changed f (x ∷ xs) zero = refl
length_changed f (x ∷ xs) (suc i) = rw (changed_next x xs i f) (ap suc (length_changed f xs i))

-- elements that a change leaves as they are stay
map_same : {A : Type 0} (P : A → Type 0) (f : A → A) → ((x : A) → P x → f x ≡ x) → (xs : List A) → AllByRecursion P xs → map f xs ≡ xs
map_same P f keeps [] all = refl
map_same P f keeps (x ∷ xs) all = rw (keeps x all.0, map_same P f keeps xs all.1) refl

-- so do all but the one at a place
pub others_same : {A : Type 0} (P : A → Type 0) (f : A → A) → ((x : A) → P x → f x ≡ x) → (xs : List A) (h : ℕ) → AllBut P h xs → others_changed xs h f ≡ xs
others_same P f keeps [] h all = refl
others_same P f keeps (x ∷ xs) zero all = ap (λ ys. x ∷ ys) (map_same P f keeps xs all)
others_same P f keeps (x ∷ xs) (suc h) all = rw (keeps x all.0, others_same P f keeps xs h all.1) refl
