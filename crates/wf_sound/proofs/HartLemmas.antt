-- How the harts stand after an entry: one has changed, and of the others the pages that moved alone.
use Rattle.std.proofs.Common.{◌≡◌, ◌≢◌, ℕ, zero, suc, List, [], ◌∷◌, Bool, true, false, Option, Some, None, length, map, refl, sym, ap, subst, ◌∙◌, inl, inr}
use Rattle.std.specs.Prelude.{slice_get, is_some, if◌then◌else◌, ◌==◌}
use Rattle.std.specs.Option.{option_map}
use Rattle.std.proofs.lemmas.List.{length-map}
use Rattle.wf_flat.specs.State.{HartState}
use Rattle.wf_flat.specs.Lists.{changed_at, others_changed, with_number}
use Rattle.wf_flat.specs.Changes.{noted, noted_in}
use Rattle.wf_flat.proofs.HartLemmas.{get-changed_at}
use Rattle.wf_flat.proofs.ListLemmas.{changed_next, length_changed}
use Rattle.wf_sound.proofs.AllLemmas.{one_or_two}
use Rattle.wf_effects.specs.Effects.{all_noted}

-- a hart in which the pages that moved have changed alone
abbrev pub IsNoted : HartState → HartState → Type 0
IsNoted old new = new ≡ record old { moved = new.moved }

-- the same of harts that may be there
abbrev pub AreNoted : Option HartState → Option HartState → Type 0
AreNoted None None = Unit {0}
AreNoted None (Some new) = ⊥
AreNoted (Some old) None = ⊥
AreNoted (Some old) (Some new) = IsNoted old new

pub record Stepped (xs ys : List HartState) (a : ℕ) (g : HartState → HartState) : Type 0 where
  pub same_length : length ys ≡ length xs
  pub own : slice_get ys a ≡ option_map g (slice_get xs a)
  pub others : (o : ℕ) → o ≢ a → AreNoted (slice_get xs o) (slice_get ys o)

same_noted : (o : Option HartState) → AreNoted o o
same_noted None = tt
same_noted (Some hart) = refl

twice_noted : (o p q : Option HartState) → AreNoted o p → AreNoted p q → AreNoted o q
twice_noted None None None e f = tt
twice_noted None None (Some z) e f = f
twice_noted None (Some y) q e f = absurd e
twice_noted (Some x) None q e f = absurd e
twice_noted (Some x) (Some y) None e f = f
twice_noted (Some x) (Some y) (Some z) e f = f ∙ ap (λ (hart : HartState). (let k : HartState = record hart { moved = z.moved } in k)) e

-- the elements at other places stay
pub other_changed : {A : Type 0} (f : A → A) (xs : List A) (h o : ℕ) → o ≢ h → slice_get (changed_at xs h f) o ≡ slice_get xs o
other_changed f [] h o apart = refl
other_changed f (x ∷ xs) zero zero apart = absurd (apart refl)
other_changed f (x ∷ xs) zero (suc o) apart = refl
other_changed f (x ∷ xs) (suc h) zero apart = rw (changed_next x xs h f) refl
other_changed f (x ∷ xs) (suc h) (suc o) apart = rw (changed_next x xs h f) (other_changed f xs h o (λ e. apart (ap suc e)))

-- one hart changes
pub stepped_changed : (xs : List HartState) (a : ℕ) (g : HartState → HartState) → Stepped xs (changed_at xs a g) a g
stepped_changed xs a g = record {
  same_length = length_changed g xs a;
  own = get-changed_at xs a g;
  others = λ o apart. subst (AreNoted (slice_get xs o)) (sym (other_changed g xs a o apart)) (same_noted (slice_get xs o));
}

-- none changes
pub stepped_same : (xs : List HartState) (a : ℕ) → Stepped xs xs a (λ hart. hart)
stepped_same xs a = record { same_length = refl; own = by_there (slice_get xs a); others = λ o apart. same_noted (slice_get xs o) }
  where
    by_there : (o : Option HartState) → o ≡ option_map (λ (hart : HartState). hart) o
    by_there None = refl
    by_there (Some hart) = refl

-- one step after another, of one actor
pub stepped_twice : (xs ys zs : List HartState) (a : ℕ) (g k : HartState → HartState) → Stepped xs ys a g → Stepped ys zs a k → Stepped xs zs a (λ hart. k (g hart))
stepped_twice xs ys zs a g k first second = record {
  same_length = second.same_length ∙ first.same_length;
  own = second.own ∙ ap (option_map k) first.own ∙ by_there (slice_get xs a);
  others = λ o apart. twice_noted (slice_get xs o) (slice_get ys o) (slice_get zs o) (first.others o apart) (second.others o apart);
}
  where
    by_there : (o : Option HartState) → option_map k (option_map g o) ≡ option_map (λ hart. k (g hart)) o
    by_there None = refl
    by_there (Some hart) = refl

module _ (f : HartState → HartState) (notes : (hart : HartState) → IsNoted hart (f hart)) where
  map_noted : (xs : List HartState) (o : ℕ) → AreNoted (slice_get xs o) (slice_get (map f xs) o)
  map_noted [] o = tt
  map_noted (x ∷ xs) zero = notes x
  map_noted (x ∷ xs) (suc o) = map_noted xs o

  others_length : (xs : List HartState) (a : ℕ) → length (others_changed xs a f) ≡ length xs
  others_length [] a = refl
  others_length (x ∷ xs) zero = ap suc (length-map xs f)
  others_length (x ∷ xs) (suc a) = ap suc (others_length xs a)

  others_own : (xs : List HartState) (a : ℕ) → slice_get (others_changed xs a f) a ≡ option_map (λ hart. hart) (slice_get xs a)
  others_own [] a = refl
  others_own (x ∷ xs) zero = refl
  others_own (x ∷ xs) (suc a) = others_own xs a

  others_noted : (xs : List HartState) (a o : ℕ) → AreNoted (slice_get xs o) (slice_get (others_changed xs a f) o)
  others_noted [] a o = tt
  others_noted (x ∷ xs) zero zero = refl
  others_noted (x ∷ xs) zero (suc o) = map_noted xs o
  others_noted (x ∷ xs) (suc a) zero = notes x
  others_noted (x ∷ xs) (suc a) (suc o) = others_noted xs a o

  -- the others note something
  pub stepped_others : (xs : List HartState) (a : ℕ) → Stepped xs (others_changed xs a f) a (λ hart. hart)
  stepped_others xs a = record { same_length = others_length xs a; own = others_own xs a; others = λ o apart. others_noted xs a o }

pub noted_is : (page : ℕ) (hart : HartState) → IsNoted hart (noted page hart)
noted_is page hart = by_fetched (is_some hart.fetched)
  where
    by_fetched : (b : Bool) → IsNoted hart (if b then record hart { moved = with_number page hart.moved } else hart)
    by_fetched true = refl
    by_fetched false = refl

pub noted_in_is : (generation page : ℕ) (hart : HartState) → IsNoted hart (noted_in generation page hart)
noted_in_is generation page hart = by_generation (hart.generation == generation)
  where
    by_generation : (b : Bool) → IsNoted hart (if b then noted page hart else hart)
    by_generation true = noted_is page hart
    by_generation false = refl

pub all_noted_is : (pages : List ℕ) (hart : HartState) → IsNoted hart (all_noted pages hart)
all_noted_is pages hart = refl

-- who stands at a place after a step: the actor's own hart, or another
pub data Stands (xs : List HartState) (a : ℕ) (g : HartState → HartState) (o : ℕ) (new : HartState) : Type 0 where
  Own : (old : HartState) → o ≡ a → slice_get xs a ≡ Some old → new ≡ g old → Stands xs a g o new
  Other : (old : HartState) → o ≢ a → slice_get xs o ≡ Some old → IsNoted old new → Stands xs a g o new

pub stands_after : (xs ys : List HartState) (a : ℕ) (g : HartState → HartState) → Stepped xs ys a g → (o : ℕ) (new : HartState) → slice_get ys o ≡ Some new → Stands xs a g o new
stands_after xs ys a g step o new e = elim (one_or_two o a) [
  | inl same ↦ own_by (slice_get xs a) refl same (sym step.own ∙ (rw (← same) e))
  | inr apart ↦ other_by (slice_get xs o) refl apart (subst (AreNoted (slice_get xs o)) e (step.others o apart))
]
  where
    own_by : (p : Option HartState) → slice_get xs a ≡ p → o ≡ a → option_map g (slice_get xs a) ≡ Some new → Stands xs a g o new
    own_by None at same is = absurd (let k : option_map g (slice_get xs a) ≡ None = rw at refl in cc)
    own_by (Some old) at same is = Own old same at (let k : option_map g (slice_get xs a) ≡ Some (g old) = rw at refl in cc)

    other_by : (p : Option HartState) → slice_get xs o ≡ p → o ≢ a → AreNoted (slice_get xs o) (Some new) → Stands xs a g o new
    other_by None at apart is = absurd (rw at at is)
    other_by (Some old) at apart is = Other old apart at (rw at at is)

-- where a hart stands after a step
pub data Stood (ys : List HartState) (a : ℕ) (g : HartState → HartState) (o : ℕ) (old : HartState) : Type 0 where
  OwnNow : o ≡ a → slice_get ys o ≡ Some (g old) → Stood ys a g o old
  OtherNow : (new : HartState) → o ≢ a → slice_get ys o ≡ Some new → IsNoted old new → Stood ys a g o old

pub stood_before : (xs ys : List HartState) (a : ℕ) (g : HartState → HartState) → Stepped xs ys a g → (o : ℕ) (old : HartState) → slice_get xs o ≡ Some old → Stood ys a g o old
stood_before xs ys a g step o old e = elim (one_or_two o a) [
  | inl same ↦ OwnNow same (let at : slice_get xs a ≡ Some old = rw (← same) e in rw same (step.own ∙ ap (option_map g) at))
  | inr apart ↦ other_by (slice_get ys o) refl apart (subst (λ (p : Option HartState). AreNoted p (slice_get ys o)) e (step.others o apart))
]
  where
    other_by : (p : Option HartState) → slice_get ys o ≡ p → o ≢ a → AreNoted (Some old) (slice_get ys o) → Stood ys a g o old
    other_by None at apart is = absurd (rw at at is)
    other_by (Some new) at apart is = OtherNow new apart at (rw at at is)
