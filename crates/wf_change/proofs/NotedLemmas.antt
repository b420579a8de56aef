-- Harts that have noted pages.
use Rattle.std.proofs.Common.{◌≡◌, ◌<◌, ℕ, zero, suc, Bool, true, false, List, [], ◌∷◌, length, map, refl, sym, ap, ◌∙◌, subst, is_some}
use Rattle.std.specs.Prelude.{if◌then◌else◌, slice_get}
use Rattle.wf_flat.specs.declared.event.Actor.{Actor}
use Rattle.wf_flat.specs.declared.event.Actor.TheVariants.{Hart, Kernel}
use Rattle.wf_flat.specs.Lists.{others_changed, with_number}
use Rattle.wf_flat.specs.State.{FlatState, HartState}
use Rattle.wf_flat.specs.Changes.{noted}
use Rattle.wf_effects.specs.Effects.{all_noted}
use Rattle.wf_sound.specs.Making.{IsThere}

same_length : {A : Type 0} (f : A → A) (xs : List A) → length (map f xs) ≡ length xs
same_length f [] = refl
same_length f (x ∷ xs) = ap suc (same_length f xs)

-- as many harts are there
pub length-others_changed : {A : Type 0} (xs : List A) (at : ℕ) (f : A → A) → length (others_changed xs at f) ≡ length xs
length-others_changed [] at f = refl
length-others_changed (x ∷ xs) zero f = ap suc (same_length f xs)
length-others_changed (x ∷ xs) (suc at) f = ap suc (length-others_changed xs at f)

-- the one at the place stays
pub get-others_changed : {A : Type 0} (xs : List A) (at : ℕ) (f : A → A) → slice_get (others_changed xs at f) at ≡ slice_get xs at
get-others_changed [] at f = refl
get-others_changed (x ∷ xs) zero f = refl
get-others_changed (x ∷ xs) (suc at) f = get-others_changed xs at f

-- an actor that was there is there, where there are as many harts
pub there_still : (s t : FlatState) (actor : Actor) → length t.harts ≡ length s.harts → IsThere s actor → IsThere t actor
there_still s t (Hart h) e there = subst (λ (n : ℕ). h < n) (sym e) there
there_still s t Kernel e there = tt

-- one page is noted as a list of one
one_noted : (page : ℕ) (hart : HartState) → all_noted (page ∷ []) hart ≡ noted page hart
one_noted page hart = by_try (is_some hart.fetched)
  where
    by_try : (b : Bool) → (let h : HartState = record hart { moved = if b then with_number page hart.moved else hart.moved } in h) ≡ (if b then (let h : HartState = record hart { moved = with_number page hart.moved } in h) else hart)
    by_try true = refl
    by_try false = refl

same_map : {A : Type 0} (f g : A → A) → ((x : A) → f x ≡ g x) → (xs : List A) → map f xs ≡ map g xs
same_map f g e [] = refl
same_map f g e (x ∷ xs) = ap (λ y. y ∷ map f xs) (e x) ∙ ap (λ ys. g x ∷ ys) (same_map f g e xs)

same_others : {A : Type 0} (f g : A → A) → ((x : A) → f x ≡ g x) → (xs : List A) (at : ℕ) → others_changed xs at f ≡ others_changed xs at g
same_others f g e [] at = refl
same_others f g e (x ∷ xs) zero = ap (λ ys. x ∷ ys) (same_map f g e xs)
same_others f g e (x ∷ xs) (suc at) = ap (λ y. y ∷ others_changed xs at f) (e x) ∙ ap (λ ys. g x ∷ ys) (same_others f g e xs at)

-- and so by the others of harts
pub one_noted_others : (harts : List HartState) (h page : ℕ) → others_changed harts h (all_noted (page ∷ [])) ≡ others_changed harts h (noted page)
one_noted_others harts h page = same_others (all_noted (page ∷ [])) (noted page) (one_noted page) harts h
