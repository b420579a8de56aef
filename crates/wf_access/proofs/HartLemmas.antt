-- Harts that change and run on in their generations, and the page that a hart holds and gives back.
use Rattle.std.proofs.Common.{◌≡◌, ℕ, zero, suc, List, [], ◌∷◌, Bool, true, Option, Some, None, map, refl, sym, ap, ◌∙◌, inl, inr, is_some, if◌then◌else◌}
use Rattle.std.specs.Prelude.{IsSomeAnd, slice_get}
use Rattle.std.specs.Option.{option_map}
use Rattle.wf_outside.specs.Pages.{page_of}
use Rattle.wf_flat.specs.declared.state.Life.{Life}
use Rattle.wf_flat.specs.declared.state.Life.TheVariants.{Running}
use Rattle.wf_flat.specs.Accesses.{Access, holds}
use Rattle.wf_flat.specs.Changes.{change_page, give_back, give_back_by, give_back_of, given_back, note_page, noted}
use Rattle.wf_flat.specs.Lists.{changed_at, others_changed}
use Rattle.wf_flat.specs.State.{FlatState, HartState}
use Rattle.wf_flat.specs.Steps.{access_in}
use Rattle.wf_flat.proofs.ListLemmas.{changed_next}
use Rattle.wf_homes.proofs.ListLemmas.{true_or_false}

-- whether and where a hart runs
abbrev pub ran : HartState → Life × ℕ
ran hart = (hart.life, hart.generation)

module _ (f : HartState → HartState) (keeps : (hart : HartState) → ran (f hart) ≡ ran hart) where
  mapped_ran : (xs : List HartState) (i : ℕ) → option_map ran (slice_get (map f xs) i) ≡ option_map ran (slice_get xs i)
  mapped_ran [] i = refl
  mapped_ran (x ∷ xs) zero = ap Some (keeps x)
  mapped_ran (x ∷ xs) (suc i) = mapped_ran xs i

  pub others_ran : (xs : List HartState) (o i : ℕ) → option_map ran (slice_get (others_changed xs o f) i) ≡ option_map ran (slice_get xs i)
  others_ran [] o i = refl
  others_ran (x ∷ xs) zero zero = refl
  others_ran (x ∷ xs) zero (suc i) = mapped_ran xs i
  others_ran (x ∷ xs) (suc o) zero = ap Some (keeps x)
  others_ran (x ∷ xs) (suc o) (suc i) = others_ran xs o i

  pub changed_ran : (xs : List HartState) (o i : ℕ) → option_map ran (slice_get (changed_at xs o f) i) ≡ option_map ran (slice_get xs i)
  changed_ran [] o i = refl
  changed_ran (x ∷ xs) zero zero = ap Some (keeps x)
  changed_ran (x ∷ xs) zero (suc i) = refl
  changed_ran (x ∷ xs) (suc o) zero = ap (λ (ys : List HartState). option_map ran (slice_get ys 0)) (changed_next x xs o f)
  changed_ran (x ∷ xs) (suc o) (suc i) = ap (λ (ys : List HartState). option_map ran (slice_get ys (suc i))) (changed_next x xs o f) ∙ changed_ran xs o i

-- a hart that notes a page runs on
pub noted_ran : (page : ℕ) (hart : HartState) → ran (noted page hart) ≡ ran hart
noted_ran page hart = elim (true_or_false (is_some hart.fetched)) [
  | inl t ↦ (rw t refl)
  | inr t ↦ (rw t refl)
]

-- the other harts stay one
pub other_harts : {A : Type 0} (f : A → A) (xs : List A) (o : ℕ) → slice_get (others_changed xs o f) o ≡ slice_get xs o
other_harts f [] o = refl
other_harts f (x ∷ xs) zero = refl
other_harts f (x ∷ xs) (suc o) = other_harts f xs o

abbrev Runs : ℕ → HartState → Type 0
Runs n hart = (hart.life ≡ Running) × (hart.generation ≡ n)

-- it runs in its generation where it did
pub runs_on : (n : ℕ) (o p : Option HartState) → option_map ran o ≡ option_map ran p → IsSomeAnd o (Runs n) → IsSomeAnd p (Runs n)
runs_on n None p e h = absurd h
runs_on n (Some x) None e h = absurd cc
runs_on n (Some x) (Some y) e h =
    let k : ran x ≡ ran y = cc in
    let a : x.life ≡ y.life = ap (λ (r : Life × ℕ). r.0) k in
    let b : x.generation ≡ y.generation = ap (λ (r : Life × ℕ). r.1) k in
    (sym a ∙ h.0, sym b ∙ h.1)

-- the page that a hart holds is given back
pub held_given : (s : FlatState) (h n : ℕ) (hart : HartState) (access : Access) → slice_get s.harts h ≡ Some hart → access_in hart ≡ Some access → page_of access.va ≡ n → holds s h access ≡ true
    → give_back s h ≡ note_page (change_page s n (given_back s.limits.last_writes hart.put)) h n
held_given s h n hart access e acc at held =
    ap (give_back_by s h) e
    ∙ ap (give_back_of s h hart) acc
    ∙ ap (λ (b : Bool). if b then note_page (change_page s (page_of access.va) (given_back s.limits.last_writes hart.put)) h (page_of access.va) else s) held
    ∙ ap (λ (m : ℕ). note_page (change_page s m (given_back s.limits.last_writes hart.put)) h m) at
