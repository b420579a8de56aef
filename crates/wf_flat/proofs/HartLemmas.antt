-- One element of a list changes.
use Rattle.std.proofs.Common.{◌≡◌, ◌<◌, ℕ, List, Some, length, sym, ap, ◌∙◌, inl, inr, length-set}
use Rattle.std.specs.Prelude.{slice_get, slice_set}
use Rattle.std.specs.Option.{option_map}
use Rattle.std.proofs.lemmas.Option.{slice_get_cases, slice_get-get_or}
use Rattle.std.proofs.lemmas.List.{get_or-set_same}
use Rattle.wf_flat.specs.Lists.{changed_at}

-- an element that was set is there
pub get_set : {A : Type 0} (xs : List A) (i : ℕ) (x : A) → i < length xs → slice_get (slice_set xs i x) i ≡ Some x
get_set xs i x h =
    let inside : i < length (slice_set xs i x) = rw length-set h in
    slice_get-get_or (slice_set xs i x) i x inside ∙ ap Some (get_or-set_same xs i x x h)

-- an element that was changed is there
pub changed_get : {A : Type 0} (xs : List A) (i : ℕ) (f : A → A) (x : A) → slice_get xs i ≡ Some x → slice_get (changed_at xs i f) i ≡ Some (f x)
changed_get xs i f x e =
    elim (slice_get_cases xs i).1 [
      | inl w ↦ rw e (get_set xs i (f x) w.1)
      | inr w ↦ absurd (cc)
    ]

-- what stands there afterwards
pub get-changed_at : {A : Type 0} (xs : List A) (i : ℕ) (f : A → A) → slice_get (changed_at xs i f) i ≡ option_map f (slice_get xs i)
get-changed_at xs i f =
    elim (slice_get_cases xs i).1 [
      | inl w ↦ (changed_get xs i f w.0 w.2 ∙ sym (ap (option_map f) w.2))
      | inr w ↦ rw w.1 (w.1)
    ]

pub ruleset hart_changes = get-changed_at
