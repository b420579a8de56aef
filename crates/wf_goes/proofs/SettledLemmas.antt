-- What is in hand behind an event with which a call that settles goes on.
use Rattle.std.proofs.Common.{◌≡◌, ◌≢◌, ◌≤◌, ℕ, Bool, true, false, List, [], ◌∷◌, Option, Some, refl, inl, inr, subst, sym, ap, ◌∙◌, ◌↔◌, IsTrue, None, is_some}
use Rattle.std.specs.Prelude.{if◌then◌else◌, slice_get}
use Rattle.std.proofs.lemmas.Bool.{false≢true}
use Rattle.std.specs.List.{AllByRecursion}
use Rattle.wf_outside.specs.Images.{DeltaValue}
use Rattle.wf_flat.specs.declared.event.Actor.{Actor}
use Rattle.wf_flat.specs.declared.event.Actor.TheVariants.{Hart, Kernel}
use Rattle.wf_flat.specs.declared.event.Event.{Event}
use Rattle.wf_flat.specs.declared.event.Event.TheVariants.{Enter, Idle, Gone}
use Rattle.wf_flat.specs.State.{FlatState}
use Rattle.wf_flat.specs.Steps.{is_inside}
use Rattle.wf_legal.specs.Calls.{Begins, Doing, GoesOn, IsGone, Settles, Settling, call_behind, closes_call, later, settled_with, todo_with}
use Rattle.wf_legal.specs.Legal.{Moment, call_after}
use Rattle.wf_goes.specs.InHand.{is_idle_kernel}

-- the page of a Gone
gone_page : ℕ → Event → ℕ
gone_page other (Gone page worn) = page
gone_page other event = other

same_page : (s : FlatState) (n page : ℕ) (worn : Bool) → IsGone s n (Gone page worn) → n ≡ page
unfolding gone_page
same_page s n page worn (inl e) = sym (ap (gone_page 0) e)
same_page s n page worn (inr e) = sym (ap (gone_page 0) e.0)

-- none that is owed is below a page that goes
pub least_gone : (deltas : List DeltaValue) (s : FlatState) (actor : Actor) (owed : List ℕ) (last : Option ℕ) (page : ℕ) (worn : Bool) → GoesOn deltas s actor (Some (Settling owed last)) (Gone page worn) → AllByRecursion (λ other. page ≤ other) owed
least_gone deltas s actor owed last page worn (inl g) =
    subst (λ (n : ℕ). AllByRecursion (λ other. n ≤ other) owed) (same_page s g.page page worn g.is) g.first
least_gone deltas s actor owed last page worn (inr g) =
    subst (λ (pages : List ℕ). AllByRecursion (λ other. page ≤ other) pages) (sym g.0) tt

-- what is asked for begins with any other event
pub begins_other : (deltas : List DeltaValue) (s : FlatState) (actor : Actor) (owed : List ℕ) (last : Option ℕ) (event : Event) → ((page : ℕ) (worn : Bool) → event ≢ Gone page worn) → GoesOn deltas s actor (Some (Settling owed last)) event → Begins deltas s actor event
begins_other deltas s actor owed last event other (inl g) = elim g.is [
  | inl e ↦ absurd (other g.page false e)
  | inr e ↦ absurd (other g.page true e.0)
]
begins_other deltas s actor owed last event other (inr g) = g.1

-- and is then in hand
pub settled_other : (deltas : List DeltaValue) (s : FlatState) (actor : Actor) (owed : List ℕ) (event : Event) → ((page : ℕ) (worn : Bool) → event ≢ Gone page worn) → settled_with deltas s actor owed event ≡ Doing (later (todo_with deltas s actor event))
settled_other deltas s actor owed (Gone page worn) other = absurd (other page worn refl)
settled_other deltas s actor owed event other = refl

-- an actor that is not idle, and does not enter, goes on with its call where it is inside
other_after : (m : Moment) (actor : Actor) (event : Event) → is_idle_kernel actor event ≡ false → (event ≡ Enter → ⊥)
    → call_after m actor event ≡ (if is_inside m.flat.inside actor then (if closes_call actor event then None else call_behind m.deltas m.flat actor m.call event) else m.call)
other_after m Kernel Idle idle enter = absurd (false≢true (sym idle))
other_after m Kernel Enter idle enter = absurd (enter refl)
other_after m (Hart h) Enter idle enter = absurd (enter refl)
other_after m actor event idle enter = refl

pub after_inside : (m : Moment) (actor : Actor) (event : Event) → is_idle_kernel actor event ≡ false → (event ≡ Enter → ⊥) → is_inside m.flat.inside actor ≡ true
    → call_after m actor event ≡ (if closes_call actor event then None else call_behind m.deltas m.flat actor m.call event)
after_inside m actor event idle enter inside =
    other_after m actor event idle enter
    ∙ ap (λ (b : Bool). if b then (if closes_call actor event then None else call_behind m.deltas m.flat actor m.call event) else m.call) inside

-- none is owed where there is no first
pub none_owed : (owed : List ℕ) → is_some (slice_get owed 0) ≡ false → owed ≡ []
none_owed [] e = refl
none_owed (n ∷ owed) e = absurd (false≢true (sym e))

-- a call that owes nothing goes on with what is asked for alone, where it does not settle
pub settled_decides : (deltas : List DeltaValue) (s : FlatState) (actor : Actor) (owed : List ℕ) (last : Option ℕ) (event : Event) (b : Bool) → (Settles s owed last event → ⊥) → owed ≡ [] → IsTrue b ↔ Begins deltas s actor event → IsTrue b ↔ GoesOn deltas s actor (Some (Settling owed last)) event
settled_decides deltas s actor owed last event b settles none d =
    (λ t. inr (none, d.0 t), λ goes. d.1 (elim goes [ inl g ↦ absurd (settles g) | inr g ↦ g.1 ]))

pub ruleset settled_rules = (least_gone, begins_other, settled_other)
