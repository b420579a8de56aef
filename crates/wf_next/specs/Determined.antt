-- Where a hart has at most one next event.
use Rattle.std.specs.Prelude.{ℕ, [], Option, Some, None, IsSomeAnd, ◌≡◌, ◌⊎◌, false}
use Rattle.std.specs.List.{AllByRecursion}
use Rattle.wf_flat.specs.declared.event.Actor.TheVariants.{Hart}
use Rattle.wf_flat.specs.declared.event.Event.{Event}
use Rattle.wf_flat.specs.declared.state.Stage.TheVariants.{Going, Here}
use Rattle.wf_flat.specs.State.{FlatState, HartState, PageState}
use Rattle.wf_flat.specs.Memory.{data_in}
use Rattle.wf_flat.specs.Steps.{OfHart, is_inside}
use Rattle.wf_verdict.specs.declared.work.Todo.{Todo}
use Rattle.wf_verdict.specs.declared.work.Todo.TheVariants.{Exactly, Leaves}
use Rattle.wf_legal.specs.Calls.{Call, Doing, Settling}
use Rattle.wf_legal.specs.Legal.{Allows, Moment}
use Rattle.wf_next.specs.Next.{next_event}

-- the page of data is Here, and no hart but this holds it
abbrev pub IsOwn : ℕ → PageState → Type 0
IsOwn h page = (page.stage ≡ Here) × ((page.holder ≡ None) ⊎ (page.holder ≡ Some h))

-- A hart is in no try, and outside the kernel; or no page has moved since its fetch, every page of
-- data is Here, and no other hart holds one.
abbrev pub IsUndisturbed : FlatState → ℕ → HartState → Type 0
IsUndisturbed s h hart =
    ((hart.fetched ≡ None) × (is_inside s.inside (Hart h) ≡ false))
    ⊎ ((hart.moved ≡ []) × AllByRecursion (IsOwn h) s.pages)

-- a page that is to leave is there, and Going
abbrev pub IsGoingAway : FlatState → Todo → Type 0
IsGoingAway s (Exactly event) = Unit {0}
IsGoingAway s (Leaves page) = IsSomeAnd (data_in s.pages page) (λ found. found.stage ≡ Going)

-- the pages that an open call has still to let go are Going
abbrev pub LeavesAreGoing : FlatState → Option Call → Type 0
LeavesAreGoing s None = Unit {0}
LeavesAreGoing s (Some (Settling owed last)) = Unit {0}
LeavesAreGoing s (Some (Doing todo)) = AllByRecursion (IsGoingAway s) todo

-- what a hart that is undisturbed is allowed to do is its next event
abbrev pub NextEventsAreDetermined : Type 0
NextEventsAreDetermined =
    (m : Moment) (h : ℕ) (event : Event) → LeavesAreGoing m.flat m.call
    → OfHart m.flat h (IsUndisturbed m.flat h) → Allows m (Hart h) event
    → next_event m h ≡ Some event

-- a hart that is undisturbed has at most one next event
abbrev pub HartsAreDetermined : Type 0
HartsAreDetermined =
    (m : Moment) (h : ℕ) (one other : Event) → LeavesAreGoing m.flat m.call
    → OfHart m.flat h (IsUndisturbed m.flat h) → Allows m (Hart h) one
    → Allows m (Hart h) other → one ≡ other
