-- Whole units of harts, and whole calls of the kernel's own actor.
use Rattle.std.specs.Prelude.{ℕ, List, ◌∷◌, ◌≡◌, Some, map, slice_get}
use Rattle.wf_outside.specs.Images.{DeltaValue}
use Rattle.wf_flat.specs.declared.event.Actor.TheVariants.{Hart}
use Rattle.wf_flat.specs.declared.event.Event.{Event}
use Rattle.wf_flat.specs.declared.event.Event.TheVariants.{Enter}
use Rattle.wf_flat.specs.declared.event.Entry.{Entry}
use Rattle.wf_flat.specs.Follows.{IsUnit}
use Rattle.wf_flat.specs.State.{FlatState, HartState}
use Rattle.wf_verdict.specs.declared.requests.Request.{Request}
use Rattle.wf_legal.specs.Legal.{IsLegal, at_rest, end_of}
use Rattle.wf_sound.specs.Sound.{IsSound}
use Rattle.wf_service.specs.Resting.{IsResting}
use Rattle.wf_request.specs.Requesting.{IsServed, by_kernel}

-- the entries of a hart's events
abbrev pub entries_by : ℕ → List Event → List Entry
entries_by h events = map (λ event. record { actor = Hart h; event = event }) events

-- From a state in which no call is open, these events of a hart are one legal unit, and lead to
-- this state, which rests.
pub record IsLegalUnit (deltas : List DeltaValue) (s : FlatState) (h : ℕ) (events : List Event)
    (new : FlatState) : Type 0 where
  pub legal : IsLegal (at_rest deltas s) (entries_by h events)
  pub reached : at_rest deltas new ≡ end_of (at_rest deltas s) (entries_by h events)
  pub rests : IsResting new
  pub unit : IsUnit h (entries_by h events)

-- From a state in which no call is open, the Enter of the kernel's own actor and these events are
-- its whole call with a request, and legal, and lead to this state, which rests.
pub record IsLegalCall (deltas : List DeltaValue) (s : FlatState) (request : Request)
    (events : List Event) (new : FlatState) : Type 0 where
  pub legal : IsLegal (at_rest deltas s) (map by_kernel (Enter ∷ events))
  pub reached : at_rest deltas new
      ≡ end_of (at_rest deltas s) (map by_kernel (Enter ∷ events))
  pub rests : IsResting new
  pub served : IsServed request deltas s (map by_kernel (Enter ∷ events))

-- a hart, which is this, is there in a sound machine that rests
pub record IsAtRest (deltas : List DeltaValue) (s : FlatState) (h : ℕ) (hart : HartState)
    : Type 0 where
  pub sound : IsSound (at_rest deltas s)
  pub rests : IsResting s
  pub there : slice_get s.harts h ≡ Some hart
