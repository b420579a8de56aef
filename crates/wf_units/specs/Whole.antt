-- Every hart of a sound machine that rests has a unit.
use Rattle.std.specs.Prelude.{ℕ, List, ◌<◌, ◌+◌, ◌^◌}
use Rattle.wf_outside.specs.declared.sizes.TheConstants.{MOST_FRAMES}
use Rattle.wf_outside.specs.Images.{DeltaValue}
use Rattle.wf_flat.specs.declared.event.Event.{Event}
use Rattle.wf_flat.specs.State.{FlatState, HartState}
use Rattle.wf_units.specs.Units.{IsAtRest, IsLegalUnit}

-- a hart has a unit, which leads to a state
pub record HasUnit (deltas : List DeltaValue) (s : FlatState) (h : ℕ) : Type 0 where
  pub events : List Event
  pub new : FlatState
  pub is : IsLegalUnit deltas s h events new

-- whatever it stands at, a hart of a sound machine that rests, where births are left for all
-- frames, has a unit
abbrev pub HartsHaveUnits : Type 0
HartsHaveUnits =
    (deltas : List DeltaValue) (s : FlatState) (h : ℕ) (hart : HartState)
    → IsAtRest deltas s h hart → s.births + MOST_FRAMES < 2 ^ 64 → HasUnit deltas s h
