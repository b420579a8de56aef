-- What a machine keeps between two units.
use Rattle.std.specs.Prelude.{ℕ, List, Option, ◌≡◌, ◌≤◌, length}
use Rattle.wf_outside.specs.declared.sizes.TheConstants.{MOST_FRAMES}
use Rattle.wf_outside.specs.Images.{DeltaValue}
use Rattle.wf_flat.specs.declared.event.Entry.{Entry}
use Rattle.wf_flat.specs.State.{FlatState}
use Rattle.wf_homes.specs.Homes.{Homes}
use Rattle.wf_legal.specs.Legal.{IsLegal, at_rest, end_of}
use Rattle.wf_sound.specs.Sound.{IsSound}
use Rattle.wf_service.specs.Resting.{IsResting}
use Rattle.wf_driver.specs.Housing.{AreOwnHomesOf}

-- A machine with these patches rests, and has from 1 to 64 harts; and its entries are legal, and
-- led to it from a sound start, which had few births.
pub record IsReady (deltas : List DeltaValue) (flat : FlatState) (entries : List Entry)
    : Type 0 where
  pub rests : IsResting flat
  pub some : 1 ≤ length flat.harts
  pub few : length flat.harts ≤ 64
  pub start : FlatState
  pub sound : IsSound (at_rest deltas start)
  pub births : start.births ≤ MOST_FRAMES
  pub legal : IsLegal (at_rest deltas start) entries
  pub reached : at_rest deltas flat ≡ end_of (at_rest deltas start) entries

-- a machine is ready, and its homes, if it has some, account for so many of its entries
pub record IsKept (deltas : List DeltaValue) (flat : FlatState) (entries : List Entry)
    (homes : Option Homes) (accounted : ℕ) : Type 0 where
  pub ready : IsReady deltas flat entries
  pub housed : AreOwnHomesOf homes accounted entries flat
