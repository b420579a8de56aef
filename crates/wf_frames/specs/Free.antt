-- What the list of free frames keeps beside the frames.
use Rattle.std.specs.Prelude.{◌≡◌, ◌<◌, ◌≤◌, ℕ, List, Bool, true, false, length, slice_index_or, slice_set}
use Rattle.std.specs.List.{AllByRecursion}
use Rattle.wf_outside.specs.declared.sizes.TheConstants.{MOST_FRAMES}
use Rattle.wf_frames.specs.declared.state.Frame.{Frame}
use Rattle.wf_frames.specs.Frames.{free_numbers, places_from}

-- the free list has the numbers of the free frames and room for all frames; no incarnation is past
-- the last
pub record AreFrames (frames : List Frame) (free : List ℕ) (room last_birth : ℕ) : Type 0 where
  pub free_are : free ≡ free_numbers frames
  pub room_is : length frames ≤ room
  pub few : length frames ≤ MOST_FRAMES
  pub births : AllByRecursion (λ f. f.incarnation ≤ last_birth) frames

-- from the places of what is true, one goes that is true
abbrev pub TakesOut : List ℕ → List ℕ → ℕ → Type 0
TakesOut old new n = (bs : List Bool) → old ≡ places_from 0 bs → slice_index_or bs n false ≡ true
    → new ≡ places_from 0 (slice_set bs n false)

-- to the places of what is true, one comes that is false
abbrev pub PutsIn : List ℕ → List ℕ → ℕ → Type 0
PutsIn old new n =
    (bs : List Bool) → old ≡ places_from 0 bs → n < length bs → slice_index_or bs n false ≡ false
    → new ≡ places_from 0 (slice_set bs n true)
