-- What holds of the invariant.
use Rattle.std.specs.Prelude.{ℕ, List, ◌<◌, ◌≤◌, ◌+◌, ◌^◌, length}
use Rattle.std.specs.List.{AllByRecursion}
use Rattle.wf_outside.specs.declared.sizes.TheConstants.{MOST_FRAMES}
use Rattle.wf_outside.specs.Images.{DeltaValue, ImageValue, IsImage}
use Rattle.wf_outside.specs.Pages.{AreLimits, IsPage, LimitsValue}
use Rattle.wf_flat.specs.declared.event.Actor.{Actor}
use Rattle.wf_flat.specs.declared.event.Event.{Event}
use Rattle.wf_flat.specs.declared.event.Entry.{Entry}
use Rattle.wf_flat.specs.Boot.{boot_of}
use Rattle.wf_flat.specs.Counts.{used_of}
use Rattle.wf_verdict.specs.Verdict.{IsPatch, IsWithinLimits}
use Rattle.wf_legal.specs.Legal.{Allows, IsLegal, Moment, after, at_rest, end_of}
use Rattle.wf_sound.specs.Making.{CanBeMade}
use Rattle.wf_sound.specs.Sound.{IsDelta, IsSound}

-- a start of a run: an image of whole pages, at most 64 harts, sizes that suffice, and patches
pub record IsStart (deltas : List DeltaValue) (image : ImageValue) (harts : ℕ)
    (limits : LimitsValue) : Type 0 where
  pub is_image : IsImage image.text image.pages image.entry
  pub text : AllByRecursion (λ page. IsPage page.number page.words) image.text
  pub pages : AllByRecursion (λ page. IsPage page.number page.words) image.pages
  pub few_harts : harts ≤ 64
  pub sizes : AreLimits limits.frames limits.last_writes limits.last_birth
  pub frames : used_of (boot_of image harts limits) ≤ limits.frames
  pub patches : AllByRecursion IsDelta deltas
  pub few_patches : length deltas < 2 ^ 32

-- the invariant holds at the start of every run
abbrev pub StartsAreSound : Type 0
StartsAreSound =
    (deltas : List DeltaValue) (image : ImageValue) (harts : ℕ) (limits : LimitsValue)
    → IsStart deltas image harts limits → IsSound (at_rest deltas (boot_of image harts limits))

-- an entry that is allowed keeps the invariant
abbrev pub EntriesKeepSound : Type 0
EntriesKeepSound =
    (m : Moment) (actor : Actor) (event : Event) → IsSound m → Allows m actor event
    → IsSound (after m actor event)

-- it holds after a legal journal that begins where it holds
abbrev pub JournalsKeepSound : Type 0
JournalsKeepSound =
    (m : Moment) (entries : List Entry) → IsSound m → IsLegal m entries
    → IsSound (end_of m entries)

-- where it holds, and births are left for all frames, an entry that is allowed can be made
abbrev pub AllowedCanBeMade : Type 0
AllowedCanBeMade =
    (m : Moment) (actor : Actor) (event : Event) → IsSound m → m.flat.births + MOST_FRAMES < 2 ^ 64
    → Allows m actor event → CanBeMade m.deltas m.flat actor event

-- where it holds, the state is within what verdicts ask for, and each patch is one
abbrev pub SoundIsWithinLimits : Type 0
SoundIsWithinLimits =
    (m : Moment) → IsSound m → IsWithinLimits m.flat × AllByRecursion IsPatch m.deltas

-- Over a legal journal births rise by no more than there are entries, and frames: each page that is
-- mapped is there still, or went with an entry of its own.
abbrev pub BirthsAreFew : Type 0
BirthsAreFew =
    (m : Moment) (entries : List Entry) → IsSound m → IsLegal m entries
    → (end_of m entries).flat.births ≤ m.flat.births + MOST_FRAMES + length entries
