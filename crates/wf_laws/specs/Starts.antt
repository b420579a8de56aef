-- Fronts of journals, and the state at the start of a run.
use Rattle.std.specs.Prelude.{ℕ, List, ◌++◌, ◌≡◌, length}
use Rattle.std.specs.List.{AllByRecursion}
use Rattle.wf_outside.specs.declared.sizes.TheConstants.{PAGE_WORDS}
use Rattle.wf_outside.specs.Images.{ImageValue}
use Rattle.wf_outside.specs.Pages.{LimitsValue}
use Rattle.wf_flat.specs.declared.event.Entry.{Entry}
use Rattle.wf_flat.specs.Boot.{boot_of}
use Rattle.wf_flat.specs.State.{FlatState}
use Rattle.wf_legal.specs.Legal.{Moment, IsLegal}
use Rattle.wf_laws.specs.Bytes.{HasWholePages}
use Rattle.wf_laws.specs.Conditionals.{HasNoReservation, HasOldBirths, HoldsNone}
use Rattle.wf_laws.specs.Dead.{RunsInLive, StandsByNumber}
use Rattle.wf_laws.specs.Holders.{HoldersTry}

-- A journal that a legal one begins with is legal.
abbrev pub FrontsAreLegal : Type 0
FrontsAreLegal =
    (m : Moment) (front back : List Entry) → IsLegal m (front ++ back) → IsLegal m front

-- the premises of the laws on a state
pub record IsQuietState (s : FlatState) : Type 0 where
  pub holds_none : HoldsNone s
  pub holders_try : HoldersTry s
  pub no_reservation : HasNoReservation s
  pub whole_pages : HasWholePages s
  pub old_births : HasOldBirths s
  pub by_number : StandsByNumber s
  pub in_live : RunsInLive s

-- At the start of every run of an image whose pages of data have 512 words each, as all have, the
-- premises hold.
abbrev pub StartsAreQuiet : Type 0
StartsAreQuiet =
    (image : ImageValue) (harts : ℕ) (limits : LimitsValue)
    → AllByRecursion (λ page. length page.words ≡ PAGE_WORDS) image.pages
    → IsQuietState (boot_of image harts limits)
