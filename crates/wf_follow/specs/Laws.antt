-- What holds of all runs of scripts that are built.
use Rattle.std.specs.Prelude.{ℕ, List, ◌≡◌}
use Rattle.std.specs.List.{AllByRecursion}
use Rattle.wf_outside.specs.Images.{DeltaValue, ImageValue}
use Rattle.wf_outside.specs.Pages.{LimitsValue}
use Rattle.wf_flat.specs.declared.event.Event.{Event}
use Rattle.wf_flat.specs.declared.event.Event.TheVariants.{Again, Wait}
use Rattle.wf_flat.specs.declared.event.Entry.{Entry}
use Rattle.wf_legal.specs.Legal.{IsLegal}
use Rattle.wf_script.specs.declared.command.Command.{Command}
use Rattle.wf_script.specs.Commands.{ScriptValue}
use Rattle.wf_report.specs.Listings.{ListingValue}
use Rattle.wf_follow.specs.Places.{Place, place_at}
use Rattle.wf_follow.specs.Follows.{Follows}
use Rattle.wf_follow.specs.Unbuilt.{AreBuilt}
use Rattle.wf_follow.specs.Runs.{IsRun, WearsNone, start_of}

-- A script has at most one report, where no frame is worn: whether a page that goes takes its frame
-- with it is not said by the flat machine once that many pages were mapped.
abbrev pub ReportsAreOne : Type 0
ReportsAreOne =
    (deltas : List DeltaValue) (image : ImageValue) (harts : ℕ) (limits : LimitsValue)
    (script : ScriptValue) (one other : List ℕ) → AreBuilt script.commands
    → (run : IsRun (start_of deltas image harts limits) script one) → WearsNone run
    → IsRun (start_of deltas image harts limits) script other → one ≡ other

-- the event gives a try up
abbrev pub GivesUp : Event → Type 0
GivesUp (Again page) = Unit {0}
GivesUp (Wait on) = Unit {0}
GivesUp event = ⊥

-- in a run of whole units no try is given up: a unit of a hart that runs is a whole instruction, a
-- whole call, an exit or a trap
abbrev pub UnitsAreWhole : Type 0
UnitsAreWhole =
    (deltas : List DeltaValue) (image : ImageValue) (harts : ℕ) (limits : LimitsValue)
    (commands : List Command) (entries : List Entry) (listings : List ListingValue)
    (place : Place) → AreBuilt commands → IsLegal (start_of deltas image harts limits) entries
    → Follows commands (place_at (start_of deltas image harts limits)) entries listings place
    → AllByRecursion (λ entry. GivesUp entry.event → ⊥) entries
