-- Runs of scripts.
use Rattle.std.specs.Prelude.{ℕ, List, ◌≡◌, ◌<◌}
use Rattle.wf_outside.specs.Images.{DeltaValue, ImageValue}
use Rattle.wf_outside.specs.Pages.{LimitsValue}
use Rattle.wf_flat.specs.declared.event.Entry.{Entry}
use Rattle.wf_flat.specs.Boot.{boot_of}
use Rattle.wf_legal.specs.Legal.{IsLegal, Moment, at_rest, end_of}
use Rattle.wf_script.specs.Commands.{ScriptValue}
use Rattle.wf_report.specs.Listings.{ListingValue}
use Rattle.wf_report.specs.Reports.{report_bytes}
use Rattle.wf_follow.specs.Places.{Place, place_at}
use Rattle.wf_follow.specs.Follows.{Follows}

-- so many harts at the start of the image, with these patches, and no call open
abbrev pub start_of : List DeltaValue → ImageValue → ℕ → LimitsValue → Moment
start_of deltas image harts limits = at_rest deltas (boot_of image harts limits)

-- The text is the report of one run of the flat machine: of one journal, which is legal from the
-- start and follows the script command by command, with the listings; and of the state at its end.
pub record IsRun (start : Moment) (script : ScriptValue) (text : List ℕ) : Type 0 where
  pub entries : List Entry
  pub listings : List ListingValue
  pub place : Place
  pub legal : IsLegal start entries
  pub follows : Follows script.commands (place_at start) entries listings place
  pub text_is : text ≡ report_bytes script.patches entries listings (end_of start entries).flat

-- fewer pages were mapped in a run than the last incarnation of a frame counts, so that no frame of
-- it is worn
abbrev pub WearsNone : {start : Moment} {script : ScriptValue} {text : List ℕ}
    → IsRun start script text → Type 0
WearsNone {start = start} run =
    (end_of start run.entries).flat.births < start.flat.limits.last_birth
