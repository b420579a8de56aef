-- How far a machine followed a script, and why it did not start.
use Rattle.std.specs.Prelude.{List, Bool, true, false, ◌++◌, ◌≡◌, ◌<◌}
use Rattle.std.specs.List.{list_any}
use Rattle.wf_outside.specs.Images.{ImageValue}
use Rattle.wf_flat.specs.declared.event.Entry.{Entry}
use Rattle.wf_legal.specs.Legal.{IsLegal, end_of}
use Rattle.wf_script.specs.declared.command.Command.{Command}
use Rattle.wf_script.specs.declared.command.Command.TheVariants.{Step, Tick, Run, Patch, Create, Delete, Tables, Regs, Mem}
use Rattle.wf_status.specs.declared.status.Status.{Status}
use Rattle.wf_status.specs.declared.status.Status.TheVariants as status
use Rattle.wf_status.specs.declared.status.LimitKind.TheVariants.{Frames}
use Rattle.wf_report.specs.Listings.{ListingValue}
use Rattle.wf_follow.specs.Follows.{Follows}
use Rattle.wf_driver.specs.Machines.{LeadsOn, MachineValue, moment_of}
use Rattle.wf_usage.specs.declared.sizes.Sizes.{Sizes}
use Rattle.wf_run.specs.Stages.{frames_used}

-- the command lists a page table
abbrev pub is_tables : Command → Bool
is_tables (Tables generation) = true
is_tables (Step h n) = false
is_tables (Tick actor n) = false
is_tables (Run n) = false
is_tables (Patch index begin) = false
is_tables (Create generation) = false
is_tables (Delete generation) = false
is_tables (Regs hart) = false
is_tables (Mem va n) = false

-- one of the commands does
abbrev pub list_tables : List Command → Bool
list_tables commands = list_any is_tables commands

-- what commands, one after another, added to a machine
pub record HasFollowed (commands : List Command) (old new : MachineValue) : Type 0 where
  pub made : List Entry
  pub listed : List ListingValue
  pub entries : new.entries ≡ old.entries ++ made
  pub listings : new.listings ≡ old.listings ++ listed
  pub legal : IsLegal (moment_of old) made
  pub reached : moment_of new ≡ end_of (moment_of old) made
  pub follows : LeadsOn (λ p q. Follows commands p made listed q) old new

-- the statuses of the start of a run, and when they come
abbrev pub IsStartStatus : Sizes → ImageValue → Status → Type 0
IsStartStatus sizes image status.Memory = Unit {0}
IsStartStatus sizes image (status.Limit Frames number most) =
    (number ≡ frames_used sizes image) × (most ≡ sizes.frames) × (most < number)
IsStartStatus sizes image other = ⊥
