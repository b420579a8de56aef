-- The machine that runs a script, and what a command adds to it.
use Rattle.std.specs.Prelude.{ℕ, List, [], ◌++◌, ◌≡◌, ◌⊎◌, Bool, Option, Some, None, if◌then◌else◌, is_some, length, map, true}
use Rattle.wf_outside.specs.Images.{DeltaValue, ImageValue}
use Rattle.wf_outside.specs.Pages.{LimitsValue}
use Rattle.wf_flat.specs.declared.event.Entry.{Entry}
use Rattle.wf_flat.specs.Boot.{boot_of}
use Rattle.wf_flat.specs.State.{FlatState}
use Rattle.wf_homes.specs.Homes.{Homes, homes_at_boot}
use Rattle.wf_legal.specs.Legal.{IsLegal, Moment, at_rest, end_of}
use Rattle.wf_script.specs.declared.command.Command.{Command}
use Rattle.wf_script.specs.declared.command.Command.TheVariants.{Step, Tick, Run, Patch, Create, Delete, Tables, Regs, Mem}
use Rattle.wf_report.specs.Listings.{ListingValue}
use Rattle.wf_follow.specs.Places.{Place, unticked}
use Rattle.wf_follow.specs.Follows.{Obeys}
use Rattle.wf_follow.specs.Unbuilt.{IsCut}

-- A machine, without where it lies in memory: the patches of its run, its state, the homes of pages
-- and nodes, where its script lists page tables, its journal, its listings with their places, and
-- the hart that `run` stepped last.
pub record MachineValue : Type 0 where
  pub deltas : List DeltaValue
  pub flat : FlatState
  pub homes : Option Homes
  pub entries : List Entry
  pub listings : List ListingValue
  pub last : Option ℕ

-- no homes, where a place is asked for nothing that has to do with them
abbrev pub no_homes : Homes
no_homes = record { homes = []; worn = [] }

-- the homes at a start, where they are wanted
abbrev pub homes_wanted : Bool → FlatState → Option Homes
homes_wanted wanted s = if wanted then Some (homes_at_boot s) else None

-- so many harts at the start of an image, with these patches, and with homes or without
abbrev pub machine_at : List DeltaValue → ImageValue → ℕ → LimitsValue → Bool → MachineValue
machine_at deltas image harts limits wanted = record {
  deltas = deltas;
  flat = boot_of image harts limits;
  homes = homes_wanted wanted (boot_of image harts limits);
  entries = [];
  listings = [];
  last = None;
}

-- the moment at which a machine stands: no call is open
abbrev pub moment_of : MachineValue → Moment
moment_of machine = at_rest machine.deltas machine.flat

-- the place in its run where a machine stands, with these homes: nothing is begun, and it made no
-- tick
abbrev pub place_of : MachineValue → Homes → Place
place_of machine homes = record {
  moment = moment_of machine;
  homes = homes;
  made = length machine.entries;
  last = machine.last;
  begun = None;
  paces = map (λ hart. 0) machine.flat.harts;
  ticked = unticked;
}

-- these are the homes of a machine, if it has some
abbrev pub AreHomesIn : Option Homes → Homes → Type 0
AreHomesIn None homes = Unit {0}
AreHomesIn (Some own) homes = own ≡ homes

-- from a place of a machine with these homes something leads to one of a new machine, with the
-- homes then, if it has some
pub record IsLed (Leads : Place → Place → Type 0) (old new : MachineValue) (homes : Homes)
    : Type 0 where
  pub after : Homes
  pub own : AreHomesIn new.homes after
  pub leads : Leads (place_of old homes) (place_of new after)

-- so it does whatever the homes are, if they are those of the old machine, if it has some; and it
-- has some where the new one has
pub record LeadsOn (Leads : Place → Place → Type 0) (old new : MachineValue) : Type 0 where
  pub each : (homes : Homes) → AreHomesIn old.homes homes → IsLed Leads old new homes
  pub kept : is_some new.homes ≡ is_some old.homes

-- What a command added to a machine: legal entries that lead to the new state, and listings; they
-- are those of the command. The patches of the run stay.
pub record HasObeyed (command : Command) (old new : MachineValue) : Type 0 where
  pub made : List Entry
  pub listed : List ListingValue
  pub entries : new.entries ≡ old.entries ++ made
  pub listings : new.listings ≡ old.listings ++ listed
  pub legal : IsLegal (moment_of old) made
  pub reached : moment_of new ≡ end_of (moment_of old) made
  pub obeys : LeadsOn (λ p q. Obeys command p made listed q) old new

-- a command was cut short, between two of its units
pub record HasStopped (command : Command) (old new : MachineValue) : Type 0 where
  pub cut : Command
  pub is_cut : IsCut cut command
  pub obeyed : HasObeyed cut old new

-- nothing was added, or the command was cut short
abbrev pub StandsBetween : Command → MachineValue → MachineValue → Type 0
StandsBetween command old new = (new ≡ old) ⊎ HasStopped command old new

-- a command may be given to a machine that has homes, or not: it has where page tables are to be
-- listed
abbrev pub MayList : Bool → Command → Type 0
MayList housed (Tables generation) = housed ≡ true
MayList housed (Step h n) = Unit {0}
MayList housed (Tick actor n) = Unit {0}
MayList housed (Run n) = Unit {0}
MayList housed (Patch index begin) = Unit {0}
MayList housed (Create generation) = Unit {0}
MayList housed (Delete generation) = Unit {0}
MayList housed (Regs hart) = Unit {0}
MayList housed (Mem va n) = Unit {0}
