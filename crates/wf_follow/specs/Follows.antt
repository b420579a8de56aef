-- How a journal and its listings follow a script: a block for each command, in order.
use Rattle.std.specs.Prelude.{ℕ, List, [], ◌∷◌, ◌++◌, true, false, Option, Some, None, ◌≡◌}
use Rattle.wf_flat.specs.declared.event.Actor.{Actor}
use Rattle.wf_flat.specs.declared.event.Actor.TheVariants.{Kernel}
use Rattle.wf_flat.specs.declared.event.Event.TheVariants.{Idle, Wait}
use Rattle.wf_flat.specs.declared.event.WaitFor.TheVariants as waits
use Rattle.wf_flat.specs.declared.event.Entry.{Entry}
use Rattle.wf_verdict.specs.declared.requests.Request.{Request}
use Rattle.wf_verdict.specs.declared.requests.Request.TheVariants.{Clones, Deletes, Patches}
use Rattle.wf_script.specs.declared.command.Command.{Command}
use Rattle.wf_script.specs.declared.command.Command.TheVariants as command
use Rattle.wf_report.specs.Listings.{ListingValue, mem_lines, regs_lines}
use Rattle.wf_tables.specs.Tables.{tables_lines}
use Rattle.wf_follow.specs.Places.{Place, behind}
use Rattle.wf_follow.specs.Units.{IsTurn, IsUnitOf, Stays, Times, only}
use Rattle.wf_follow.specs.Requests.{IsWholeCall}
use Rattle.wf_follow.specs.Ticks.{IsTick}

-- what a call of the kernel's own actor makes outside a call of its own: it waits where another is
-- inside, and else makes a whole call with the request
abbrev pub IsCallOrWait : Request → Option Actor → Place → List Entry → Type 0
IsCallOrWait request (Some inside) p entries =
    entries ≡ only Kernel (Wait (waits.Kernel inside))
IsCallOrWait request None p entries = IsWholeCall request p.moment entries

-- what it makes, by what was begun: it idles where that is not closed
abbrev pub IsCallUnless : Request → Option ℕ → Place → List Entry → Type 0
IsCallUnless request (Some patch) p entries = entries ≡ only Kernel Idle
IsCallUnless request None p entries = IsCallOrWait request p.moment.flat.inside p entries

-- the call of a `patch`, `create` or `delete`
abbrev pub IsCallOf : Request → Place → List Entry → Place → Type 0
IsCallOf request p entries q = IsCallUnless request p.begun p entries × (q ≡ behind p entries)

-- `begin patch`, by what was begun: the call of the patch stands ready for ticks; where another is
-- not closed, the kernel's own actor idles
abbrev pub BeginsPatch : ℕ → Option ℕ → Place → List Entry → Place → Type 0
BeginsPatch patch None p entries q = Stays (record p { begun = Some patch }) entries q
BeginsPatch patch (Some other) p entries q =
    (entries ≡ only Kernel Idle) × (q ≡ behind p entries)

-- the entries of a command lead from a place to another; a listing has none
abbrev pub IsBlock : Command → Place → List Entry → Place → Type 0
IsBlock (command.Step h n) p entries q = Times n (IsUnitOf h) p entries q
IsBlock (command.Tick actor n) p entries q = Times n (IsTick actor) p entries q
IsBlock (command.Run n) p entries q = Times n IsTurn p entries q
IsBlock (command.Patch index false) p entries q = IsCallOf (Patches index) p entries q
IsBlock (command.Patch index true) p entries q = BeginsPatch index p.begun p entries q
IsBlock (command.Create generation) p entries q = IsCallOf (Clones generation) p entries q
IsBlock (command.Delete generation) p entries q = IsCallOf (Deletes generation) p entries q
IsBlock (command.Tables generation) p entries q = Stays p entries q
IsBlock (command.Regs hart) p entries q = Stays p entries q
IsBlock (command.Mem va n) p entries q = Stays p entries q

-- one listing at a place, whose lines are so
pub record HasListing (p : Place) (listings : List ListingValue) (Are : List ℕ → Type 0)
    : Type 0 where
  pub lines : List ℕ
  pub is : listings ≡ record { place = p.made; lines = lines } ∷ []
  pub are : Are lines

-- what a command lists at a place
abbrev pub IsListing : Command → Place → List ListingValue → Type 0
IsListing (command.Tables generation) p listings =
    HasListing p listings (λ lines. lines ≡ tables_lines generation p.homes p.moment.flat)
IsListing (command.Regs hart) p listings =
    HasListing p listings (λ lines. lines ≡ regs_lines hart p.moment.flat)
IsListing (command.Mem va n) p listings =
    HasListing p listings (λ lines. lines ≡ mem_lines va n p.moment.flat)
IsListing (command.Step h n) p listings = listings ≡ []
IsListing (command.Tick actor n) p listings = listings ≡ []
IsListing (command.Run n) p listings = listings ≡ []
IsListing (command.Patch index begin) p listings = listings ≡ []
IsListing (command.Create generation) p listings = listings ≡ []
IsListing (command.Delete generation) p listings = listings ≡ []

-- the entries and listings of a command lead from a place to another
pub record Obeys (command : Command) (p : Place) (entries : List Entry)
    (listings : List ListingValue) (q : Place) : Type 0 where
  pub block : IsBlock command p entries q
  pub listing : IsListing command p listings

-- a journal and listings begin with those of a command, and go on so from the place behind it
pub record HasBlock (command : Command)
    (Rest : Place → List Entry → List ListingValue → Place → Type 0) (p : Place)
    (entries : List Entry) (listings : List ListingValue) (q : Place) : Type 0 where
  pub mid : Place
  pub front : List Entry
  pub back : List Entry
  pub joined : entries ≡ front ++ back
  pub first : List ListingValue
  pub others : List ListingValue
  pub listed : listings ≡ first ++ others
  pub obeys : Obeys command p front first mid
  pub rest : Rest mid back others q

-- a journal and listings follow commands from a place to another: there is a block for each, in
-- order
abbrev pub Follows : List Command → Place → List Entry → List ListingValue → Place → Type 0
Follows [] p entries listings q = Stays p entries q × (listings ≡ [])
Follows (command ∷ commands) p entries listings q =
    HasBlock command (Follows commands) p entries listings q
