-- Processes: what contracts see of one, how an entry comes to it, and what it keeps.
use Rattle.std.specs.Prelude.{ℕ, List, [], ◌∷◌, ◌++◌, ◌-◌, ◌≤◌, max}
use Rattle.wf_outside.specs.declared.sizes.TheConstants.{MOST_FRAMES}
use Rattle.wf_outside.specs.Images.{DeltaValue, ImageValue}
use Rattle.wf_outside.specs.Pages.{LimitsValue}
use Rattle.wf_views.specs.Lists.{RoomyValue}
use Rattle.wf_flat.specs.declared.event.Actor.{Actor}
use Rattle.wf_flat.specs.declared.event.Entry.{Entry}
use Rattle.wf_flat.specs.declared.event.Event.{Event}
use Rattle.wf_flat.specs.Boot.{boot_of}
use Rattle.wf_legal.specs.Legal.{IsLegal, Moment, after, at_rest, end_of}
use Rattle.wf_sound.specs.Sound.{IsSound}
use Rattle.wf_process.specs.Bodies.{BodyValue, IsBodyOf}

-- a process, without where it lies in memory: the moment at which it stands, what it did so far,
-- and how many more entries come without memory
pub record ProcessValue : Type 0 where
  pub moment : Moment
  pub entries : List Entry
  pub room : ℕ

-- the moment at which a process starts: so many harts at the start of an image, with patches of its
-- run
abbrev pub start_of : List DeltaValue → ImageValue → ℕ → LimitsValue → Moment
start_of deltas image harts limits = at_rest deltas (boot_of image harts limits)

-- a process that started at a moment, and what it did so far
abbrev pub process_from : Moment → RoomyValue Entry → ProcessValue
process_from start entries =
    record { moment = end_of start entries.items; entries = entries.items; room = entries.room }

-- a process that has done nothing yet
abbrev pub process_at : Moment → ProcessValue
process_at start = record { moment = start; entries = []; room = 0 }

-- an actor does one more thing
unfoldable pub with_entry : Actor → Event → ProcessValue → ProcessValue
with_entry actor event p =
    record {
      moment = after p.moment actor event;
      entries = p.entries ++ record { actor = actor; event = event } ∷ [];
      room = p.room - 1;
    }

-- actors do these things, one after another
abbrev pub with_entries : List Entry → ProcessValue → ProcessValue
with_entries [] p = p
with_entries (entry ∷ entries) p = with_entries entries (with_entry entry.actor entry.event p)

-- a process with room for so many entries, unless it has more already
abbrev pub with_room : ℕ → ProcessValue → ProcessValue
with_room room p = record p { room = max p.room room }

-- Where a process started at a moment and did this, its body stands for the state that its entries
-- led to: they are legal, and it started where the invariant holds, with few births.
pub record IsProcess (start : Moment) (entries : List Entry) (body : BodyValue) : Type 0 where
  pub sound : IsSound start
  pub births : start.flat.births ≤ MOST_FRAMES
  pub legal : IsLegal start entries
  pub stands : IsBodyOf (end_of start entries).flat body
