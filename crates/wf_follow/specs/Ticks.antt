-- Ticks: the pieces that `tick` makes. How finely they cut a try or a call is not said here: a piece
-- of a hart may have no entry.
use Rattle.std.specs.Prelude.{ℕ, List, [], ◌∷◌, Bool, true, false, Option, Some, None, ◌≡◌, ◌≢◌, ◌<◌, ◌≤◌, ◌+◌, ◌&&◌, ◌||◌, if◌then◌else◌, length, slice_index}
use Rattle.std.specs.List.{AllByRecursion, list_any}
use Rattle.wf_flat.specs.declared.event.Actor.{Actor}
use Rattle.wf_flat.specs.declared.event.Actor.TheVariants.{Hart, Kernel}
use Rattle.wf_flat.specs.declared.event.Event.{Event}
use Rattle.wf_flat.specs.declared.event.Event.TheVariants.{Fetch, Look, Take, Put, Swap, Miss, End, Again, Wait, Enter, Sync, Trap, Exit, Out, Idle, Map, Going, Ending, Gone, Born, Move, Dead, Refused}
use Rattle.wf_flat.specs.declared.event.Entry.{Entry}
use Rattle.wf_flat.specs.Steps.{OfHart, is_inside}
use Rattle.wf_effects.specs.Generations.{is_running}
use Rattle.wf_verdict.specs.declared.requests.Request.TheVariants.{Patches}
use Rattle.wf_legal.specs.Calls.{closes_kernel_call}
use Rattle.wf_legal.specs.Legal.{Moment, after}
use Rattle.wf_follow.specs.Places.{Place, Ticked, behind, paced}
use Rattle.wf_follow.specs.Requests.{IsOfRequest, ending_count, is_settling, most_of_call}
use Rattle.wf_follow.specs.Units.{only}

-- the events that a hart's ticks reach again and again: its try ends, it enters the kernel, waits or
-- idles
abbrev pub is_marker : Event → Bool
is_marker (End pc) = true
is_marker (Again page) = true
is_marker (Wait on) = true
is_marker Enter = true
is_marker Idle = true
is_marker (Fetch pc word) = false
is_marker (Look va width value) = false
is_marker (Take page) = false
is_marker (Put va width value) = false
is_marker (Swap va width old new) = false
is_marker (Miss va) = false
is_marker (Sync generation page) = false
is_marker (Trap cause value) = false
is_marker (Exit code) = false
is_marker (Out byte) = false
is_marker (Map page n write patch) = false
is_marker (Going page n) = false
is_marker (Ending page) = false
is_marker (Gone page worn) = false
is_marker (Born generation parent patch) = false
is_marker (Move generation) = false
is_marker (Dead generation) = false
is_marker (Refused reason) = false

-- Of a call that ticks entered, what an entry of its actor changes at a moment: its Enter begins the
-- count of pieces; and the most that it may have are those of what it asks for where its settling
-- ends.
abbrev pub ticked_by : Option ℕ → Moment → Actor → Event → Ticked → Ticked
ticked_by begun m actor Enter t =
    record {
      pieces = 0;
      ending = ending_count m.flat;
      most = most_of_call m begun (ending_count m.flat) actor;
    }
ticked_by begun m actor event t =
    if is_settling m.call && is_inside m.flat.inside actor
    then record t { most = most_of_call m begun t.ending actor }
    else t

-- so do the entries of a piece, one after another
abbrev pub ticked_over : Option ℕ → Moment → List Entry → Ticked → Ticked
ticked_over begun m [] t = t
ticked_over begun m (entry ∷ entries) t =
    ticked_over begun (after m entry.actor entry.event) entries
    (ticked_by begun m entry.actor entry.event t)

-- one piece more of a call that is open, and at a place outside none
abbrev pub one_piece_more : Bool → Ticked → Ticked
one_piece_more is_open t = if is_open then record t { pieces = t.pieces + 1 } else t

-- an actor has a call open
abbrev pub has_call_open : Place → Actor → Bool
has_call_open p actor = is_inside p.moment.flat.inside actor

-- the place behind a piece of an actor
abbrev pub ticked : Place → Actor → List Entry → Place
ticked p actor entries =
    record (behind p entries) {
      ticked = ticked_over p.begun p.moment entries
          (one_piece_more (has_call_open p actor) p.ticked);
    }

-- a piece of an actor: at most two entries, all of them its own; and no more pieces than a call may
-- have are in one that is open
pub record IsPiece (p : Place) (actor : Actor) (entries : List Entry) : Type 0 where
  pub few : length entries ≤ 2
  pub own : AllByRecursion (λ entry. entry.actor ≡ actor) entries
  pub closed : has_call_open p actor ≡ true
      → (ticked p actor entries).ticked.pieces ≤ (ticked p actor entries).ticked.most

-- a hart's ticks in a row without a marker: the piece that closes a call counts as one in the call
abbrev pub pace_behind : Place → ℕ → List Entry → ℕ
pace_behind p h entries =
    if has_call_open p (Hart h) || list_any (λ entry. is_marker entry.event) entries then 0
    else slice_index p.paces h + 1

-- A tick of a hart: a piece of it, with which fewer than 20 pieces came in a row without a marker.
-- Where it doesn't run, it idles.
pub record IsHartTick (h : ℕ) (p : Place) (entries : List Entry) (q : Place) : Type 0 where
  pub piece : IsPiece p (Hart h) entries
  pub pace : pace_behind p h entries < 20
  pub stopped : OfHart p.moment.flat h
      (λ hart. is_running hart.life ≡ false → entries ≡ only (Hart h) Idle)
  pub leads : q ≡ paced h (pace_behind p h entries) (ticked p (Hart h) entries)

-- entries of the kernel's own actor in a call of this patch: none idles, and with the one that
-- closes the call there is no more
abbrev pub AreOfPatch : ℕ → Moment → List Entry → Type 0
AreOfPatch patch m [] = Unit {0}
AreOfPatch patch m (entry ∷ entries) =
    (entry.event ≢ Idle) × IsOfRequest (Patches patch) m entry.event
    × (closes_kernel_call entry.event ≡ true → entries ≡ [])
    × AreOfPatch patch (after m entry.actor entry.event) entries

-- nothing is begun where nobody has a call open behind entries
abbrev pub begun_behind : Option Actor → ℕ → Option ℕ
begun_behind None patch = None
begun_behind (Some inside) patch = Some patch

-- a tick of the kernel's own actor in its call of this patch
pub record IsPatchTick (patch : ℕ) (p : Place) (entries : List Entry) (q : Place) : Type 0 where
  pub piece : IsPiece p Kernel entries
  pub asked : AreOfPatch patch p.moment entries
  pub leads : q
      ≡ record (ticked p Kernel entries) {
        begun = begun_behind (ticked p Kernel entries).moment.flat.inside patch;
      }

-- a tick of the kernel's own actor outside a call, where this patch was begun: it enters, or waits
pub record IsEntryTick (patch : ℕ) (p : Place) (entries : List Entry) (q : Place) : Type 0 where
  pub event : Event
  pub entries_are : entries ≡ only Kernel event
  pub no_idle : event ≢ Idle
  pub leads : q ≡ ticked p Kernel entries

-- a tick of the kernel's own actor where this was begun, by whether its call is open
abbrev pub IsBegunTick : Bool → ℕ → Place → List Entry → Place → Type 0
IsBegunTick true patch p entries q = IsPatchTick patch p entries q
IsBegunTick false patch p entries q = IsEntryTick patch p entries q

-- a tick of the kernel's own actor, by what was begun: where nothing was, it idles
abbrev pub IsKernelTick : Option ℕ → Place → List Entry → Place → Type 0
IsKernelTick None p entries q = (entries ≡ only Kernel Idle) × (q ≡ behind p entries)
IsKernelTick (Some patch) p entries q =
    IsBegunTick (has_call_open p Kernel) patch p entries q

-- a tick of an actor
abbrev pub IsTick : Actor → Place → List Entry → Place → Type 0
IsTick (Hart h) p entries q = IsHartTick h p entries q
IsTick Kernel p entries q = IsKernelTick p.begun p entries q
