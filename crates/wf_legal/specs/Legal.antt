-- Journals that the machine allows, and the state after them.
use Rattle.std.specs.Prelude.{List, [], ◌∷◌, Option, Some, None, if◌then◌else◌, MatchBool}
use Rattle.wf_outside.specs.Images.{DeltaValue}
use Rattle.wf_flat.specs.declared.event.Actor.{Actor}
use Rattle.wf_flat.specs.declared.event.Actor.TheVariants.{Kernel}
use Rattle.wf_flat.specs.declared.event.Event.{Event}
use Rattle.wf_flat.specs.declared.event.Event.TheVariants.{Enter, Idle}
use Rattle.wf_flat.specs.declared.event.Entry.{Entry}
use Rattle.wf_flat.specs.State.{FlatState}
use Rattle.wf_flat.specs.Steps.{MayAct, is_inside}
use Rattle.wf_legal.specs.Calls.{Call, GoesOn, Settling, call_behind, closes_call, owed_by}
use Rattle.wf_legal.specs.Events.{flat_after}

-- the machine between two entries: the patches of the run, the state, and the call that is open in
-- the kernel
pub record Moment : Type 0 where
  pub deltas : List DeltaValue
  pub flat : FlatState
  pub call : Option Call

-- no call is open
abbrev pub at_rest : List DeltaValue → FlatState → Moment
at_rest deltas flat = record { deltas = deltas; flat = flat; call = None }

-- An entry is allowed: of the actor that is inside, where its call goes on with it; of any other,
-- where it may act so outside. The kernel's own actor may idle anywhere.
abbrev pub Allows : Moment → Actor → Event → Type 0
Allows m Kernel Idle = Unit {0}
Allows m actor event =
    MatchBool (is_inside m.flat.inside actor) (GoesOn m.deltas m.flat actor m.call event)
    (MayAct m.flat actor event)

-- the call that is open after an entry
abbrev pub call_after : Moment → Actor → Event → Option Call
call_after m Kernel Idle = m.call
call_after m actor Enter = Some (Settling (owed_by m.flat) None)
call_after m actor event =
    if is_inside m.flat.inside actor
    then (if closes_call actor event then None
    else call_behind m.deltas m.flat actor m.call event)
    else m.call

-- the moment after an entry
abbrev pub after : Moment → Actor → Event → Moment
after m actor event = record {
  deltas = m.deltas;
  flat = flat_after m.deltas m.flat actor event;
  call = call_after m actor event;
}

-- each entry is allowed where it stands
abbrev pub IsLegal : Moment → List Entry → Type 0
IsLegal m [] = Unit {0}
IsLegal m (entry ∷ entries) =
    Allows m entry.actor entry.event × IsLegal (after m entry.actor entry.event) entries

-- the moment after all entries
abbrev pub end_of : Moment → List Entry → Moment
end_of m [] = m
end_of m (entry ∷ entries) = end_of (after m entry.actor entry.event) entries
