-- The call in hand, as a value of the program.
use Rattle.std.specs.Prelude.{List, Bool, Option, true, false}
use Rattle.wf_outside.specs.Images.{DeltaValue}
use Rattle.wf_flat.specs.declared.event.Actor.{Actor}
use Rattle.wf_flat.specs.declared.event.Actor.TheVariants.{Kernel}
use Rattle.wf_flat.specs.declared.event.Event.{Event}
use Rattle.wf_flat.specs.declared.event.Event.TheVariants.{Idle}
use Rattle.wf_flat.specs.State.{FlatState}
use Rattle.wf_legal.specs.Calls.{Call, Doing, Settling}
use Rattle.wf_legal.specs.Legal.{Moment}
use Rattle.wf_goes.specs.declared.call.OpenCall.{OpenCall}
use Rattle.wf_goes.specs.declared.call.OpenCall.TheVariants as hand

-- the call that is in hand
abbrev pub said : OpenCall → Call
said (hand.Settling owed last) = Settling owed last
said (hand.Doing work) = Doing work

-- the machine with this call in hand
abbrev pub moment_of : List DeltaValue → FlatState → Option Call → Moment
moment_of deltas flat call = record { deltas = deltas; flat = flat; call = call }

-- the kernel's own actor idles
abbrev pub is_idle_kernel : Actor → Event → Bool
is_idle_kernel Kernel Idle = true
is_idle_kernel actor event = false
