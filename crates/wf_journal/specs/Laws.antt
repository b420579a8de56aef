-- Entries whose fields have their sizes.
use Rattle.std.specs.Prelude.{◌<◌, ◌^◌, ℕ, Option, Some, None}
use Rattle.wf_flat.specs.declared.event.Actor.{Actor}
use Rattle.wf_flat.specs.declared.event.Actor.TheVariants.{Hart, Kernel}
use Rattle.wf_flat.specs.declared.event.Entry.{Entry}
use Rattle.wf_flat.specs.declared.event.Event.{Event}
use Rattle.wf_flat.specs.declared.event.Event.TheVariants.{Fetch, Look, Take, Put, Swap, Miss, End, Again, Wait, Enter, Sync, Trap, Exit, Out, Idle, Map, Going, Ending, Gone, Born, Move, Dead, Refused}
use Rattle.wf_flat.specs.declared.event.WaitFor.{WaitFor}
use Rattle.wf_flat.specs.declared.event.WaitFor.TheVariants as wait
use Rattle.wf_outside.specs.declared.refusal.Refusal.{Refusal}
use Rattle.wf_outside.specs.declared.refusal.Refusal.TheVariants.{Argument, Overlap, Absent, Leaving, NoFrames, NoView, NotEmpty, Inside, Views, Number, Lacks}

-- a hart's number has 8 bits
abbrev pub IsActor : Actor → Type 0
IsActor (Hart h) = h < 2 ^ 8
IsActor Kernel = Unit {0}

-- an actor of a run with so many harts
abbrev pub IsThere : ℕ → Actor → Type 0
IsThere harts (Hart h) = h < harts
IsThere harts Kernel = Unit {0}

-- the number of a patch has 32 bits
abbrev pub IsPatch : Option ℕ → Type 0
IsPatch None = Unit {0}
IsPatch (Some k) = k < 2 ^ 32

-- what is waited for has its size
abbrev pub IsWaited : WaitFor → Type 0
IsWaited (wait.Page page) = page < 2 ^ 32
IsWaited (wait.Kernel actor) = IsActor actor

-- the numbers of a reason have their sizes
abbrev pub IsReason : Refusal → Type 0
IsReason Argument = Unit {0}
IsReason (Overlap page) = page < 2 ^ 32
IsReason (Absent page) = page < 2 ^ 32
IsReason (Leaving page) = page < 2 ^ 32
IsReason (NoFrames need free) = (need < 2 ^ 64) × (free < 2 ^ 64)
IsReason (NoView generation) = generation < 2 ^ 64
IsReason (NotEmpty hart) = hart < 2 ^ 8
IsReason (Inside at) = at < 2 ^ 64
IsReason Views = Unit {0}
IsReason (Number n) = n < 2 ^ 64
IsReason (Lacks n) = n < 2 ^ 64

-- the fields of an event have their sizes
abbrev pub IsEvent : Event → Type 0
IsEvent (Fetch pc word) = (pc < 2 ^ 64) × (word < 2 ^ 32)
IsEvent (Look va width value) = (va < 2 ^ 64) × (width < 2 ^ 8) × (value < 2 ^ 64)
IsEvent (Take page) = page < 2 ^ 32
IsEvent (Put va width value) = (va < 2 ^ 64) × (width < 2 ^ 8) × (value < 2 ^ 64)
IsEvent (Swap va width old new) = (va < 2 ^ 64) × (width < 2 ^ 8) × (old < 2 ^ 64) × (new < 2 ^ 64)
IsEvent (Miss va) = va < 2 ^ 64
IsEvent (End pc) = pc < 2 ^ 64
IsEvent (Again page) = page < 2 ^ 32
IsEvent (Wait on) = IsWaited on
IsEvent Enter = Unit {0}
IsEvent (Sync generation page) = (generation < 2 ^ 32) × (page < 2 ^ 32)
IsEvent (Trap cause value) = (cause < 2 ^ 8) × (value < 2 ^ 64)
IsEvent (Exit code) = code < 2 ^ 64
IsEvent (Out byte) = byte < 2 ^ 8
IsEvent Idle = Unit {0}
IsEvent (Map page n write patch) = (page < 2 ^ 32) × (n < 2 ^ 64) × IsPatch patch
IsEvent (Going page n) = (page < 2 ^ 32) × (n < 2 ^ 64)
IsEvent (Ending page) = page < 2 ^ 32
IsEvent (Gone page worn) = page < 2 ^ 32
IsEvent (Born generation parent patch) = (generation < 2 ^ 32) × (parent < 2 ^ 32) × IsPatch patch
IsEvent (Move generation) = generation < 2 ^ 32
IsEvent (Dead generation) = generation < 2 ^ 32
IsEvent (Refused reason) = IsReason reason

-- an entry of a run with so many harts, whose fields have their sizes
pub record IsEntry (harts : ℕ) (entry : Entry) : Type 0 where
  pub named : IsActor entry.actor
  pub there : IsThere harts entry.actor
  pub event : IsEvent entry.event
