-- Which events harts alone make.
use Rattle.std.specs.Prelude.{Bool, true, false}
use Rattle.wf_flat.specs.declared.event.Event.{Event}
use Rattle.wf_flat.specs.declared.event.Event.TheVariants.{Fetch, Look, Take, Put, Swap, Miss, End, Again, Wait, Enter, Sync, Trap, Exit, Out, Idle, Map, Going, Ending, Gone, Born, Move, Dead, Refused}

-- an event that harts alone make
abbrev pub is_own : Event → Bool
is_own (Fetch pc word) = true
is_own (Look va width value) = true
is_own (Take page) = true
is_own (Put va width value) = true
is_own (Swap va width old new) = true
is_own (Miss va) = true
is_own (End pc) = true
is_own (Again page) = true
is_own (Wait on) = true
is_own (Sync generation page) = true
is_own (Trap cause value) = true
is_own (Exit code) = true
is_own (Move generation) = true
is_own Enter = false
is_own (Out byte) = false
is_own Idle = false
is_own (Map page n write patch) = false
is_own (Going page n) = false
is_own (Ending page) = false
is_own (Gone page worn) = false
is_own (Born generation parent patch) = false
is_own (Dead generation) = false
is_own (Refused reason) = false
