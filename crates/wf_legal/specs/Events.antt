-- What each entry changes.
use Rattle.std.specs.Prelude.{ℕ, List, [], ◌∷◌, Some}
use Rattle.std.specs.List.{range_with_len}
use Rattle.wf_outside.specs.Images.{DeltaValue}
use Rattle.wf_flat.specs.declared.event.Actor.{Actor}
use Rattle.wf_flat.specs.declared.event.Actor.TheVariants.{Hart, Kernel}
use Rattle.wf_flat.specs.declared.event.Event.{Event}
use Rattle.wf_flat.specs.declared.event.Event.TheVariants.{Fetch, Look, Take, Put, Swap, Miss, End, Again, Wait, Enter, Sync, Trap, Exit, Out, Idle, Map, Going, Ending, Gone, Born, Move, Dead, Refused}
use Rattle.wf_flat.specs.State.{FlatState}
use Rattle.wf_flat.specs.Refusals.{refused_answer}
use Rattle.wf_flat.specs.Changes.{answered, bytes_put, bytes_swapped, change_hart, entered, exited_with, fetched_with, leave_hart, looked_with, missed, page_met, page_taken, trapped_with, tried, try_ended, without}
use Rattle.wf_effects.specs.Effects.{delta_of, generation_born, generation_dead, hart_moved, mapped, page_ending, page_gone, pages_going, pages_noted}

-- what an actor changes that is a hart; the kernel's own actor changes nothing by it
abbrev pub by_hart : FlatState → Actor → (ℕ → FlatState) → FlatState
by_hart s (Hart h) change = change h
by_hart s Kernel change = s

-- an actor's call has its answer, if the actor is a hart
abbrev pub call_answered : FlatState → Actor → ℕ → FlatState
call_answered s actor answer = by_hart s actor (λ h. change_hart s h (answered answer))

-- the kernel's own actor, if it is this, leaves the kernel; a hart leaves it with the end of its
-- call
abbrev pub kernel_left : FlatState → Actor → FlatState
kernel_left s (Hart h) = s
kernel_left s Kernel = record s { inside = without s.inside Kernel }

-- What an event of an actor changes; all else stays.
abbrev pub flat_after : List DeltaValue → FlatState → Actor → Event → FlatState
flat_after deltas s actor (Fetch pc word) =
    by_hart s actor (λ h. change_hart s h (fetched_with word))
flat_after deltas s actor (Look va width value) =
    by_hart s actor (λ h. change_hart s h (looked_with s va width value))
flat_after deltas s actor (Take page) = by_hart s actor (λ h. page_taken s h page)
flat_after deltas s actor (Put va width value) =
    by_hart s actor (λ h. bytes_put s h va width value)
flat_after deltas s actor (Swap va width old new) =
    by_hart s actor (λ h. bytes_swapped s h va width old new)
flat_after deltas s actor (Miss va) = by_hart s actor (λ h. change_hart s h missed)
flat_after deltas s actor (End pc) = by_hart s actor (λ h. try_ended s h)
flat_after deltas s actor (Again page) = by_hart s actor (λ h. leave_hart s h tried)
flat_after deltas s actor (Wait on) = by_hart s actor (λ h. change_hart s h tried)
flat_after deltas s actor Enter = entered s actor
flat_after deltas s actor (Sync generation page) =
    by_hart s actor (λ h. page_met s h generation page)
flat_after deltas s actor (Trap cause value) =
    by_hart s actor (λ h. leave_hart s h (trapped_with cause value))
flat_after deltas s actor (Exit code) = by_hart s actor (λ h. leave_hart s h (exited_with code))
-- a byte that is put is answered by 0
flat_after deltas s actor (Out byte) = call_answered s actor 0
flat_after deltas s actor Idle = s
flat_after deltas s actor (Map page n write patch) =
    call_answered
    (pages_noted (mapped s page n write (delta_of deltas patch)) actor (range_with_len page n))
    actor 0
flat_after deltas s actor (Going page n) =
    call_answered (pages_noted (pages_going s page n) actor (range_with_len page n)) actor 0
flat_after deltas s actor (Ending page) = pages_noted (page_ending s page) actor (page ∷ [])
flat_after deltas s actor (Gone page worn) = pages_noted (page_gone s page worn) actor (page ∷ [])
flat_after deltas s actor (Born generation parent patch) =
    kernel_left (call_answered (generation_born deltas s parent patch) actor generation) actor
flat_after deltas s actor (Move generation) =
    by_hart s actor (λ h. hart_moved s h generation)
flat_after deltas s actor (Dead generation) =
    kernel_left (call_answered (generation_dead s generation) actor 0) actor
flat_after deltas s actor (Refused reason) =
    kernel_left (call_answered s actor (refused_answer reason)) actor
