-- What a hart does next, where it has at most one next event.
use Rattle.std.specs.Prelude.{ℕ, List, [], ◌∷◌, Option, Some, None, ◌%◌, ◌*◌, ◌^◌, ◌==◌, ◌&&◌, if◌then◌else◌, is_some, slice_get, option_and_then}
use Rattle.std.specs.Option.{option_map}
use Rattle.rv_alu.specs.Arithmetic.{amo_of}
use Rattle.rv_inst.specs.declared.want.Want.{Want}
use Rattle.rv_inst.specs.declared.want.Want.TheVariants as want
use Rattle.wf_outside.specs.declared.sizes.TheConstants.{PAGE_SIZE}
use Rattle.wf_outside.specs.Images.{DeltaValue}
use Rattle.wf_outside.specs.Pages.{PageValue, page_of}
use Rattle.wf_flat.specs.declared.event.Actor.{Actor}
use Rattle.wf_flat.specs.declared.event.Actor.TheVariants.{Hart}
use Rattle.wf_flat.specs.declared.event.Event.{Event}
use Rattle.wf_flat.specs.declared.event.Event.TheVariants.{Fetch, Look, Take, Put, Swap, Miss, End, Wait, Enter, Idle}
use Rattle.wf_flat.specs.declared.event.WaitFor.TheVariants as waits
use Rattle.wf_flat.specs.State.{FlatState, HartState, PageState}
use Rattle.wf_flat.specs.Memory.{number_in, word_at}
use Rattle.wf_flat.specs.Accesses.{Access, accessed_data, accessed_text, generation_text, holds}
use Rattle.wf_flat.specs.Steps.{access_in, arch_after, ask_of, is_conditional, is_done, is_inside, may_read, misses, want_in}
use Rattle.wf_effects.specs.Generations.{is_running}
use Rattle.wf_verdict.specs.declared.work.Todo.{Todo}
use Rattle.wf_verdict.specs.declared.work.Todo.TheVariants.{Exactly, Leaves}
use Rattle.wf_legal.specs.Calls.{Call, Doing, Settling, todo_by}
use Rattle.wf_legal.specs.Legal.{Moment}

-- an access reads its bytes in these words
abbrev pub look_in : List ℕ → Access → Event
look_in words access =
    Look access.va access.width (number_in words (access.va % PAGE_SIZE) access.width)

-- a read of this page of data: its look where it may read, and else it takes the page
abbrev pub next_of_data : FlatState → ℕ → HartState → Access → PageState → Event
next_of_data s h hart access page =
    if may_read s h hart access page then look_in page.words access else Take (page_of access.va)

-- a read: of its own text where its page is there, and else of the data
abbrev pub next_of_read : FlatState → ℕ → HartState → Access → Option PageValue → Option Event
next_of_read s h hart access None =
    option_map (λ page. next_of_data s h hart access page) (accessed_data s access)
next_of_read s h hart access (Some page) = Some (look_in page.words access)

-- what an instruction writes where it holds the page, and these bytes are there
abbrev pub write_of : Option Want → ℕ → Option Event
write_of (Some (want.Put va width value)) old = Some (Put va width (value % 2 ^ (8 * width)))
write_of (Some (want.PutIf va width value)) old = Some (Put va width (value % 2 ^ (8 * width)))
write_of (Some (want.Swap va width op value)) old =
    Some (Swap va width old (amo_of op (width == 8) old value))
write_of want old = None

-- a write that holds this page of data
abbrev pub next_of_held : HartState → Access → PageState → Option Event
next_of_held hart access page =
    write_of (want_in hart) (number_in page.words (access.va % PAGE_SIZE) access.width)

-- a write: it is made where the hart holds the page; a store-conditional misses where it may, and
-- else the page is taken
abbrev pub next_of_write : FlatState → ℕ → HartState → Access → Option Event
next_of_write s h hart access =
    if holds s h access
    then option_and_then (λ page. next_of_held hart access page) (accessed_data s access)
    else if is_conditional (want_in hart) && misses s hart access then Some (Miss access.va)
    else Some (Take (page_of access.va))

-- an access
abbrev pub next_of_access : FlatState → ℕ → HartState → Access → Option Event
next_of_access s h hart access =
    if access.write then next_of_write s h hart access
    else next_of_read s h hart access (accessed_text s hart access)

-- a hart in a try: the end of its instruction where that is done, and else its access
abbrev pub next_in_try : FlatState → ℕ → HartState → Option Event
next_in_try s h hart =
    if is_done hart (want_in hart) then Some (End (arch_after hart).pc)
    else option_and_then (λ access. next_of_access s h hart access) (access_in hart)

-- a hart that asks for nothing, by whether it is in a try
abbrev pub next_unasked : FlatState → ℕ → HartState → Option ℕ → Option Event
next_unasked s h hart None =
    option_map (λ word. Fetch hart.arch.pc word)
    (word_at (generation_text s hart.generation) hart.arch.pc)
next_unasked s h hart (Some word) = next_in_try s h hart

-- a hart that asks: it enters where nobody is inside, and else waits
abbrev pub next_asking : Option Actor → Event
next_asking None = Enter
next_asking (Some inside) = Wait (waits.Kernel inside)

-- hart h, which is this, outside the kernel
abbrev pub next_outside : FlatState → ℕ → HartState → Option Event
next_outside s h hart =
    if is_running hart.life
    then (if is_some (ask_of s h hart) then Some (next_asking s.inside)
    else next_unasked s h hart hart.fetched)
    else Some Idle

-- the first thing to do, where that is one event
abbrev pub next_to_do : List Todo → Option Event
next_to_do [] = None
next_to_do (Exactly event ∷ todo) = Some event
next_to_do (Leaves page ∷ todo) = None

-- hart h, which is this, in a call: where the call settles, what it asks for begins
abbrev pub next_inside : List DeltaValue → FlatState → ℕ → HartState → Option Call → Option Event
next_inside deltas s h hart None = None
next_inside deltas s h hart (Some (Settling owed last)) = next_to_do (todo_by deltas s h hart)
next_inside deltas s h hart (Some (Doing todo)) = next_to_do todo

-- hart h, which is this
abbrev pub next_by : Moment → ℕ → HartState → Option Event
next_by m h hart =
    if is_inside m.flat.inside (Hart h) then next_inside m.deltas m.flat h hart m.call
    else next_outside m.flat h hart

-- what the hart of a number does next, where that is determined
abbrev pub next_event : Moment → ℕ → Option Event
next_event m h = option_and_then (λ hart. next_by m h hart) (slice_get m.flat.harts h)
