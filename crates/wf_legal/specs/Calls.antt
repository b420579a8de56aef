-- The call that is open in the kernel: what may still come of it.
use Rattle.std.specs.Prelude.{ℕ, List, [], ◌∷◌, ◌++◌, Bool, true, false, Option, Some, None, ◌≡◌, ◌⊎◌, ◌≤◌, ◌==◌, ◌&&◌, not, if◌then◌else◌, is_some, map, nat_lt, slice_get, unwrap_or, IsSomeAnd, MatchBool}
use Rattle.std.specs.Option.{option_map}
use Rattle.std.specs.List.{AllByRecursion, filter}
use Rattle.rv_inst.specs.declared.causes.TheConstants.{LOAD_PAGE_FAULT, STORE_PAGE_FAULT}
use Rattle.rv_inst.specs.Meanings.{next_pc}
use Rattle.wf_outside.specs.Images.{DeltaValue}
use Rattle.wf_flat.specs.declared.event.Actor.{Actor}
use Rattle.wf_flat.specs.declared.event.Actor.TheVariants.{Hart, Kernel}
use Rattle.wf_flat.specs.declared.event.Event.{Event}
use Rattle.wf_flat.specs.declared.event.Event.TheVariants.{Fetch, Look, Take, Put, Swap, Miss, End, Again, Wait, Enter, Sync, Trap, Exit, Out, Idle, Map, Going, Ending, Gone, Born, Move, Dead, Refused}
use Rattle.wf_flat.specs.State.{FlatState, HartState, PageState}
use Rattle.wf_flat.specs.Memory.{data_in, has_met}
use Rattle.wf_flat.specs.Accesses.{Access, accessed_data, accessed_text, has_right, is_ending, is_free, is_here}
use Rattle.wf_flat.specs.Steps.{Ask, Called, Faulted, OfHart, Stopped, ask_of}
use Rattle.wf_verdict.specs.declared.requests.Request.{Request}
use Rattle.wf_verdict.specs.declared.requests.Request.TheVariants.{Exits, PutsByte, Maps, Unmaps, TellsGeneration, Migrates, Quiesces, Deletes, Clones, Patches, NoCall}
use Rattle.wf_verdict.specs.declared.work.Todo.{Todo}
use Rattle.wf_verdict.specs.declared.work.Todo.TheVariants.{Exactly, Leaves}
use Rattle.wf_verdict.specs.Requests.{IsKernelRequest, requested_by}
use Rattle.wf_verdict.specs.Work.{done_about}

-- a call in hand
pub data Call : Type 0 where
  -- Its Enter came, and it settles: it lets those pages go that are Ending and that nobody holds.
  -- Of those that were so at its Enter it owes these still; and this one was the last that went.
  Settling : List ℕ → Option ℕ → Call
  -- it has these things still to do, in this order
  Doing : List Todo → Call

-- the page is Ending, and nobody holds it
abbrev pub may_go : PageState → Bool
may_go page = is_ending page.stage && is_free page

-- the pages that a call owes at its Enter, by rising number
abbrev pub owed_by : FlatState → List ℕ
owed_by s = map (λ page. page.number) (filter may_go s.pages)

-- the event is the Gone of a page, whose frame may be worn once there were as many births as a
-- frame may have
abbrev pub IsGone : FlatState → ℕ → Event → Type 0
IsGone s page event =
    (event ≡ Gone page false) ⊎ ((event ≡ Gone page true) × (s.limits.last_birth ≤ s.births))

-- the number is above that of the last page that went
abbrev pub is_above : Option ℕ → ℕ → Bool
is_above None page = true
is_above (Some last) page = nat_lt last page

-- A call that settles lets a page go: it is Ending and free now, above the last that went, and none
-- is owed below it.
pub record Settles (s : FlatState) (owed : List ℕ) (last : Option ℕ) (event : Event) : Type 0 where
  pub page : ℕ
  pub is : IsGone s page event
  pub may : IsSomeAnd (data_in s.pages page) (λ found. may_go found ≡ true)
  pub above : is_above last page ≡ true
  pub first : AllByRecursion (λ other. page ≤ other) owed

-- a page that leaves, if it is there, is gone where nobody holds it now, and else Ending
abbrev pub IsLeaving : FlatState → ℕ → Option PageState → Event → Type 0
IsLeaving s number None event = ⊥
IsLeaving s number (Some page) event =
    MatchBool (is_free page) (IsGone s number event) (event ≡ Ending number)

-- the first thing to do is this event
abbrev pub IsNext : FlatState → List Todo → Event → Type 0
IsNext s [] event = ⊥
IsNext s (Exactly next ∷ todo) event = event ≡ next
IsNext s (Leaves page ∷ todo) event = IsLeaving s page (data_in s.pages page) event

-- the things to do behind the first
abbrev pub later : List Todo → List Todo
later [] = []
later (next ∷ todo) = todo

-- the trap of an access: a store page fault where it writes, and else a load page fault (RISC-V
-- privileged ISA, "Machine Cause Register")
abbrev pub access_trap : Access → List Todo
access_trap access =
    Exactly (Trap (if access.write then STORE_PAGE_FAULT else LOAD_PAGE_FAULT) access.va) ∷ []

-- What is done about a barred access to this page of data: a trap where there is none, or it is not
-- Here, or lacks the right; else its generation meets the page; where it has met it already, the
-- page has moved, and the access is tried again.
abbrev pub todo_of_page : FlatState → HartState → Access → Option PageState → List Todo
todo_of_page s hart access None = access_trap access
todo_of_page s hart access (Some page) =
    if not (is_here page.stage && has_right access page) then access_trap access
    else if has_met s.met hart.generation page.number then Exactly (Again page.number) ∷ []
    else Exactly (Sync hart.generation page.number) ∷ []

-- what is done about a barred access: a trap where its page is own text, and else what its page of
-- data asks for
abbrev pub todo_of_access : FlatState → HartState → Access → List Todo
todo_of_access s hart access =
    if is_some (accessed_text s hart access) then access_trap access
    else todo_of_page s hart access (accessed_data s access)

-- how a program's call ends: with its End, at which the program goes on; an exit has none
abbrev pub ending_of : ℕ → Request → List Todo
ending_of next (Exits code) = []
ending_of next (PutsByte byte) = Exactly (End next) ∷ []
ending_of next (Maps va pages right) = Exactly (End next) ∷ []
ending_of next (Unmaps va pages) = Exactly (End next) ∷ []
ending_of next TellsGeneration = Exactly (End next) ∷ []
ending_of next (Migrates generation) = Exactly (End next) ∷ []
ending_of next Quiesces = Exactly (End next) ∷ []
ending_of next (Deletes generation) = Exactly (End next) ∷ []
ending_of next (Clones generation) = Exactly (End next) ∷ []
ending_of next (Patches patch) = Exactly (End next) ∷ []
ending_of next (NoCall number) = Exactly (End next) ∷ []

-- what is done about a request of a program, which goes on at this address
abbrev pub todo_of_call : List DeltaValue → FlatState → ℕ → Request → List Todo
todo_of_call deltas s next request = done_about deltas s next request ++ ending_of next request

-- what is done about what a hart asks for
abbrev pub todo_of : List DeltaValue → FlatState → HartState → Ask → List Todo
todo_of deltas s hart Called = todo_of_call deltas s (next_pc hart.arch.pc) (requested_by hart)
todo_of deltas s hart (Stopped cause value) = Exactly (Trap cause value) ∷ []
todo_of deltas s hart (Faulted access) = todo_of_access s hart access

-- what is done about what hart h, which is this, asks for, and nothing where it asks for nothing
abbrev pub todo_by : List DeltaValue → FlatState → ℕ → HartState → List Todo
todo_by deltas s h hart =
    unwrap_or (option_map (λ ask. todo_of deltas s hart ask) (ask_of s h hart)) []

-- What the kernel's own actor requests begins with the event. Its request is no part of the
-- journal: it may be any that this actor may make.
pub record BeginsRequest (deltas : List DeltaValue) (s : FlatState) (event : Event)
    : Type 0 where
  pub request : Request
  pub may : IsKernelRequest deltas request
  pub next : IsNext s (done_about deltas s 0 request) event

-- what an actor asks for begins with the event
abbrev pub Begins : List DeltaValue → FlatState → Actor → Event → Type 0
Begins deltas s (Hart h) event = OfHart s h (λ hart. IsNext s (todo_by deltas s h hart) event)
Begins deltas s Kernel event = BeginsRequest deltas s event

-- an actor's call goes on with the event
abbrev pub GoesOn : List DeltaValue → FlatState → Actor → Option Call → Event → Type 0
GoesOn deltas s actor None event = ⊥
GoesOn deltas s actor (Some (Doing todo)) event = IsNext s todo event
GoesOn deltas s actor (Some (Settling owed last)) event =
    Settles s owed last event ⊎ ((owed ≡ []) × Begins deltas s actor event)

-- The request of the kernel's own actor that begins with an event: a patch maps its pages, or a
-- generation is born with it; one is born without a patch of its parent; or one dies. No other
-- event tells one: a refusal closes the call.
abbrev pub request_with : Event → Option Request
request_with (Map page n write (Some patch)) = Some (Patches patch)
request_with (Born generation parent (Some patch)) = Some (Patches patch)
request_with (Born generation parent None) = Some (Clones parent)
request_with (Dead generation) = Some (Deletes generation)
request_with event = None

-- what an actor has to do of what it asks for, which begins with the event
abbrev pub todo_with : List DeltaValue → FlatState → Actor → Event → List Todo
todo_with deltas s (Hart h) event =
    unwrap_or (option_map (λ hart. todo_by deltas s h hart) (slice_get s.harts h)) []
todo_with deltas s Kernel event =
    unwrap_or (option_map (λ request. done_about deltas s 0 request) (request_with event)) []

-- the events that close a call of a hart, and leave nobody inside
abbrev pub closes_hart_call : Event → Bool
closes_hart_call (End pc) = true
closes_hart_call (Exit code) = true
closes_hart_call (Trap cause value) = true
closes_hart_call (Sync generation page) = true
closes_hart_call (Again page) = true
closes_hart_call event = false

-- the events that close a call of the kernel's own actor, and leave nobody inside
abbrev pub closes_kernel_call : Event → Bool
closes_kernel_call (Born generation parent patch) = true
closes_kernel_call (Dead generation) = true
closes_kernel_call (Refused reason) = true
closes_kernel_call event = false

-- the event closes its actor's call
abbrev pub closes_call : Actor → Event → Bool
closes_call (Hart h) event = closes_hart_call event
closes_call Kernel event = closes_kernel_call event

-- what is in hand behind an event with which a call that settles goes on: a page went, or what is
-- asked for began
abbrev pub settled_with : List DeltaValue → FlatState → Actor → List ℕ → Event → Call
settled_with deltas s actor owed (Gone page worn) =
    Settling (filter (λ other. not (other == page)) owed) (Some page)
settled_with deltas s actor owed event = Doing (later (todo_with deltas s actor event))

-- what is in hand behind an event with which a call goes on
abbrev pub call_behind : List DeltaValue → FlatState → Actor → Option Call → Event → Option Call
call_behind deltas s actor None event = None
call_behind deltas s actor (Some (Doing todo)) event = Some (Doing (later todo))
call_behind deltas s actor (Some (Settling owed last)) event =
    Some (settled_with deltas s actor owed event)
