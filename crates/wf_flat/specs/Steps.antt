-- What an actor may do outside the kernel.
use Rattle.std.specs.Prelude.{ℕ, List, Bool, true, false, Option, Some, None, ◌≡◌, ◌≢◌, ◌==◌, ◌*◌, ◌%◌, ◌^◌, ◌&&◌, ◌||◌, not, if◌then◌else◌, is_some, nat_lt, IsSomeAnd, slice_get, slice_index, option_and_then, unwrap_or}
use Rattle.wf_outside.specs.Pages.{PageValue, page_of}
use Rattle.std.specs.Option.{option_map}
use Rattle.rv_alu.specs.Arithmetic.{amo_of}
use Rattle.wf_outside.specs.declared.sizes.TheConstants.{PAGE_SIZE}
use Rattle.rv_inst.specs.declared.causes.TheConstants.{ILLEGAL_INSTRUCTION, INSTRUCTION_PAGE_FAULT}
use Rattle.rv_inst.specs.declared.inst.Inst.{Inst}
use Rattle.rv_inst.specs.declared.inst.Inst.TheVariants.{Ecall}
use Rattle.rv_inst.specs.declared.want.Want.{Want}
use Rattle.rv_inst.specs.declared.want.Want.TheVariants.{Nothing, Call}
use Rattle.rv_inst.specs.declared.want.Want.TheVariants as want
use Rattle.rv_inst.specs.Arch.{ArchState}
use Rattle.rv_inst.specs.Decoding.{inst_of}
use Rattle.rv_inst.specs.Meanings.{want_of, meaning_of, called}
use Rattle.wf_flat.specs.declared.event.Actor.{Actor}
use Rattle.wf_flat.specs.declared.event.Actor.TheVariants.{Hart, Kernel}
use Rattle.wf_flat.specs.declared.event.Event.{Event}
use Rattle.wf_flat.specs.declared.event.Event.TheVariants.{Fetch, Look, Take, Put, Swap, Miss, End, Again, Wait, Enter, Sync, Trap, Exit, Out, Idle, Map, Going, Ending, Gone, Born, Move, Dead, Refused}
use Rattle.wf_flat.specs.declared.event.WaitFor.{WaitFor}
use Rattle.wf_flat.specs.declared.event.WaitFor.TheVariants as waits
use Rattle.wf_flat.specs.declared.state.Life.TheVariants.{Running}
use Rattle.wf_flat.specs.State.{FlatState, HartState, PageState}
use Rattle.wf_flat.specs.declared.state.Reservation.{Reservation}
use Rattle.wf_flat.specs.Memory.{word_at, data_in, number_in}
pub use Rattle.wf_flat.specs.Accesses.{text_in, generation_text}
use Rattle.wf_flat.specs.Accesses.{Access, access_of, accessed_text, accessed_data, in_reach, is_going, is_reached, holder_is, is_free, is_held_by_other, holds, has_moved, has_reserved, stands, is_barred}

-- the hart is there, and P holds of it
abbrev pub OfHart : FlatState → ℕ → (HartState → Type 0) → Type 0
OfHart s h P = IsSomeAnd (slice_get s.harts h) P

-- A hart is in a try where it has fetched a word. Its instruction is that of the word.
abbrev pub inst_in : HartState → Option Inst
inst_in hart = option_and_then inst_of hart.fetched

-- what the instruction of its try wants
abbrev pub want_in : HartState → Option Want
want_in hart = option_map (λ inst. want_of inst hart.arch) (inst_in hart)

-- the access of its try
abbrev pub access_in : HartState → Option Access
access_in hart = access_of (want_in hart)

-- What a hart asks the kernel for: a call, whose number and arguments are in its registers; to be
-- stopped with a trap, which has this cause and value; or what its access is to do that is barred.
pub data Ask : Type 0 where
  Called : Ask
  Stopped : ℕ → ℕ → Ask
  Faulted : Access → Ask

-- a store-conditional without a reservation for its address and width misses wherever it points
abbrev pub is_lost : Option Want → Option Reservation → Bool
is_lost (Some (want.PutIf va width value)) reservation = not (has_reserved reservation va width)
is_lost want reservation = false

-- an access without an answer, of a hart that does not hold its page, that is barred
abbrev pub asks_access : FlatState → ℕ → HartState → Access → Bool
asks_access s h hart access =
    not (is_some hart.looked) && not (holds s h access)
    && not (is_lost (want_in hart) hart.reservation) && is_barred s hart access

-- what an access asks for, where the instruction wants one
abbrev pub ask_of_access : FlatState → ℕ → HartState → Option Access → Option Ask
ask_of_access s h hart None = None
ask_of_access s h hart (Some access) =
    if asks_access s h hart access then Some (Faulted access) else None

-- what an instruction asks for, by what it wants
abbrev pub ask_of_want : FlatState → ℕ → HartState → Option Want → Option Ask
ask_of_want s h hart (Some Call) = Some Called
ask_of_want s h hart (Some (want.Trap cause value)) = Some (Stopped cause value)
ask_of_want s h hart want = ask_of_access s h hart (access_of want)

-- what a hart in a try of a word asks for: of a word that is no instruction, illegal instruction
-- with the word (RISC-V privileged ISA, "Machine Cause Register")
abbrev pub ask_of_word : FlatState → ℕ → HartState → ℕ → Option Inst → Option Ask
ask_of_word s h hart word None = Some (Stopped ILLEGAL_INSTRUCTION word)
ask_of_word s h hart word (Some inst) = ask_of_want s h hart (Some (want_of inst hart.arch))

-- what a hart that is to fetch asks for: of a pc in a page that is no text, instruction page fault
-- with the pc
abbrev pub ask_of_fetch : ℕ → Option ℕ → Option Ask
ask_of_fetch pc None = Some (Stopped INSTRUCTION_PAGE_FAULT pc)
ask_of_fetch pc (Some word) = None

-- what a hart asks for, by whether it is in a try
abbrev pub ask_by : FlatState → ℕ → HartState → Option ℕ → Option Ask
ask_by s h hart None =
    ask_of_fetch hart.arch.pc (word_at (generation_text s hart.generation) hart.arch.pc)
ask_by s h hart (Some word) = ask_of_word s h hart word (inst_of word)

-- what hart h, which is this, asks for
abbrev pub ask_of : FlatState → ℕ → HartState → Option Ask
ask_of s h hart = ask_by s h hart hart.fetched

-- The answer of its call: that of the own generation, call 4, is its number, and that of another is
-- what an entry of the call gave. The number is in a7, which is x17 (RISC-V ELF psABI, "Integer
-- Register Convention").
abbrev pub call_answer : HartState → ℕ
call_answer hart =
    if slice_index hart.arch.x 17 == 4 then hart.generation else unwrap_or hart.looked 0

-- the pc and registers after an instruction of a hart; what it read is the answer of its access
abbrev pub arch_by : Option Inst → HartState → ArchState
arch_by None hart = hart.arch
arch_by (Some Ecall) hart = called hart.arch (call_answer hart)
arch_by (Some inst) hart = meaning_of inst hart.arch (unwrap_or hart.looked 0)

-- the pc and registers after the instruction of its try
abbrev pub arch_after : HartState → ArchState
arch_after hart = arch_by (inst_in hart) hart

-- it is in no try, and these are its pc and the four bytes there of its generation's text
abbrev pub MayFetch : List PageValue → HartState → ℕ → ℕ → Type 0
MayFetch text hart pc word =
    (hart.fetched ≡ None) × (pc ≡ hart.arch.pc) × (word_at text pc ≡ Some word)

-- it may read the page of data: that is in reach, free and below the last count of writes, or the
-- hart holds it
abbrev pub may_read : FlatState → ℕ → HartState → Access → PageState → Bool
may_read s h hart access page =
    is_free page && is_reached s hart access page && nat_lt page.writes s.limits.last_writes
    || holder_is page.holder h

-- its access reads these bytes of the page of data that was found
abbrev pub ReadsData : FlatState → ℕ → HartState → Access → Option PageState → ℕ → Type 0
ReadsData s h hart access None value = ⊥
ReadsData s h hart access (Some page) value =
    (may_read s h hart access page ≡ true)
    × (value ≡ number_in page.words (access.va % PAGE_SIZE) access.width)

-- its access reads these bytes, of its own text where its page is there, and else of the data
abbrev pub Reads : FlatState → ℕ → HartState → Access → Option PageValue → ℕ → Type 0
Reads s h hart access None value = ReadsData s h hart access (accessed_data s access) value
Reads s h hart access (Some page) value =
    value ≡ number_in page.words (access.va % PAGE_SIZE) access.width

-- it is in a try of a load or a load-reserved that has no answer yet, and these are the bytes there
abbrev pub MayLook : FlatState → ℕ → HartState → ℕ → ℕ → ℕ → Type 0
MayLook s h hart va width value =
    let access : Access = record { va = va; width = width; write = false } in
    (access_in hart ≡ Some access) × (hart.looked ≡ None)
    × Reads s h hart access (accessed_text s hart access) value

-- it has to take the page for its access: it writes, as a store-conditional where its reservation
-- stands; or it reads at the last count of writes
abbrev pub takes_for : Option Want → FlatState → HartState → Access → PageState → Bool
takes_for (Some (want.PutIf va width value)) s hart access page =
    stands hart.reservation access page
takes_for want s hart access page = access.write || not (nat_lt page.writes s.limits.last_writes)

-- its access takes the page of data that was found, which is free and in reach with the right
abbrev pub TakesData : FlatState → HartState → Access → Option PageState → Type 0
TakesData s hart access None = ⊥
TakesData s hart access (Some page) =
    is_free page && is_reached s hart access page && takes_for (want_in hart) s hart access page
    ≡ true

-- it takes the page of its access, which is no own text and has no answer yet
abbrev pub MayTake : FlatState → HartState → Option Access → ℕ → Type 0
MayTake s hart None page = ⊥
MayTake s hart (Some access) page =
    (page ≡ page_of access.va) × (hart.looked ≡ None) × (accessed_text s hart access ≡ None)
    × TakesData s hart access (accessed_data s access)

-- what a store, or a store-conditional, puts
abbrev pub put_of : Option Want → Option ℕ
put_of (Some (want.Put va width value)) = Some value
put_of (Some (want.PutIf va width value)) = Some value
put_of want = None

-- it holds the page, its write is not made, and these are the low bytes of what it puts
abbrev pub MayPut : FlatState → ℕ → HartState → ℕ → ℕ → ℕ → Type 0
MayPut s h hart va width value =
    let access : Access = record { va = va; width = width; write = true } in
    (access_in hart ≡ Some access) × (holds s h access ≡ true) × (hart.looked ≡ None)
    × (hart.put ≡ false)
    × IsSomeAnd (put_of (want_in hart)) (λ whole. value ≡ whole % 2 ^ (8 * width))

-- what an atomic memory operation makes of what it reads (RISC-V unprivileged ISA, "Atomic Memory
-- Operations")
abbrev pub swap_of : Option Want → ℕ → Option ℕ
swap_of (Some (want.Swap va width op value)) got = Some (amo_of op (width == 8) got value)
swap_of want got = None

-- it holds the page, its write is not made, these are the bytes there, and this is made of them
abbrev pub MaySwap : FlatState → ℕ → HartState → ℕ → ℕ → ℕ → ℕ → Type 0
MaySwap s h hart va width old new =
    let access : Access = record { va = va; width = width; write = true } in
    (access_in hart ≡ Some access) × (holds s h access ≡ true) × (hart.looked ≡ None)
    × (hart.put ≡ false)
    × IsSomeAnd (accessed_data s access) (λ page. old ≡ number_in page.words (va % PAGE_SIZE) width)
    × (swap_of (want_in hart) old ≡ Some new)

-- the want is that of a store-conditional
abbrev pub is_conditional : Option Want → Bool
is_conditional (Some (want.PutIf va width value)) = true
is_conditional want = false

-- its store-conditional misses at the page of data that was found: that is in reach with the right,
-- and its reservation does not stand
abbrev pub misses_page : FlatState → HartState → Access → Option PageState → Bool
misses_page s hart access None = false
misses_page s hart access (Some page) =
    is_reached s hart access page && not (stands hart.reservation access page)

-- its store-conditional misses: it has no reservation for its address and width; or its page is no
-- own text, and it misses at its page of data
abbrev pub misses : FlatState → HartState → Access → Bool
misses s hart access =
    is_lost (want_in hart) hart.reservation
    || not (is_some (accessed_text s hart access))
    && misses_page s hart access (accessed_data s access)

-- it is in a try of a store-conditional that misses, and that has no answer and holds no page
abbrev pub MayMiss : FlatState → ℕ → HartState → Option Access → ℕ → Type 0
MayMiss s h hart None va = ⊥
MayMiss s h hart (Some access) va =
    (va ≡ access.va) × (is_conditional (want_in hart) ≡ true) × (hart.looked ≡ None)
    × (holds s h access ≡ false) × (misses s hart access ≡ true)

-- a write is made, or missed
abbrev pub has_written : HartState → Access → Bool
has_written hart access = not access.write || hart.put || is_conditional (want_in hart)

-- the access of its try, if there is one, has its answer and has written
abbrev pub has_ended : HartState → Option Access → Bool
has_ended hart None = false
has_ended hart (Some access) = is_some hart.looked && has_written hart access

-- its instruction wants nothing, or an access that has ended
abbrev pub is_done : HartState → Option Want → Bool
is_done hart (Some Nothing) = true
is_done hart want = has_ended hart (access_of want)

-- its instruction is done, and this is the pc after it
abbrev pub MayEnd : HartState → ℕ → Type 0
MayEnd hart pc = (is_done hart (want_in hart) ≡ true) × (pc ≡ (arch_after hart).pc)

-- nobody is inside the kernel, and it asks
abbrev pub MayEnter : FlatState → ℕ → HartState → Type 0
MayEnter s h hart = (s.inside ≡ None) × (ask_of s h hart ≢ None)

-- the page of data that was found is Going
abbrev pub is_page_going : Option PageState → Bool
is_page_going None = false
is_page_going (Some page) = is_going page.stage

-- It may give its try up: that is of an access to this page, which has no answer; it does not hold
-- the page, and that has moved since its fetch, or is Going.
abbrev pub MayTryAgain : FlatState → ℕ → HartState → Option Access → ℕ → Type 0
MayTryAgain s h hart None page = ⊥
MayTryAgain s h hart (Some access) page =
    (page ≡ page_of access.va) × (hart.looked ≡ None) × (holds s h access ≡ false)
    × (has_moved hart page || is_page_going (data_in s.pages page) ≡ true)

-- the page of data that was found is in reach of it, and another hart holds it
abbrev pub is_kept_from : FlatState → ℕ → HartState → Option PageState → Bool
is_kept_from s h hart None = false
is_kept_from s h hart (Some page) = in_reach s hart page && is_held_by_other h page

-- It may wait for the holder of this page: its try is of an access to the page, which has no
-- answer; the page is in reach, and another hart holds it.
abbrev pub MayWaitForPage : FlatState → ℕ → HartState → Option Access → ℕ → Type 0
MayWaitForPage s h hart None page = ⊥
MayWaitForPage s h hart (Some access) page =
    (page ≡ page_of access.va) × (hart.looked ≡ None)
    × (is_kept_from s h hart (data_in s.pages page) ≡ true)

-- the two are the same actor
abbrev pub is_same : Actor → Actor → Bool
is_same (Hart h) (Hart other) = h == other
is_same Kernel Kernel = true
is_same one other = false

-- the actor is the one inside the kernel
abbrev pub is_inside : Option Actor → Actor → Bool
is_inside None actor = false
is_inside (Some inside) actor = is_same inside actor

-- an actor finds another inside the kernel, which is this
abbrev pub IsInWay : FlatState → Actor → Actor → Type 0
IsInWay s actor other = (s.inside ≡ Some other) × (is_same other actor ≡ false)

-- it may wait for the actor that is inside, since it asks
abbrev pub MayWaitForKernel : FlatState → ℕ → HartState → Actor → Type 0
MayWaitForKernel s h hart other = IsInWay s (Hart h) other × (ask_of s h hart ≢ None)

-- it may wait: for the holder of its page, or for the actor that is inside
abbrev pub MayWait : FlatState → ℕ → HartState → WaitFor → Type 0
MayWait s h hart (waits.Page page) = MayWaitForPage s h hart (access_in hart) page
MayWait s h hart (waits.Kernel other) = MayWaitForKernel s h hart other

-- the hart is there and runs, and P holds of it
abbrev pub OfRunning : FlatState → ℕ → (HartState → Type 0) → Type 0
OfRunning s h P = OfHart s h (λ hart. (hart.life ≡ Running) × P hart)

-- Where an actor outside the kernel may make an event. A hart runs, save where it idles; the events
-- of the last lines are made inside alone. The kernel's own actor enters, waits for the one inside,
-- and idles.
abbrev pub MayAct : FlatState → Actor → Event → Type 0
MayAct s (Hart h) (Fetch pc word) =
    OfRunning s h (λ hart. MayFetch (generation_text s hart.generation) hart pc word)
MayAct s (Hart h) (Look va width value) =
    OfRunning s h (λ hart. MayLook s h hart va width value)
MayAct s (Hart h) (Take page) = OfRunning s h (λ hart. MayTake s hart (access_in hart) page)
MayAct s (Hart h) (Put va width value) = OfRunning s h (λ hart. MayPut s h hart va width value)
MayAct s (Hart h) (Swap va width old new) =
    OfRunning s h (λ hart. MaySwap s h hart va width old new)
MayAct s (Hart h) (Miss va) = OfRunning s h (λ hart. MayMiss s h hart (access_in hart) va)
MayAct s (Hart h) (End pc) = OfRunning s h (λ hart. MayEnd hart pc)
MayAct s (Hart h) (Again page) =
    OfRunning s h (λ hart. MayTryAgain s h hart (access_in hart) page)
MayAct s (Hart h) (Wait on) = OfRunning s h (λ hart. MayWait s h hart on)
MayAct s (Hart h) Enter = OfRunning s h (λ hart. MayEnter s h hart)
MayAct s (Hart h) Idle = OfHart s h (λ hart. hart.life ≢ Running)
MayAct s (Hart h) (Sync generation page) = ⊥
MayAct s (Hart h) (Trap cause value) = ⊥
MayAct s (Hart h) (Exit code) = ⊥
MayAct s (Hart h) (Out byte) = ⊥
MayAct s (Hart h) (Map page n write patch) = ⊥
MayAct s (Hart h) (Going page n) = ⊥
MayAct s (Hart h) (Ending page) = ⊥
MayAct s (Hart h) (Gone page worn) = ⊥
MayAct s (Hart h) (Born generation parent patch) = ⊥
MayAct s (Hart h) (Move generation) = ⊥
MayAct s (Hart h) (Dead generation) = ⊥
MayAct s (Hart h) (Refused reason) = ⊥
MayAct s Kernel Enter = s.inside ≡ None
MayAct s Kernel (Wait (waits.Kernel other)) = IsInWay s Kernel other
MayAct s Kernel Idle = Unit {0}
MayAct s Kernel event = ⊥
