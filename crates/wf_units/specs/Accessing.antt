-- What whole loads, stores and atomic accesses do: each has its events, which are one legal unit,
-- and its end.
use Rattle.std.specs.Prelude.{ℕ, List, [], ◌∷◌, ◌++◌, ◌≡◌, ◌%◌, ◌*◌, ◌^◌, ◌==◌, true, false, None, Some, if◌then◌else◌, nat_lt}
use Rattle.rv_alu.specs.declared.op.AmoOp.{AmoOp}
use Rattle.rv_alu.specs.Arithmetic.{amo_of}
use Rattle.rv_inst.specs.declared.inst.Inst.{Inst}
use Rattle.rv_inst.specs.declared.want.Want.TheVariants.{Look as LookWant, Put as PutWant, PutIf, Reserve, Swap as SwapWant}
use Rattle.rv_inst.specs.Meanings.{meaning_of}
use Rattle.wf_outside.specs.declared.sizes.TheConstants.{PAGE_SIZE}
use Rattle.wf_outside.specs.Images.{DeltaValue}
use Rattle.wf_outside.specs.Pages.{PageValue, page_of}
use Rattle.wf_flat.specs.declared.event.Event.{Event}
use Rattle.wf_flat.specs.declared.event.Event.TheVariants.{End, Enter, Fetch, Look, Miss, Put, Swap, Sync, Take}
use Rattle.wf_flat.specs.Accesses.{Access, generation_text, has_reserved, stands}
use Rattle.wf_flat.specs.Changes.{change_hart, reservation_of}
use Rattle.wf_flat.specs.Memory.{data_in, has_met, number_in, page_in}
use Rattle.wf_flat.specs.State.{FlatState, HartState, PageState}
use Rattle.wf_units.specs.Ends.{bytes_written, hart_missed, hart_put_if, hart_read, hart_reserved, hart_wrote, now_met}
use Rattle.wf_units.specs.Instructions.{FindsInst}
use Rattle.wf_units.specs.Units.{IsLegalUnit}

-- a hart finds this page of its own text at an address
abbrev pub FindsText : FlatState → HartState → ℕ → PageValue → Type 0
FindsText s hart va page =
    page_in (generation_text s hart.generation) (page_of va) ≡ Some page

-- a hart finds no own text at an address, and this page of data
pub record FindsData (s : FlatState) (hart : HartState) (va : ℕ) (page : PageState) : Type 0 where
  pub no_text : page_in (generation_text s hart.generation) (page_of va) ≡ None
  pub there : data_in s.pages (page_of va) ≡ Some page

-- the events by which the generation of a hart meets a page, where it has not met it
abbrev pub meeting_events : FlatState → HartState → ℕ → List Event
meeting_events s hart page =
    if has_met s.met hart.generation page then [] else Enter ∷ Sync hart.generation page ∷ []

-- the event by which a page, which is that of an address, is taken to be read: at the last count of
-- writes alone
abbrev pub taking_events : FlatState → ℕ → PageState → List Event
taking_events s va page =
    if nat_lt page.writes s.limits.last_writes then [] else Take (page_of va) ∷ []

-- the events of a hart that fetches this word, meets the page of an address, and then makes these
abbrev pub access_events : FlatState → HartState → ℕ → ℕ → List Event → List Event
access_events s hart word va events =
    Fetch hart.arch.pc word ∷ (meeting_events s hart (page_of va) ++ events)

-- the event by which bytes are looked at, and the End of the instruction that then has them
abbrev pub look_events : HartState → Inst → ℕ → ℕ → ℕ → List Event
look_events hart inst va width got =
    Look va width got ∷ End (meaning_of inst hart.arch got).pc ∷ []

-- a load from own text reads the bytes there
abbrev pub TextLoadsAreUnits : Type 0
TextLoadsAreUnits =
    (deltas : List DeltaValue) (s : FlatState) (h : ℕ) (hart : HartState) (word : ℕ) (inst : Inst)
    (va width : ℕ) (page : PageValue)
    → FindsInst deltas s h hart word inst (LookWant va width) → FindsText s hart va page
    → IsLegalUnit deltas s h
    (Fetch hart.arch.pc word
    ∷ look_events hart inst va width (number_in page.words (va % PAGE_SIZE) width))
    (change_hart s h (hart_read inst (number_in page.words (va % PAGE_SIZE) width)))

-- a load from data reads the bytes there, which stay
abbrev pub LoadsAreUnits : Type 0
LoadsAreUnits =
    (deltas : List DeltaValue) (s : FlatState) (h : ℕ) (hart : HartState) (word : ℕ) (inst : Inst)
    (va width : ℕ) (page : PageState)
    → FindsInst deltas s h hart word inst (LookWant va width) → FindsData s hart va page
    → IsLegalUnit deltas s h
    (access_events s hart word va
    (taking_events s va page
    ++ look_events hart inst va width (number_in page.words (va % PAGE_SIZE) width)))
    (change_hart (now_met s h hart (page_of va)) h
    (hart_read inst (number_in page.words (va % PAGE_SIZE) width)))

-- a load-reserved from own text reads the bytes there, and leaves no reservation
abbrev pub TextReservesAreUnits : Type 0
TextReservesAreUnits =
    (deltas : List DeltaValue) (s : FlatState) (h : ℕ) (hart : HartState) (word : ℕ) (inst : Inst)
    (va width : ℕ) (page : PageValue)
    → FindsInst deltas s h hart word inst (Reserve va width) → FindsText s hart va page
    → IsLegalUnit deltas s h
    (Fetch hart.arch.pc word
    ∷ look_events hart inst va width (number_in page.words (va % PAGE_SIZE) width))
    (change_hart s h (hart_reserved inst (number_in page.words (va % PAGE_SIZE) width) None))

-- a load-reserved from data reads the bytes there, which stay, and leaves its reservation
abbrev pub ReservesAreUnits : Type 0
ReservesAreUnits =
    (deltas : List DeltaValue) (s : FlatState) (h : ℕ) (hart : HartState) (word : ℕ) (inst : Inst)
    (va width : ℕ) (page : PageState)
    → FindsInst deltas s h hart word inst (Reserve va width) → FindsData s hart va page
    → IsLegalUnit deltas s h
    (access_events s hart word va
    (taking_events s va page
    ++ look_events hart inst va width (number_in page.words (va % PAGE_SIZE) width)))
    (change_hart (now_met s h hart (page_of va)) h
    (hart_reserved inst (number_in page.words (va % PAGE_SIZE) width)
    (reservation_of s va width (Some page))))

-- the events by which the page of an address is taken, and low bytes of a value put there, and the
-- End of the instruction
abbrev pub put_events : HartState → Inst → ℕ → ℕ → ℕ → List Event
put_events hart inst va width low =
    Take (page_of va) ∷ Put va width low ∷ End (meaning_of inst hart.arch 0).pc ∷ []

-- a store to a page that may be written writes the low bytes of its value there
abbrev pub StoresAreUnits : Type 0
StoresAreUnits =
    (deltas : List DeltaValue) (s : FlatState) (h : ℕ) (hart : HartState) (word : ℕ) (inst : Inst)
    (va width value : ℕ) (page : PageState)
    → FindsInst deltas s h hart word inst (PutWant va width value) → FindsData s hart va page
    → page.write ≡ true
    → IsLegalUnit deltas s h
    (access_events s hart word va (put_events hart inst va width (value % 2 ^ (8 * width))))
    (change_hart
    (bytes_written (now_met s h hart (page_of va)) va width (value % 2 ^ (8 * width))) h
    (hart_wrote inst 0))

-- the access of a write of so many bytes at an address
abbrev pub write_at : ℕ → ℕ → Access
write_at va width = record { va = va; width = width; write = true }

-- a store-conditional whose reservation stands writes as a store does
abbrev pub ConditionalsAreUnits : Type 0
ConditionalsAreUnits =
    (deltas : List DeltaValue) (s : FlatState) (h : ℕ) (hart : HartState) (word : ℕ) (inst : Inst)
    (va width value : ℕ) (page : PageState)
    → FindsInst deltas s h hart word inst (PutIf va width value) → FindsData s hart va page
    → page.write ≡ true → stands hart.reservation (write_at va width) page ≡ true
    → IsLegalUnit deltas s h
    (access_events s hart word va (put_events hart inst va width (value % 2 ^ (8 * width))))
    (change_hart
    (bytes_written (now_met s h hart (page_of va)) va width (value % 2 ^ (8 * width))) h
    (hart_put_if inst))

-- the event by which a store-conditional misses, and its End
abbrev pub miss_events : HartState → Inst → ℕ → List Event
miss_events hart inst va = Miss va ∷ End (meaning_of inst hart.arch 1).pc ∷ []

-- a store-conditional without a reservation for its address and width misses, wherever it points
abbrev pub LostConditionalsAreUnits : Type 0
LostConditionalsAreUnits =
    (deltas : List DeltaValue) (s : FlatState) (h : ℕ) (hart : HartState) (word : ℕ) (inst : Inst)
    (va width value : ℕ)
    → FindsInst deltas s h hart word inst (PutIf va width value)
    → has_reserved hart.reservation va width ≡ false
    → IsLegalUnit deltas s h (Fetch hart.arch.pc word ∷ miss_events hart inst va)
    (change_hart s h (hart_missed inst))

-- a store-conditional with one that does not stand misses at its page, which it meets first
abbrev pub MissedConditionalsAreUnits : Type 0
MissedConditionalsAreUnits =
    (deltas : List DeltaValue) (s : FlatState) (h : ℕ) (hart : HartState) (word : ℕ) (inst : Inst)
    (va width value : ℕ) (page : PageState)
    → FindsInst deltas s h hart word inst (PutIf va width value) → FindsData s hart va page
    → page.write ≡ true → has_reserved hart.reservation va width ≡ true
    → stands hart.reservation (write_at va width) page ≡ false
    → IsLegalUnit deltas s h (access_events s hart word va (miss_events hart inst va))
    (change_hart (now_met s h hart (page_of va)) h (hart_missed inst))

-- the events by which the page of an address is taken, and bytes there are read and written, and
-- the End of the instruction that then has what was read
abbrev pub swap_events : HartState → Inst → ℕ → ℕ → ℕ → ℕ → List Event
swap_events hart inst va width old new =
    Take (page_of va) ∷ Swap va width old new ∷ End (meaning_of inst hart.arch old).pc ∷ []

-- an atomic memory operation on a page that may be written reads the bytes there, and writes what
-- its operation makes of them and its value
abbrev pub SwapsAreUnits : Type 0
SwapsAreUnits =
    (deltas : List DeltaValue) (s : FlatState) (h : ℕ) (hart : HartState) (word : ℕ) (inst : Inst)
    (va width value old new : ℕ) (op : AmoOp) (page : PageState)
    → FindsInst deltas s h hart word inst (SwapWant va width op value)
    → FindsData s hart va page → page.write ≡ true
    → old ≡ number_in page.words (va % PAGE_SIZE) width
    → new ≡ amo_of op (width == 8) old value
    → IsLegalUnit deltas s h
    (access_events s hart word va (swap_events hart inst va width old new))
    (change_hart (bytes_written (now_met s h hart (page_of va)) va width new) h
    (hart_wrote inst old))
