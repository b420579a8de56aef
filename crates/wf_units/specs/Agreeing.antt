-- The state behind a whole access, change by change to the end of its try, is the one that its unit
-- leads to.
use Rattle.std.specs.Prelude.{ℕ, List, ◌≡◌, None, Some}
use Rattle.rv_alu.specs.declared.op.AmoOp.{AmoOp}
use Rattle.rv_inst.specs.declared.inst.Inst.{Inst}
use Rattle.rv_inst.specs.declared.want.Want.TheVariants.{Look as LookWant, Put as PutWant, PutIf, Reserve, Swap as SwapWant}
use Rattle.wf_outside.specs.Images.{DeltaValue}
use Rattle.wf_outside.specs.Pages.{PageValue, page_of}
use Rattle.wf_flat.specs.Changes.{bytes_put, bytes_swapped, change_hart, fetched_with, looked_with, missed, page_taken, reservation_of, try_ended}
use Rattle.wf_flat.specs.State.{FlatState, HartState, PageState}
use Rattle.wf_units.specs.Accessing.{FindsData, FindsText}
use Rattle.wf_units.specs.Ends.{bytes_written, hart_missed, hart_put_if, hart_read, hart_reserved, hart_wrote, now_met}
use Rattle.wf_units.specs.Instructions.{FindsInst}

-- a hart is in its try of this word, and its generation has met a page
abbrev pub trying_at : FlatState → ℕ → HartState → ℕ → ℕ → FlatState
trying_at s h hart word page = change_hart (now_met s h hart page) h (fetched_with word)

-- a hart looks at bytes, and its try ends
abbrev pub looked_and_ended : FlatState → ℕ → ℕ → ℕ → ℕ → FlatState
looked_and_ended s h va width value =
    try_ended (change_hart s h (looked_with s va width value)) h

-- a load from own text ends so
abbrev pub TextLoadsAgree : Type 0
TextLoadsAgree =
    (deltas : List DeltaValue) (s : FlatState) (h : ℕ) (hart : HartState) (word : ℕ) (inst : Inst)
    (va width value : ℕ)
    → FindsInst deltas s h hart word inst (LookWant va width)
    → looked_and_ended (change_hart s h (fetched_with word)) h va width value
    ≡ change_hart s h (hart_read inst value)

-- a load-reserved from own text ends so
abbrev pub TextReservesAgree : Type 0
TextReservesAgree =
    (deltas : List DeltaValue) (s : FlatState) (h : ℕ) (hart : HartState) (word : ℕ) (inst : Inst)
    (va width value : ℕ) (page : PageValue)
    → FindsInst deltas s h hart word inst (Reserve va width) → FindsText s hart va page
    → looked_and_ended (change_hart s h (fetched_with word)) h va width value
    ≡ change_hart s h (hart_reserved inst value None)

-- a load from data ends so, where its page is not taken
abbrev pub FreeLoadsAgree : Type 0
FreeLoadsAgree =
    (deltas : List DeltaValue) (s : FlatState) (h : ℕ) (hart : HartState) (word : ℕ) (inst : Inst)
    (va width value : ℕ) (page : PageState)
    → FindsInst deltas s h hart word inst (LookWant va width) → FindsData s hart va page
    → looked_and_ended (trying_at s h hart word (page_of va)) h va width value
    ≡ change_hart (now_met s h hart (page_of va)) h (hart_read inst value)

-- a load from data ends so, where its page is taken
abbrev pub LastLoadsAgree : Type 0
LastLoadsAgree =
    (deltas : List DeltaValue) (s : FlatState) (h : ℕ) (hart : HartState) (word : ℕ) (inst : Inst)
    (va width value : ℕ) (page : PageState)
    → FindsInst deltas s h hart word inst (LookWant va width) → FindsData s hart va page
    → looked_and_ended (page_taken (trying_at s h hart word (page_of va)) h (page_of va)) h va
    width value
    ≡ change_hart (now_met s h hart (page_of va)) h (hart_read inst value)

-- a load-reserved from data ends so, where its page is not taken
abbrev pub FreeReservesAgree : Type 0
FreeReservesAgree =
    (deltas : List DeltaValue) (s : FlatState) (h : ℕ) (hart : HartState) (word : ℕ) (inst : Inst)
    (va width value : ℕ) (page : PageState)
    → FindsInst deltas s h hart word inst (Reserve va width) → FindsData s hart va page
    → looked_and_ended (trying_at s h hart word (page_of va)) h va width value
    ≡ change_hart (now_met s h hart (page_of va)) h
    (hart_reserved inst value (reservation_of s va width (Some page)))

-- a load-reserved from data ends so, where its page is taken
abbrev pub LastReservesAgree : Type 0
LastReservesAgree =
    (deltas : List DeltaValue) (s : FlatState) (h : ℕ) (hart : HartState) (word : ℕ) (inst : Inst)
    (va width value : ℕ) (page : PageState)
    → FindsInst deltas s h hart word inst (Reserve va width) → FindsData s hart va page
    → looked_and_ended (page_taken (trying_at s h hart word (page_of va)) h (page_of va)) h va
    width value
    ≡ change_hart (now_met s h hart (page_of va)) h
    (hart_reserved inst value (reservation_of s va width (Some page)))

-- a hart takes the page of an address, bytes are put there, and its try ends
abbrev pub put_and_ended : FlatState → ℕ → ℕ → ℕ → ℕ → FlatState
put_and_ended s h va width value =
    try_ended (bytes_put (page_taken s h (page_of va)) h va width value) h

-- a store ends so
abbrev pub StoresAgree : Type 0
StoresAgree =
    (deltas : List DeltaValue) (s : FlatState) (h : ℕ) (hart : HartState) (word : ℕ) (inst : Inst)
    (va width value low : ℕ) (page : PageState)
    → FindsInst deltas s h hart word inst (PutWant va width value) → FindsData s hart va page
    → put_and_ended (trying_at s h hart word (page_of va)) h va width low
    ≡ change_hart (bytes_written (now_met s h hart (page_of va)) va width low) h
    (hart_wrote inst 0)

-- a store-conditional that writes ends so
abbrev pub ConditionalsAgree : Type 0
ConditionalsAgree =
    (deltas : List DeltaValue) (s : FlatState) (h : ℕ) (hart : HartState) (word : ℕ) (inst : Inst)
    (va width value low : ℕ) (page : PageState)
    → FindsInst deltas s h hart word inst (PutIf va width value) → FindsData s hart va page
    → put_and_ended (trying_at s h hart word (page_of va)) h va width low
    ≡ change_hart (bytes_written (now_met s h hart (page_of va)) va width low) h
    (hart_put_if inst)

-- an atomic memory operation ends so
abbrev pub SwapsAgree : Type 0
SwapsAgree =
    (deltas : List DeltaValue) (s : FlatState) (h : ℕ) (hart : HartState) (word : ℕ) (inst : Inst)
    (va width value old new : ℕ) (op : AmoOp) (page : PageState)
    → FindsInst deltas s h hart word inst (SwapWant va width op value)
    → FindsData s hart va page
    → try_ended
    (bytes_swapped (page_taken (trying_at s h hart word (page_of va)) h (page_of va)) h va width
    old new) h
    ≡ change_hart (bytes_written (now_met s h hart (page_of va)) va width new) h
    (hart_wrote inst old)

-- a store-conditional that is lost ends so
abbrev pub LostConditionalsAgree : Type 0
LostConditionalsAgree =
    (deltas : List DeltaValue) (s : FlatState) (h : ℕ) (hart : HartState) (word : ℕ) (inst : Inst)
    (va width value : ℕ)
    → FindsInst deltas s h hart word inst (PutIf va width value)
    → try_ended (change_hart (change_hart s h (fetched_with word)) h missed) h
    ≡ change_hart s h (hart_missed inst)

-- a store-conditional that misses at its page ends so
abbrev pub MissedConditionalsAgree : Type 0
MissedConditionalsAgree =
    (deltas : List DeltaValue) (s : FlatState) (h : ℕ) (hart : HartState) (word : ℕ) (inst : Inst)
    (va width value : ℕ)
    → FindsInst deltas s h hart word inst (PutIf va width value)
    → try_ended (change_hart (trying_at s h hart word (page_of va)) h missed) h
    ≡ change_hart (now_met s h hart (page_of va)) h (hart_missed inst)
