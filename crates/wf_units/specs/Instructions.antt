-- What whole instructions do: each has its events, which are one legal unit, and its end.
use Rattle.std.specs.Prelude.{ℕ, List, [], ◌∷◌, ◌≡◌, ◌≢◌, Bool, true, false, Option, Some, None, not, if◌then◌else◌, is_some}
use Rattle.rv_inst.specs.declared.causes.TheConstants.{ILLEGAL_INSTRUCTION, INSTRUCTION_PAGE_FAULT, LOAD_PAGE_FAULT, STORE_PAGE_FAULT}
use Rattle.rv_inst.specs.declared.inst.Inst.{Inst}
use Rattle.rv_inst.specs.declared.want.Want.{Want}
use Rattle.rv_inst.specs.declared.want.Want.TheVariants.{Nothing}
use Rattle.rv_inst.specs.declared.want.Want.TheVariants as want
use Rattle.rv_inst.specs.Decoding.{inst_of}
use Rattle.rv_inst.specs.Meanings.{meaning_of, want_of}
use Rattle.wf_outside.specs.Images.{DeltaValue}
use Rattle.wf_flat.specs.declared.event.Event.{Event}
use Rattle.wf_flat.specs.declared.event.Event.TheVariants.{End, Enter, Fetch, Idle, Trap}
use Rattle.wf_flat.specs.declared.state.Life.TheVariants.{Running}
use Rattle.wf_flat.specs.Accesses.{Access, access_of, accessed_data, accessed_text, generation_text, has_right}
use Rattle.wf_flat.specs.Changes.{change_hart, trapped_with}
use Rattle.wf_flat.specs.Memory.{word_at}
use Rattle.wf_flat.specs.State.{FlatState, HartState, PageState}
use Rattle.wf_flat.specs.Steps.{is_lost}
use Rattle.wf_units.specs.Ends.{hart_ran, hart_trapped}
use Rattle.wf_units.specs.Units.{IsAtRest, IsLegalUnit}

-- a hart that runs finds this at its pc: a word of its text, or none
pub record FindsWord (deltas : List DeltaValue) (s : FlatState) (h : ℕ) (hart : HartState)
    (word : Option ℕ) : Type 0 where
  pub rests : IsAtRest deltas s h hart
  pub runs : hart.life ≡ Running
  pub text : word_at (generation_text s hart.generation) hart.arch.pc ≡ word

-- a hart that runs finds a word at its pc, whose instruction is this, and wants this
pub record FindsInst (deltas : List DeltaValue) (s : FlatState) (h : ℕ) (hart : HartState)
    (word : ℕ) (inst : Inst) (want : Want) : Type 0 where
  pub finds : FindsWord deltas s h hart (Some word)
  pub is_inst : inst_of word ≡ Some inst
  pub wants : want_of inst hart.arch ≡ want

-- a hart that has stopped idles, which changes nothing
abbrev pub IdlesAreUnits : Type 0
IdlesAreUnits =
    (deltas : List DeltaValue) (s : FlatState) (h : ℕ) (hart : HartState)
    → IsAtRest deltas s h hart → hart.life ≢ Running → IsLegalUnit deltas s h (Idle ∷ []) s

-- an instruction that asks for no access and no call changes the hart alone
abbrev pub RunsAreUnits : Type 0
RunsAreUnits =
    (deltas : List DeltaValue) (s : FlatState) (h : ℕ) (hart : HartState) (word : ℕ) (inst : Inst)
    → FindsInst deltas s h hart word inst Nothing
    → IsLegalUnit deltas s h
    (Fetch hart.arch.pc word ∷ End (meaning_of inst hart.arch 0).pc ∷ [])
    (change_hart s h (hart_ran inst))

-- a hart that finds no word at its pc is stopped, and has fetched nothing
abbrev pub LostFetchesAreUnits : Type 0
LostFetchesAreUnits =
    (deltas : List DeltaValue) (s : FlatState) (h : ℕ) (hart : HartState)
    → FindsWord deltas s h hart None
    → IsLegalUnit deltas s h (Enter ∷ Trap INSTRUCTION_PAGE_FAULT hart.arch.pc ∷ [])
    (change_hart s h (trapped_with INSTRUCTION_PAGE_FAULT hart.arch.pc))

-- the events of a hart that fetches this word and is stopped
abbrev pub trap_events : HartState → ℕ → ℕ → ℕ → List Event
trap_events hart word cause value =
    Fetch hart.arch.pc word ∷ Enter ∷ Trap cause value ∷ []

-- a word that is no instruction stops the hart
abbrev pub IllegalWordsAreUnits : Type 0
IllegalWordsAreUnits =
    (deltas : List DeltaValue) (s : FlatState) (h : ℕ) (hart : HartState) (word : ℕ)
    → FindsWord deltas s h hart (Some word) → inst_of word ≡ None
    → IsLegalUnit deltas s h (trap_events hart word ILLEGAL_INSTRUCTION word)
    (change_hart s h (hart_trapped ILLEGAL_INSTRUCTION word))

-- an instruction that wants a trap stops the hart with it
abbrev pub TrapsAreUnits : Type 0
TrapsAreUnits =
    (deltas : List DeltaValue) (s : FlatState) (h : ℕ) (hart : HartState) (word : ℕ) (inst : Inst)
    (cause value : ℕ)
    → FindsInst deltas s h hart word inst (want.Trap cause value)
    → IsLegalUnit deltas s h (trap_events hart word cause value)
    (change_hart s h (hart_trapped cause value))

-- the page of data that was found, if one was, cannot be accessed so
abbrev pub is_page_faulty : Access → Option PageState → Bool
is_page_faulty access None = true
is_page_faulty access (Some page) = not (has_right access page)

-- an access cannot be made: its page is own text, and it writes; or there is no page of data, or it
-- lacks the right
abbrev pub is_faulty : FlatState → HartState → Access → Bool
is_faulty s hart access =
    if is_some (accessed_text s hart access) then access.write
    else is_page_faulty access (accessed_data s access)

-- the cause of the trap of an access that cannot be made
abbrev pub access_cause : Access → ℕ
access_cause access = if access.write then STORE_PAGE_FAULT else LOAD_PAGE_FAULT

-- an access that cannot be made stops the hart, but that of a store-conditional that is lost
abbrev pub FaultsAreUnits : Type 0
FaultsAreUnits =
    (deltas : List DeltaValue) (s : FlatState) (h : ℕ) (hart : HartState) (word : ℕ) (inst : Inst)
    (want : Want) (access : Access)
    → FindsInst deltas s h hart word inst want → access_of (Some want) ≡ Some access
    → is_lost (Some want) hart.reservation ≡ false → is_faulty s hart access ≡ true
    → IsLegalUnit deltas s h (trap_events hart word (access_cause access) access.va)
    (change_hart s h (hart_trapped (access_cause access) access.va))
