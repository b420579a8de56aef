-- What the machine keeps around a unit of a hart, and how far a unit has come.
use Rattle.std.specs.Prelude.{◌≡◌, ◌≢◌, ◌⊎◌, ℕ, List, [], ◌∷◌, Bool, true, false, not, if◌then◌else◌, Option, Some, None, IfSome, IsSomeAnd, length, map, nat_lt}
use Rattle.std.specs.List.{AllByRecursion}
use Rattle.rv_inst.specs.declared.causes.TheConstants.{ILLEGAL_INSTRUCTION}
use Rattle.rv_inst.specs.declared.inst.Inst.{Inst}
use Rattle.rv_inst.specs.declared.want.Want.{Want}
use Rattle.rv_inst.specs.declared.want.Want.TheVariants.{Nothing}
use Rattle.rv_inst.specs.declared.want.Want.TheVariants as want
use Rattle.rv_inst.specs.Arch.{ArchState}
use Rattle.rv_inst.specs.Decoding.{inst_of}
use Rattle.rv_inst.specs.Spelling.{IsSpelled}
use Rattle.rv_inst.specs.Meanings.{want_of, meaning_of}
use Rattle.wf_flat.specs.declared.state.Stage.TheVariants.{Here}
use Rattle.wf_flat.specs.declared.state.Life.TheVariants.{Running}
use Rattle.wf_outside.specs.Images.{DeltaValue}
use Rattle.wf_outside.specs.Lists.{IsRising}
use Rattle.wf_outside.specs.Pages.{page_of}
use Rattle.wf_flat.specs.Memory.{page_in, data_in, word_at, has_met, with_met, met_key}
use Rattle.wf_flat.specs.Ordered.{IsOrdered}
use Rattle.wf_flat.specs.Serving.{held_by, IsAlone, IsPlace}
use Rattle.wf_flat.specs.Accesses.{Access}
use Rattle.wf_flat.specs.Follows.{IsUnit}
use Rattle.wf_flat.specs.Steps.{Called, OfHart, ask_of, generation_text, inst_in, want_in, access_in, is_lost, takes_for, is_done, arch_after}
use Rattle.wf_flat.specs.declared.event.Event.TheVariants.{Sync}
use Rattle.wf_verdict.specs.declared.work.Todo.{Todo}
use Rattle.wf_verdict.specs.declared.work.Todo.TheVariants.{Exactly}
use Rattle.wf_legal.specs.Calls.{todo_by}
use Rattle.wf_flat.specs.declared.event.Entry.{Entry}
use Rattle.wf_flat.specs.State.{FlatState, HartState}
use Rattle.wf_legal.specs.Legal.{Moment, at_rest}
use Rattle.wf_service.specs.Adding.{Adds, IsOpen}
use Rattle.wf_service.specs.Resting.{IsResting}
use Rattle.wf_driver.specs.declared.finding.Found.{Found}
use Rattle.wf_driver.specs.declared.stepping.Start.{Start}
use Rattle.wf_driver.specs.declared.stepping.Start.TheVariants.{Stopped, Word, Fault}
use Rattle.wf_driver.specs.declared.actions.AccessTry.{AccessTry}
use Rattle.wf_driver.specs.declared.actions.Operand.{Operand}
use Rattle.wf_driver.specs.declared.actions.Write.{Write}
use Rattle.wf_driver.specs.declared.actions.Write.TheVariants.{Put, PutIf, Swap}
use Rattle.wf_driver.specs.declared.actions.Action.{Action}
use Rattle.wf_driver.specs.declared.actions.Action.TheVariants.{Run, Load, Store, Trap}

-- nobody is inside, no hart but this one is in a try, no page is leaving, and none is held but this
-- one, if any
pub record IsActing (s : FlatState) (h : ℕ) (held : Option ℕ) : Type 0 where
  pub no_one : s.inside ≡ None
  pub others : IsAlone s h
  pub ordered : IsOrdered s
  pub pages : AllByRecursion
      (λ page. (page.stage ≡ Here) × ((page.holder ≡ None) ⊎ (held ≡ Some page.number))) s.pages

-- a hart that runs is in a try of a word, with these registers, and has done nothing in it
abbrev pub IsInTry : ArchState → ℕ → HartState → Type 0
IsInTry arch word hart =
    (hart.life ≡ Running) × (hart.fetched ≡ Some word) × (hart.looked ≡ None) × (hart.arch ≡ arch)
    × (hart.put ≡ false) × (hart.moved ≡ [])

-- what a load of the operand wants, or a load-reserved
abbrev pub load_want : Operand → Bool → Want
load_want operand reserving =
    if reserving then want.Reserve operand.va operand.width else want.Look operand.va operand.width

-- what a write of the operand wants, by its kind
abbrev pub store_want : Operand → Write → Want
store_want operand (Put value) = want.Put operand.va operand.width value
store_want operand (PutIf value) = want.PutIf operand.va operand.width value
store_want operand (Swap op value) = want.Swap operand.va operand.width op value

-- the write of a value by a store-conditional, or by a store
abbrev pub put_by : Bool → ℕ → Write
put_by conditional value = if conditional then PutIf value else Put value

-- the access of an operand that is read
abbrev pub load_at : Operand → Access
load_at operand = record { va = operand.va; width = operand.width; write = false }

-- the access of an operand that is written
abbrev pub store_at : Operand → Access
store_at operand = record { va = operand.va; width = operand.width; write = true }

-- a hart runs and is in a try of the instruction, with these registers, and has done nothing in it
abbrev pub IsTrying : ArchState → Inst → HartState → Type 0
IsTrying arch inst hart =
    (hart.life ≡ Running) × (inst_in hart ≡ Some inst) × (hart.arch ≡ arch) × (hart.looked ≡ None)
    × (hart.put ≡ false) × (hart.moved ≡ [])

-- the hart of an access does so
abbrev pub InAccess : FlatState → AccessTry → Type 0
InAccess s access = OfHart s access.hart (IsTrying access.arch access.operand.inst)

-- what the instruction of an access wants
abbrev pub wanted_by : AccessTry → Want
wanted_by access = want_of access.operand.inst access.arch

-- a hart that runs is in a try of an instruction that is done, holds this page, if any, and leaves
-- these registers
abbrev pub IsDone : FlatState → ℕ → Option ℕ → ArchState → Type 0
IsDone s h held next =
    OfHart s h
    (λ hart. (hart.life ≡ Running) × (is_done hart (want_in hart) ≡ true)
    × (held ≡ held_by s h (access_in hart)) × (next ≡ arch_after hart))

-- what an access finds in the data: a page, its right, its mapping and count of writes, and whether
-- that is the last
abbrev pub IsFoundPage : FlatState → ℕ → Found → Type 0
IsFoundPage s number found =
    IsSomeAnd (data_in s.pages number)
    (λ page. (found.page ≡ page.number) × (found.write ≡ page.write) × (found.birth ≡ page.birth)
    × (found.writes ≡ page.writes)
    × (found.last ≡ not (nat_lt page.writes s.limits.last_writes)))

-- the page at an address, if there is one, and whether the hart's generation has met it
abbrev pub IsPlaceOf : FlatState → ℕ → ℕ → Option Found → Type 0
IsPlaceOf s h va None = data_in s.pages (page_of va) ≡ None
IsPlaceOf s h va (Some found) =
    IsFoundPage s (page_of va) found
    × OfHart s h (λ hart. found.met ≡ has_met s.met hart.generation found.page)

-- what generations will have met where an access is to a page that the hart's own has not met, and
-- is to meet; else nothing
abbrev pub IsPageToSync : FlatState → ℕ → ℕ → Option (List (ℕ × ℕ)) → Type 0
IsPageToSync s h va None =
    IfSome (data_in s.pages (page_of va))
    (λ page. OfHart s h (λ hart. has_met s.met hart.generation page.number ≡ true))
IsPageToSync s h va (Some met) =
    IsSomeAnd (data_in s.pages (page_of va))
    (λ page. OfHart s h
    (λ hart. (has_met s.met hart.generation page.number ≡ false)
    × (met ≡ with_met s.met hart.generation page.number)))
    × IsRising (map met_key met)

-- no text of the hart's generation is at the address, and the generation has met this page
abbrev pub IsNear : FlatState → ℕ → ℕ → ℕ → Type 0
IsNear s h va page =
    OfHart s h
    (λ hart. (page_in (generation_text s hart.generation) (page_of va) ≡ None)
    × (has_met s.met hart.generation page ≡ true))

-- a hart that runs asks, and not by a call, for what takes these events, whatever the patches are
abbrev pub IsToDo : FlatState → ℕ → HartState → List Todo → Type 0
IsToDo s h hart todo =
    (hart.life ≡ Running) × (ask_of s h hart ≢ Some Called)
    × ((deltas : List DeltaValue) → todo_by deltas s h hart ≡ todo)

-- a hart's generation has met a page; or else it is to meet it, and this is what will be met then
abbrev pub IsMeeting : FlatState → ℕ → ℕ → Option (List (ℕ × ℕ)) → Type 0
IsMeeting s h page None = OfHart s h (λ hart. has_met s.met hart.generation page ≡ true)
IsMeeting s h page (Some met) =
    OfHart s h
    (λ hart. IsToDo s h hart (Exactly (Sync hart.generation page) ∷ [])
    × (met ≡ with_met s.met hart.generation page))
    × IsRising (map met_key met)

-- the write is no store-conditional's, or the hart's reservation has its address and width
abbrev pub WillReach : FlatState → ℕ → Operand → Write → Type 0
WillReach s h operand write =
    OfHart s h (λ hart. is_lost (Some (store_want operand write)) hart.reservation ≡ false)

-- whether the write is made to the page that is there: that of a store-conditional where its
-- reservation stands
abbrev pub WillWrite : FlatState → ℕ → Operand → Write → Bool → Type 0
WillWrite s h operand write will =
    OfHart s h
    (λ hart. IfSome (data_in s.pages (page_of operand.va))
    (λ page. will
    ≡ takes_for (Some (store_want operand write)) s hart (store_at operand) page))

-- what generations will have met where an action makes a hart's own meet a page; else nothing
abbrev pub IsToMeet : FlatState → ℕ → Action → Option (List (ℕ × ℕ)) → Type 0
IsToMeet s h (Load operand reserving) met = IsPageToSync s h operand.va met
IsToMeet s h (Store operand write) met =
    WillReach s h operand write → IsPageToSync s h operand.va met
IsToMeet s h action met = met ≡ None

-- pages, texts, sizes and harts are the same
pub record IsSame (old new : FlatState) : Type 0 where
  pub pages : new.pages ≡ old.pages
  pub gens : new.gens ≡ old.gens
  pub limits : new.limits ≡ old.limits
  pub harts : new.harts ≡ old.harts

-- a hart that runs is in no try, at this pc, where its text has this word
abbrev pub IsAt : FlatState → HartState → ℕ → ℕ → Type 0
IsAt s hart pc word =
    (hart.life ≡ Running) × (hart.fetched ≡ None) × (pc ≡ hart.arch.pc)
    × (word_at (generation_text s hart.generation) pc ≡ Some word)

-- what a hart finds where it is to begin a try
abbrev pub IsTryStart : FlatState → ℕ → Start → Type 0
IsTryStart s h Stopped = OfHart s h (λ hart. hart.life ≢ Running)
IsTryStart s h (Word arch word) =
    OfHart s h
    (λ hart. (hart.life ≡ Running) × (hart.arch ≡ arch)
    × (word_at (generation_text s hart.generation) arch.pc ≡ Some word))
IsTryStart s h (Fault pc) =
    OfHart s h
    (λ hart. (hart.life ≡ Running) × (hart.arch.pc ≡ pc)
    × (word_at (generation_text s hart.generation) pc ≡ None))

-- the trap of a word that is no instruction, or whose instruction wants it
abbrev pub IsTrapOf : ArchState → ℕ → Option Inst → ℕ → ℕ → Type 0
IsTrapOf arch word None cause value = (cause ≡ ILLEGAL_INSTRUCTION) × (value ≡ word)
IsTrapOf arch word (Some inst) cause value = want_of inst arch ≡ want.Trap cause value

-- what an instruction reads, and whether it reserves that
abbrev pub IsLoad : ArchState → Operand → Bool → Type 0
IsLoad arch operand reserving =
    (want_of operand.inst arch ≡ load_want operand reserving) × IsSpelled operand.inst
    × IsPlace operand.va operand.width

-- what an instruction writes, and how
abbrev pub IsStore : ArchState → Operand → Write → Type 0
IsStore arch operand write =
    (want_of operand.inst arch ≡ store_want operand write) × IsSpelled operand.inst
    × IsPlace operand.va operand.width

-- what a hart with these registers is to do with a word
abbrev pub IsAction : ArchState → ℕ → Action → Type 0
IsAction arch word (Run next) =
    IsSomeAnd (inst_of word)
    (λ inst. (want_of inst arch ≡ Nothing) × (next ≡ meaning_of inst arch 0))
IsAction arch word (Load operand reserving) =
    (inst_of word ≡ Some operand.inst) × IsLoad arch operand reserving
IsAction arch word (Store operand write) =
    (inst_of word ≡ Some operand.inst) × IsStore arch operand write
IsAction arch word (Trap cause value) = IsTrapOf arch word (inst_of word) cause value

-- a hart that runs is in a try of a word, has done nothing in it, and is to do this with it
pub record IsToCarryOut (s : FlatState) (h : ℕ) (arch : ArchState) (action : Action) : Type 0 where
  pub word : ℕ
  pub tries : OfHart s h (IsInTry arch word)
  pub action_is : IsAction arch word action

-- A unit of a hart is open behind the entries so far, from this moment, and has come to this state.
-- What it made is legal.
abbrev pub HasOpenUnit : Moment → List Entry → FlatState → List Entry → ℕ → Type 0
HasOpenUnit m before new now h = Adds m before (at_rest m.deltas new) now (IsOpen h)

-- legal entries with P came behind those so far, and the state went along
abbrev pub Continues : Moment → List Entry → FlatState → List Entry → (List Entry → Type 0)
    → Type 0
Continues m before new now P = Adds m before (at_rest m.deltas new) now P

-- where a unit of the hart was open behind these entries, it is open still behind those
abbrev pub StaysOpen : ℕ → FlatState → List Entry → FlatState → List Entry → Type 0
StaysOpen h old before new now =
    (m : Moment) (first : List Entry) → HasOpenUnit m first old before h
    → HasOpenUnit m first new now h

-- Where a unit of the hart was open behind these entries, it has ended behind those. The machine is
-- at rest, with as many harts.
pub record EndsUnit (h : ℕ) (old : FlatState) (before : List Entry) (new : FlatState)
    (now : List Entry) : Type 0 where
  pub made : (m : Moment) (first : List Entry) → HasOpenUnit m first old before h
      → Continues m first new now (IsUnit h)
  pub rests : IsResting new
  pub harts : length new.harts ≡ length old.harts
