-- Whole units of harts over a process.
use Rattle.std.specs.Prelude.{ℕ, List, ◌++◌, ◌≡◌, true, false, Option, Some, None, IsSomeAnd}
use Rattle.rv_inst.specs.declared.causes.TheConstants.{ILLEGAL_INSTRUCTION}
use Rattle.rv_inst.specs.declared.inst.Inst.{Inst}
use Rattle.rv_inst.specs.declared.want.Want.{Want}
use Rattle.rv_inst.specs.declared.want.Want.TheVariants.{Look, Nothing, Trap}
use Rattle.rv_inst.specs.Arch.{ArchState}
use Rattle.rv_inst.specs.Decoding.{inst_of}
use Rattle.rv_inst.specs.Meanings.{meaning_of, want_of}
use Rattle.wf_flat.specs.declared.event.Event.{Event}
use Rattle.wf_flat.specs.Accesses.{Access, access_of, generation_text}
use Rattle.wf_flat.specs.Memory.{word_at}
use Rattle.wf_flat.specs.State.{FlatState, HartState}
use Rattle.wf_flat.specs.Steps.{OfRunning, is_lost}
use Rattle.wf_legal.specs.Legal.{at_rest}
use Rattle.wf_service.specs.Resting.{IsResting}
use Rattle.wf_process.specs.Finding.{text_bytes}
use Rattle.wf_process.specs.Processes.{ProcessValue}
use Rattle.wf_units.specs.Instructions.{access_cause, is_faulty}
use Rattle.wf_units.specs.Units.{IsLegalUnit, entries_by}
use Rattle.wf_stepping.specs.declared.loading.Load.{Load}

-- a process rests: no call is open, no hart is in a try, and no page is held or leaving
pub record Rests (p : ProcessValue) : Type 0 where
  pub closed : p.moment.call ≡ None
  pub rests : IsResting p.moment.flat

-- A hart of a process made one whole unit, which is legal: its entries came to the journal, and the
-- process is at rest in the state to which they lead.
pub record HasMadeUnit (h : ℕ) (old new : ProcessValue) : Type 0 where
  pub events : List Event
  pub unit : IsLegalUnit old.moment.deltas old.moment.flat h events new.moment.flat
  pub moment : new.moment ≡ at_rest old.moment.deltas new.moment.flat
  pub entries : new.entries ≡ old.entries ++ entries_by h events

-- these events are a legal unit of a hart of a process, and lead to some state
pub record HasUnit (p : ProcessValue) (h : ℕ) (events : List Event) : Type 0 where
  pub new : FlatState
  pub unit : IsLegalUnit p.moment.deltas p.moment.flat h events new

-- a hart of a process runs, with this pc, where it finds this word in the text of its generation,
-- or none
abbrev pub FindsAt : ProcessValue → ℕ → ℕ → Option ℕ → Type 0
FindsAt p h pc word =
    OfRunning p.moment.flat h
    (λ hart. (hart.arch.pc ≡ pc)
    × (word_at (generation_text p.moment.flat hart.generation) pc ≡ word))

-- the instruction of a word asks, of these registers, for no access and no call, and leaves those
abbrev pub IsRun : ArchState → ℕ → ArchState → Type 0
IsRun arch word next =
    IsSomeAnd (inst_of word)
    (λ inst. (want_of inst arch ≡ Nothing) × (next ≡ meaning_of inst arch 0))

-- the trap of a word whose instruction is this, if it has one: of one that has none, and of one
-- that wants a trap of these registers
abbrev pub IsTrapOf : ArchState → ℕ → Option Inst → ℕ → ℕ → Type 0
IsTrapOf arch word None cause value = (cause ≡ ILLEGAL_INSTRUCTION) × (value ≡ word)
IsTrapOf arch word (Some inst) cause value = want_of inst arch ≡ Trap cause value

-- The instruction of a word is a load, of these registers, of bytes in the text of a generation,
-- which are those of this number; and it leaves these registers.
abbrev pub IsTextLoad : FlatState → ℕ → ArchState → ℕ → Load → ArchState → Type 0
IsTextLoad s generation arch word load next =
    IsSomeAnd (inst_of word)
    (λ inst. (want_of inst arch ≡ Look load.va load.width)
    × (Some load.value ≡ text_bytes s generation load.va load.width)
    × (next ≡ meaning_of inst arch load.value))

-- An access that an instruction wants cannot be made by a hart, which has this cause and address;
-- and it is none of a store-conditional that is lost.
pub record IsFaultOf (s : FlatState) (hart : HartState) (want : Want) (cause va : ℕ)
    : Type 0 where
  pub access : Access
  pub of_want : access_of (Some want) ≡ Some access
  pub kept : is_lost (Some want) hart.reservation ≡ false
  pub faulty : is_faulty s hart access ≡ true
  pub cause_is : cause ≡ access_cause access
  pub va_is : va ≡ access.va

-- the access of a word's instruction cannot be made by a hart, which has this cause and address
abbrev pub IsFault : FlatState → ℕ → ℕ → ℕ → HartState → Type 0
IsFault s word cause va hart =
    IsSomeAnd (inst_of word) (λ inst. IsFaultOf s hart (want_of inst hart.arch) cause va)
