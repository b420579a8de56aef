-- Calls of harts: how far one has come.
use Rattle.std.specs.Prelude.{◌≡◌, ◌<◌, ◌+◌, ◌^◌, ℕ, List, [], ◌∷◌, Option, Some, None, IsSomeAnd, false}
use Rattle.std.specs.List.{AllByRecursion}
use Rattle.rv_inst.specs.declared.inst.Inst.TheVariants.{Ecall}
use Rattle.rv_inst.specs.Decoding.{inst_of}
use Rattle.wf_outside.specs.declared.sizes.TheConstants.{MOST_FRAMES}
use Rattle.wf_outside.specs.Images.{DeltaValue}
use Rattle.wf_flat.specs.declared.event.Actor.TheVariants.{Hart}
use Rattle.wf_flat.specs.declared.event.Entry.{Entry}
use Rattle.wf_flat.specs.declared.event.Event.{Event}
use Rattle.wf_flat.specs.declared.state.Life.TheVariants.{Running}
use Rattle.wf_flat.specs.Accesses.{generation_text, is_ending}
use Rattle.wf_flat.specs.Follows.{IsUnit}
use Rattle.wf_flat.specs.Memory.{word_at}
use Rattle.wf_flat.specs.Serving.{IsAlone}
use Rattle.wf_flat.specs.State.{FlatState, HartState}
use Rattle.wf_flat.specs.Steps.{OfHart}
use Rattle.wf_verdict.specs.declared.work.Todo.{Todo}
use Rattle.wf_verdict.specs.declared.work.Todo.TheVariants.{Exactly}
use Rattle.wf_legal.specs.Calls.{Call, Doing, Settling, later, todo_by}
use Rattle.wf_legal.specs.Events.{flat_after}
use Rattle.wf_legal.specs.Legal.{Moment}
use Rattle.wf_sound.specs.Sound.{IsSound}
use Rattle.wf_service.specs.Adding.{IsOpen}
use Rattle.wf_service.specs.Resting.{IsResting}

-- a hart that runs is in no try, and the word at its pc is this, an ecall
pub record IsAtCall (s : FlatState) (word : ℕ) (hart : HartState) : Type 0 where
  pub runs : hart.life ≡ Running
  pub no_try : hart.fetched ≡ None
  pub text : word_at (generation_text s hart.generation) hart.arch.pc ≡ Some word
  pub ecall : inst_of word ≡ Some Ecall

-- a hart that runs is in a try of this word, an ecall
pub record IsInCall (word : ℕ) (hart : HartState) : Type 0 where
  pub runs : hart.life ≡ Running
  pub fetched : hart.fetched ≡ Some word
  pub ecall : inst_of word ≡ Some Ecall

-- a call has just entered the kernel, and owes nothing
abbrev pub entered_at : List DeltaValue → FlatState → Moment
entered_at deltas s = record { deltas = deltas; flat = s; call = Some (Settling [] None) }

-- what is in hand where these things are still to do: no call where nothing is
abbrev pub call_with : List Todo → Option Call
call_with [] = None
call_with (next ∷ todo) = Some (Doing (next ∷ todo))

-- a moment at which these things are still to do
abbrev pub moment_with : List DeltaValue → FlatState → List Todo → Moment
moment_with deltas s todo = record { deltas = deltas; flat = s; call = call_with todo }

-- entries of a hart's call that has these things still to do: a whole unit where it has none, and
-- else none of them ends it
abbrev pub IsPartOf : ℕ → List Todo → List Entry → Type 0
IsPartOf h [] entries = IsUnit h entries
IsPartOf h (next ∷ todo) entries = IsOpen h entries

-- no other hart is in a try, and no page is Ending
pub record IsQuiet (s : FlatState) (h : ℕ) : Type 0 where
  pub alone : IsAlone s h
  pub stays : AllByRecursion (λ page. is_ending page.stage ≡ false) s.pages

-- a hart, which is in a try of a call, has just entered the kernel
pub record HasEntered (deltas : List DeltaValue) (s : FlatState) (h word : ℕ) : Type 0 where
  pub sound : IsSound (entered_at deltas s)
  pub inside : s.inside ≡ Some (Hart h)
  pub quiet : IsQuiet s h
  pub ready : OfHart s h (IsInCall word)
  pub births : s.births + MOST_FRAMES < 2 ^ 64

-- a hart is inside, and its call has these things still to do
pub record IsInside (s : FlatState) (h : ℕ) (todo : List Todo) : Type 0 where
  pub deltas : List DeltaValue
  pub sound : IsSound (moment_with deltas s todo)
  pub inside : s.inside ≡ Some (Hart h)
  pub quiet : IsQuiet s h

-- how far a hart's call has come that has these things still to do: it rests where it has none
abbrev pub HasToDo : FlatState → ℕ → List Todo → Type 0
HasToDo s h [] = IsResting s
HasToDo s h (next ∷ todo) = IsInside s h (next ∷ todo)

-- the first of what a hart's call has to do is done: an event of its own, which changed this
pub record HasBegun (deltas : List DeltaValue) (old : FlatState) (h : ℕ) (todo : List Todo)
    (new : FlatState) : Type 0 where
  pub event : Event
  pub first : todo ≡ Exactly event ∷ later todo
  pub whole : OfHart old h (λ hart. todo ≡ todo_by deltas old h hart)
  pub changed : new ≡ flat_after deltas old (Hart h) event
