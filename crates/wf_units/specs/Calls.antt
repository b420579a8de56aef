-- What whole calls of harts do: each request has its events, which are one legal unit, and its end.
use Rattle.std.specs.Prelude.{ℕ, List, [], ◌∷◌, ◌++◌, ◌≡◌, ◌<◌, ◌≤◌, ◌+◌, ◌^◌, ◌==◌, Bool, true, Some, None, length, map}
use Rattle.std.specs.List.{AllByRecursion}
use Rattle.rv_inst.specs.Meanings.{next_pc}
use Rattle.wf_outside.specs.declared.sizes.TheConstants.{MOST_FRAMES}
use Rattle.wf_outside.specs.declared.refusal.Refusal.{Refusal}
use Rattle.wf_outside.specs.Images.{DeltaValue}
use Rattle.wf_outside.specs.Pages.{page_of}
use Rattle.wf_flat.specs.declared.event.Event.{Event}
use Rattle.wf_flat.specs.declared.event.Event.TheVariants.{Born, Dead, End, Enter, Exit, Fetch, Going, Gone, Map, Move, Out, Refused}
use Rattle.wf_flat.specs.Changes.{change_hart}
use Rattle.wf_flat.specs.Refusals.{refused_answer}
use Rattle.wf_flat.specs.State.{FlatState, HartState}
use Rattle.wf_effects.specs.Effects.{generation_born, generation_dead, mapped, pages_going}
use Rattle.wf_effects.specs.Generations.{newest}
use Rattle.wf_verdict.specs.declared.requests.Request.{Request}
use Rattle.wf_verdict.specs.declared.requests.Request.TheVariants.{Clones, Deletes, Exits, Maps, Migrates, PutsByte, Quiesces, TellsGeneration, Unmaps}
use Rattle.wf_verdict.specs.Requests.{requested_by}
use Rattle.wf_verdict.specs.Verdict.{pages_from, refusal_of}
use Rattle.wf_service.specs.Calling.{IsAtCall}
use Rattle.wf_units.specs.Ends.{each_gone, hart_answered, hart_exited, hart_sent, hart_told}
use Rattle.wf_units.specs.Units.{IsAtRest, IsLegalUnit}

-- A hart, which is this, is to fetch this word, an ecall, in a sound machine that rests, where
-- births are left for all frames.
pub record IsCalling (deltas : List DeltaValue) (s : FlatState) (h word : ℕ) (hart : HartState)
    : Type 0 where
  pub rests : IsAtRest deltas s h hart
  pub births : s.births + MOST_FRAMES < 2 ^ 64
  pub at_call : IsAtCall s word hart

-- a hart is at a call with a request, which is not refused
pub record IsGranted (deltas : List DeltaValue) (s : FlatState) (h word : ℕ) (hart : HartState)
    (request : Request) : Type 0 where
  pub calling : IsCalling deltas s h word hart
  pub requested : requested_by hart ≡ request
  pub granted : refusal_of deltas s (next_pc hart.arch.pc) request ≡ None

-- a hart is at a call with a request, which is refused for a reason
pub record IsDenied (deltas : List DeltaValue) (s : FlatState) (h word : ℕ) (hart : HartState)
    (reason : Refusal) : Type 0 where
  pub calling : IsCalling deltas s h word hart
  pub denied : refusal_of deltas s (next_pc hart.arch.pc) (requested_by hart) ≡ Some reason

-- the events of a whole call of a hart: its Fetch of this word, its Enter, and these
abbrev pub call_of : HartState → ℕ → List Event → List Event
call_of hart word events = Fetch hart.arch.pc word ∷ Enter ∷ events

-- the events of a whole call of a hart that ends with an End: these between its Enter and that
abbrev pub call_with_end : HartState → ℕ → List Event → List Event
call_with_end hart word events = call_of hart word (events ++ End (next_pc hart.arch.pc) ∷ [])

-- a call that is refused changes the hart alone, whose answer is the reason's number, negated
abbrev pub RefusedCallsAreUnits : Type 0
RefusedCallsAreUnits =
    (deltas : List DeltaValue) (s : FlatState) (h word : ℕ) (hart : HartState) (reason : Refusal)
    → IsDenied deltas s h word hart reason
    → IsLegalUnit deltas s h (call_with_end hart word (Refused reason ∷ []))
    (change_hart s h (hart_answered (refused_answer reason)))

-- an exit stops the hart with its code
abbrev pub ExitsAreUnits : Type 0
ExitsAreUnits =
    (deltas : List DeltaValue) (s : FlatState) (h word : ℕ) (hart : HartState) (code : ℕ)
    → IsGranted deltas s h word hart (Exits code)
    → IsLegalUnit deltas s h (call_of hart word (Exit code ∷ []))
    (change_hart s h (hart_exited code))

-- a byte that is put changes the hart alone
abbrev pub BytesPutAreUnits : Type 0
BytesPutAreUnits =
    (deltas : List DeltaValue) (s : FlatState) (h word : ℕ) (hart : HartState) (byte : ℕ)
    → IsGranted deltas s h word hart (PutsByte byte)
    → IsLegalUnit deltas s h (call_with_end hart word (Out byte ∷ []))
    (change_hart s h (hart_answered 0))

-- the call that tells the hart's own generation changes the hart alone
abbrev pub GenerationsToldAreUnits : Type 0
GenerationsToldAreUnits =
    (deltas : List DeltaValue) (s : FlatState) (h word : ℕ) (hart : HartState)
    → IsGranted deltas s h word hart TellsGeneration
    → IsLegalUnit deltas s h (call_with_end hart word []) (change_hart s h hart_told)

-- a map maps its pages, of zeros
abbrev pub MapsAreUnits : Type 0
MapsAreUnits =
    (deltas : List DeltaValue) (s : FlatState) (h word : ℕ) (hart : HartState)
    (va pages right : ℕ)
    → IsGranted deltas s h word hart (Maps va pages right)
    → IsLegalUnit deltas s h
    (call_with_end hart word (Map (page_of va) pages (right == 3) None ∷ []))
    (change_hart (mapped s (page_of va) pages (right == 3) None) h (hart_answered 0))

-- pages that go are these, and the frame of one is worn only where there were as many births as a
-- frame may have
pub record MayAllGo (s : FlatState) (gone : List (ℕ × Bool)) (pages : List ℕ) : Type 0 where
  pub are : map (λ page. page.0) gone ≡ pages
  pub worn : AllByRecursion (λ page. page.1 ≡ true → s.limits.last_birth ≤ s.births) gone

-- an unmap makes its pages Going, and they are gone, one after another
abbrev pub UnmapsAreUnits : Type 0
UnmapsAreUnits =
    (deltas : List DeltaValue) (s : FlatState) (h word : ℕ) (hart : HartState) (va pages : ℕ)
    (gone : List (ℕ × Bool))
    → IsGranted deltas s h word hart (Unmaps va pages) → MayAllGo s gone (pages_from va pages)
    → IsLegalUnit deltas s h
    (call_with_end hart word
    (Going (page_of va) pages ∷ map (λ page. Gone page.0 page.1) gone))
    (change_hart (each_gone (pages_going s (page_of va) pages) gone) h (hart_answered 0))

-- a migration moves the hart to the generation
abbrev pub MigrationsAreUnits : Type 0
MigrationsAreUnits =
    (deltas : List DeltaValue) (s : FlatState) (h word : ℕ) (hart : HartState) (generation : ℕ)
    → IsGranted deltas s h word hart (Migrates generation)
    → IsLegalUnit deltas s h (call_with_end hart word (Move generation ∷ []))
    (change_hart s h (hart_sent generation))

-- a quiesce moves the hart to the newest generation
abbrev pub QuiescesAreUnits : Type 0
QuiescesAreUnits =
    (deltas : List DeltaValue) (s : FlatState) (h word : ℕ) (hart : HartState)
    → IsGranted deltas s h word hart Quiesces
    → IsLegalUnit deltas s h (call_with_end hart word (Move (newest s) ∷ []))
    (change_hart s h (hart_sent (newest s)))

-- a generation that is deleted lives no more
abbrev pub DeletionsAreUnits : Type 0
DeletionsAreUnits =
    (deltas : List DeltaValue) (s : FlatState) (h word : ℕ) (hart : HartState) (generation : ℕ)
    → IsGranted deltas s h word hart (Deletes generation)
    → IsLegalUnit deltas s h (call_with_end hart word (Dead generation ∷ []))
    (change_hart (generation_dead s generation) h (hart_answered 0))

-- a clone is born, the next generation, of its parent and with no patch
abbrev pub ClonesAreUnits : Type 0
ClonesAreUnits =
    (deltas : List DeltaValue) (s : FlatState) (h word : ℕ) (hart : HartState) (parent : ℕ)
    → IsGranted deltas s h word hart (Clones parent)
    → IsLegalUnit deltas s h
    (call_with_end hart word (Born (length s.gens) parent None ∷ []))
    (change_hart (generation_born deltas s parent None) h (hart_answered (length s.gens)))
