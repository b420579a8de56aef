-- Calls of the kernel's own actor: with what request, and how many ticks a call may take.
use Rattle.std.specs.Prelude.{ℕ, List, [], ◌∷◌, Bool, true, false, Option, Some, None, ◌≡◌, ◌≢◌, ◌+◌, ◌-◌, ◌*◌, ◌==◌, if◌then◌else◌, is_some, length, slice_get, unwrap_or, MatchBool}
use Rattle.std.specs.Option.{option_and_then, option_map}
use Rattle.std.specs.List.{filter}
use Rattle.rv_inst.specs.Meanings.{next_pc}
use Rattle.wf_outside.specs.Images.{DeltaValue}
use Rattle.wf_outside.specs.Pages.{page_of}
use Rattle.wf_flat.specs.declared.event.Actor.{Actor}
use Rattle.wf_flat.specs.declared.event.Actor.TheVariants.{Hart, Kernel}
use Rattle.wf_flat.specs.declared.event.Event.{Event}
use Rattle.wf_flat.specs.declared.event.Event.TheVariants.{Enter, Gone, Idle}
use Rattle.wf_flat.specs.declared.event.Entry.{Entry}
use Rattle.wf_flat.specs.State.{FlatState, HartState}
use Rattle.wf_flat.specs.Accesses.{is_ending}
use Rattle.wf_flat.specs.Counts.{used_of}
use Rattle.wf_flat.specs.Steps.{Ask, Called, Faulted, Stopped, ask_of}
use Rattle.wf_effects.specs.Effects.{generation_born, mapped}
use Rattle.wf_effects.specs.Texts.{pages_of}
use Rattle.wf_verdict.specs.declared.requests.Request.{Request}
use Rattle.wf_verdict.specs.declared.requests.Request.TheVariants.{Exits, PutsByte, Maps, Unmaps, TellsGeneration, Migrates, Quiesces, Deletes, Clones, Patches, NoCall}
use Rattle.wf_verdict.specs.Requests.{requested_by}
use Rattle.wf_verdict.specs.Verdict.{delta_at, patched, refusal_of}
use Rattle.wf_verdict.specs.Work.{done_about}
use Rattle.wf_legal.specs.Calls as calls
use Rattle.wf_legal.specs.Calls.{IsNext, Settling, closes_kernel_call}
use Rattle.wf_legal.specs.Legal.{Moment, after}

-- the event is the Gone of a page
abbrev pub is_gone : Event → Bool
is_gone (Gone page worn) = true
is_gone event = false

-- a call settles
abbrev pub is_settling : Option calls.Call → Bool
is_settling (Some (Settling owed last)) = true
is_settling call = false

-- An event of a call of the kernel's own actor is one of this request: where it ends the settling,
-- it is the first thing to do about the request. What comes behind it is in hand then.
abbrev pub IsOfRequest : Request → Moment → Event → Type 0
IsOfRequest request m event =
    is_settling m.call ≡ true → is_gone event ≡ false
    → IsNext m.flat (done_about m.deltas m.flat 0 request) event

-- what is left of a call of the kernel's own actor with this request, up to and with its close
abbrev pub ClosesCall : Request → Moment → List Entry → Type 0
ClosesCall request m [] = ⊥
ClosesCall request m (entry ∷ entries) =
    (entry.actor ≡ Kernel) × (entry.event ≢ Idle) × IsOfRequest request m entry.event
    × MatchBool (closes_kernel_call entry.event) (entries ≡ [])
    (ClosesCall request (after m entry.actor entry.event) entries)

-- a whole call of the kernel's own actor with this request
abbrev pub IsWholeCall : Request → Moment → List Entry → Type 0
IsWholeCall request m [] = ⊥
IsWholeCall request m (entry ∷ entries) =
    (entry.actor ≡ Kernel) × (entry.event ≡ Enter)
    × ClosesCall request (after m Kernel Enter) entries

-- the state that a request is to lead to, where it takes frames
abbrev pub to_come : List DeltaValue → FlatState → Request → FlatState
to_come deltas s (Maps va pages right) = mapped s (page_of va) pages (right == 3) None
to_come deltas s (Clones generation) = generation_born [] s generation None
to_come deltas s (Patches patch) = patched deltas s patch
to_come deltas s (Exits code) = s
to_come deltas s (PutsByte byte) = s
to_come deltas s (Unmaps va pages) = s
to_come deltas s TellsGeneration = s
to_come deltas s (Migrates generation) = s
to_come deltas s Quiesces = s
to_come deltas s (Deletes generation) = s
to_come deltas s (NoCall number) = s

-- the frames that a request takes: none where it is refused
abbrev pub frames_taken : List DeltaValue → FlatState → ℕ → Request → ℕ
frames_taken deltas s next request =
    if is_some (refusal_of deltas s next request) then 0
    else used_of (to_come deltas s request) - used_of s

-- the pages that a request names
abbrev pub pages_named : List DeltaValue → Request → ℕ
pages_named deltas (Maps va pages right) = pages
pages_named deltas (Unmaps va pages) = pages
pages_named deltas (Patches patch) = length (pages_of (delta_at deltas patch))
pages_named deltas (Exits code) = 0
pages_named deltas (PutsByte byte) = 0
pages_named deltas TellsGeneration = 0
pages_named deltas (Migrates generation) = 0
pages_named deltas Quiesces = 0
pages_named deltas (Deletes generation) = 0
pages_named deltas (Clones generation) = 0
pages_named deltas (NoCall number) = 0

-- how many generations live
abbrev pub live_count : FlatState → ℕ
live_count s = length (filter (λ gen. gen.live) s.gens)

-- how many pages are Ending
abbrev pub ending_count : FlatState → ℕ
ending_count s = length (filter (λ page. is_ending page.stage) s.pages)

-- The most ticks of its actor in which a call is closed behind its Enter, that takes so many frames,
-- names so many pages, and finds so many pages that are Ending: each frame is written word by word,
-- with two words beside; each page has its own and one in each live view.
abbrev pub most_ticks : FlatState → ℕ → ℕ → ℕ → ℕ
most_ticks s ending frames pages =
    1026 * frames + (live_count s + 2) * pages + ending + 8

-- the most ticks of a call with this request
abbrev pub most_of_request : List DeltaValue → FlatState → ℕ → ℕ → Request → ℕ
most_of_request deltas s ending next request =
    most_ticks s ending (frames_taken deltas s next request) (pages_named deltas request)

-- the most ticks of a hart's call, by what it asks for: a fault names one page
abbrev pub most_of_ask : List DeltaValue → FlatState → ℕ → HartState → Ask → ℕ
most_of_ask deltas s ending hart Called =
    most_of_request deltas s ending (next_pc hart.arch.pc) (requested_by hart)
most_of_ask deltas s ending hart (Stopped cause value) =
    most_ticks s ending 0 (if is_some hart.fetched then 0 else 1)
most_of_ask deltas s ending hart (Faulted access) = most_ticks s ending 0 1

-- the most ticks of an actor's call: of a hart's, by what it asks for; of the kernel's own, by what
-- was begun
abbrev pub most_of_call : Moment → Option ℕ → ℕ → Actor → ℕ
most_of_call m begun ending (Hart h) =
    unwrap_or
    (option_and_then
    (λ hart. option_map (most_of_ask m.deltas m.flat ending hart) (ask_of m.flat h hart))
    (slice_get m.flat.harts h)) 0
most_of_call m begun ending Kernel =
    unwrap_or
    (option_map (λ patch. most_of_request m.deltas m.flat ending 0 (Patches patch)) begun) 0
