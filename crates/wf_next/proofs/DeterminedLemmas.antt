-- What an undisturbed hart is allowed to do is its next event.
use Rattle.std.proofs.Common.{◌≡◌, inl, inr, ℕ, List, [], ◌∷◌, ◌++◌, Option, Some, None, Bool, true, false, ◌&&◌, if◌then◌else◌, map, refl, sym, ap, ◌∙◌, not}
use Rattle.std.specs.Prelude.{is_some, MatchBool, slice_get, option_and_then, unwrap_or, IsSomeAnd}
use Rattle.std.specs.List.{AllByRecursion}
use Rattle.std.specs.Option.{option_map}
use Rattle.std.proofs.lemmas.Bool.{and_parts}
use Rattle.rv_inst.specs.Meanings.{next_pc}
use Rattle.wf_outside.specs.declared.refusal.Refusal.{Refusal}
use Rattle.wf_outside.specs.Images.{DeltaValue}
use Rattle.wf_flat.specs.declared.event.Actor.TheVariants.{Hart}
use Rattle.wf_flat.specs.declared.event.Event.{Event}
use Rattle.wf_flat.specs.declared.state.Stage.TheVariants.{Here, Going}
use Rattle.wf_flat.specs.State.{FlatState, HartState, PageState}
use Rattle.wf_flat.specs.Memory.{data_in, has_met}
use Rattle.wf_flat.specs.Accesses.{Access, accessed_data, accessed_text, has_right, is_ending, is_free, is_here}
use Rattle.wf_flat.specs.Steps.{Ask, Called, Stopped, Faulted, MayAct, ask_of, is_inside}
use Rattle.wf_flat.proofs.ListLemmas.{some_and}
use Rattle.wf_effects.specs.declared.ranges.PageRun.{PageRun}
use Rattle.wf_effects.specs.Ranges.{runs_of}
use Rattle.wf_verdict.specs.declared.requests.Request.{Request}
use Rattle.wf_verdict.specs.declared.requests.Request.TheVariants.{Exits, PutsByte, Maps, Unmaps, TellsGeneration, Migrates, Quiesces, Deletes, Clones, Patches, NoCall}
use Rattle.wf_verdict.specs.declared.work.Todo.{Todo}
use Rattle.wf_verdict.specs.declared.work.Todo.TheVariants.{Exactly, Leaves}
use Rattle.wf_verdict.specs.Requests.{requested_by}
use Rattle.wf_verdict.specs.Verdict.{delta_at, refusal_of}
use Rattle.wf_verdict.specs.Work.{map_of, refused_or, work_of}
use Rattle.wf_legal.specs.Calls.{Call, Doing, Settling, GoesOn, IsNext, ending_of, may_go, todo_by, todo_of, todo_of_page}
use Rattle.wf_legal.specs.Legal.{Moment}
use Rattle.wf_next.specs.Determined.{HartsAreDetermined, NextEventsAreDetermined, IsOwn, IsUndisturbed, IsGoingAway, LeavesAreGoing}
use Rattle.wf_next.specs.Next.{next_by, next_event, next_inside, next_outside, next_to_do}
use Rattle.wf_next.proofs.ActLemmas.{at_some}
use Rattle.wf_next.proofs.QuietLemmas.{found_all}
use Rattle.wf_next.proofs.NextLemmas.{outside}

-- things to do that are none, or begin with one event
abbrev pub BeginsExactly : List Todo → Type 0
BeginsExactly [] = Unit {0}
BeginsExactly (Exactly event ∷ todo) = Unit {0}
BeginsExactly (Leaves page ∷ todo) = ⊥

exact_next : (s : FlatState) (todo : List Todo) (event : Event) → BeginsExactly todo → IsNext s todo event → next_to_do todo ≡ Some event
exact_next s [] event b p = absurd p
exact_next s (Exactly next ∷ todo) event b p = ap Some (sym p)
exact_next s (Leaves page ∷ todo) event b p = absurd b

-- what is done about a request begins so
delta_exact : (s : FlatState) (patch : ℕ) (runs : List PageRun) (born : Event) (more : List Todo) → BeginsExactly ((map (map_of patch) runs ++ Exactly born ∷ []) ++ more)
delta_exact s patch [] born more = tt
delta_exact s patch (run ∷ runs) born more = tt

work_exact : (deltas : List DeltaValue) (s : FlatState) (next : ℕ) (request : Request) → BeginsExactly (work_of deltas s request ++ ending_of next request)
work_exact deltas s next (Exits code) = tt
work_exact deltas s next (PutsByte byte) = tt
work_exact deltas s next (Maps va pages right) = tt
work_exact deltas s next (Unmaps va pages) = tt
work_exact deltas s next TellsGeneration = tt
work_exact deltas s next (Migrates generation) = tt
work_exact deltas s next Quiesces = tt
work_exact deltas s next (Deletes generation) = tt
work_exact deltas s next (Clones generation) = tt
work_exact deltas s next (Patches patch) = delta_exact s patch (runs_of (delta_at deltas patch).shared) _ _
work_exact deltas s next (NoCall number) = tt

call_exact : (o : Option Refusal) (work ending : List Todo) → BeginsExactly (work ++ ending) → BeginsExactly (refused_or o work ++ ending)
call_exact None work ending b = b
call_exact (Some reason) work ending b = tt

choice_exact : (b : Bool) (one other : List Todo) → BeginsExactly one → BeginsExactly other → BeginsExactly (if b then one else other)
choice_exact true one other p q = p
choice_exact false one other p q = q

page_exact : (s : FlatState) (hart : HartState) (access : Access) (o : Option PageState) → BeginsExactly (todo_of_page s hart access o)
page_exact s hart access None = tt
page_exact s hart access (Some page) =
    choice_exact (not (is_here page.stage && has_right access page)) _ _ tt (choice_exact (has_met s.met hart.generation page.number) _ _ tt tt)

ask_exact : (deltas : List DeltaValue) (s : FlatState) (hart : HartState) (ask : Ask) → BeginsExactly (todo_of deltas s hart ask)
ask_exact deltas s hart Called =
    let request : Request = requested_by hart in
    call_exact (refusal_of deltas s (next_pc hart.arch.pc) request) (work_of deltas s request) (ending_of (next_pc hart.arch.pc) request) (work_exact deltas s (next_pc hart.arch.pc) request)
ask_exact deltas s hart (Stopped cause value) = tt
ask_exact deltas s hart (Faulted access) = choice_exact (is_some (accessed_text s hart access)) _ _ tt (page_exact s hart access (accessed_data s access))

asked_exact : (deltas : List DeltaValue) (s : FlatState) (hart : HartState) (o : Option Ask) → BeginsExactly (unwrap_or (option_map (λ ask. todo_of deltas s hart ask) o) [])
asked_exact deltas s hart None = tt
asked_exact deltas s hart (Some ask) = ask_exact deltas s hart ask

begins : (deltas : List DeltaValue) (s : FlatState) (h : ℕ) (hart : HartState) (event : Event) → IsNext s (todo_by deltas s h hart) event → next_to_do (todo_by deltas s h hart) ≡ Some event
begins deltas s h hart event p = exact_next s (todo_by deltas s h hart) event (asked_exact deltas s hart (ask_of s h hart)) p

-- a page of data that is Here is not Going, and may not go
here_going : (s : FlatState) (h page : ℕ) → AllByRecursion (IsOwn h) s.pages → IsSomeAnd (data_in s.pages page) (λ (found : PageState). found.stage ≡ Going) → ⊥
here_going s h page own p =
    let found = some_and (data_in s.pages page) _ p in
    let here : found.0.stage ≡ Here = (found_all (IsOwn h) s.pages page found.0 own found.1).0 in
    let going = found.2 in
    cc

here_stays : (s : FlatState) (h page : ℕ) → AllByRecursion (IsOwn h) s.pages → IsSomeAnd (data_in s.pages page) (λ (found : PageState). may_go found ≡ true) → ⊥
here_stays s h page own p =
    let found = some_and (data_in s.pages page) _ p in
    let here : found.0.stage ≡ Here = (found_all (IsOwn h) s.pages page found.0 own found.1).0 in
    let is : is_ending found.0.stage ≡ true = (and_parts (is_ending found.0.stage) (is_free found.0) found.2).0 in
    let no : is_ending found.0.stage ≡ false = rw here refl in
    cc

-- inside
doing : (s : FlatState) (h : ℕ) (todo : List Todo) (event : Event) → AllByRecursion (IsGoingAway s) todo → AllByRecursion (IsOwn h) s.pages → IsNext s todo event → next_to_do todo ≡ Some event
doing s h [] event leaves own p = absurd p
doing s h (Exactly next ∷ todo) event leaves own p = ap Some (sym p)
doing s h (Leaves page ∷ todo) event leaves own p = absurd (here_going s h page own leaves.0)

inside : (deltas : List DeltaValue) (s : FlatState) (h : ℕ) (hart : HartState) (call : Option Call) (event : Event) → slice_get s.harts h ≡ Some hart → LeavesAreGoing s call → AllByRecursion (IsOwn h) s.pages → GoesOn deltas s (Hart h) call event → next_inside deltas s h hart call ≡ Some event
inside deltas s h hart None event is leaves own p = absurd p
inside deltas s h hart (Some (Doing todo)) event is leaves own p = doing s h todo event leaves own p
inside deltas s h hart (Some (Settling owed last)) event is leaves own (inl settles) = absurd (here_stays s h settles.page own settles.may)
inside deltas s h hart (Some (Settling owed last)) event is leaves own (inr asked) = begins deltas s h hart event (at_some (slice_get s.harts h) _ hart is asked.1)

own_inside : (s : FlatState) (h : ℕ) (hart : HartState) → is_inside s.inside (Hart h) ≡ true → IsUndisturbed s h hart → AllByRecursion (IsOwn h) s.pages
own_inside s h hart is (inl outside) = absurd (let no = outside.1 in cc)
own_inside s h hart is (inr quiet) = quiet.1

by_side : (m : Moment) (h : ℕ) (hart : HartState) (event : Event) (b : Bool) → is_inside m.flat.inside (Hart h) ≡ b → slice_get m.flat.harts h ≡ Some hart → LeavesAreGoing m.flat m.call → IsUndisturbed m.flat h hart
    → MatchBool b (GoesOn m.deltas m.flat (Hart h) m.call event) (MayAct m.flat (Hart h) event)
    → (if b then next_inside m.deltas m.flat h hart m.call else next_outside m.flat h hart) ≡ Some event
by_side m h hart event true side is leaves u p = inside m.deltas m.flat h hart m.call event is leaves (own_inside m.flat h hart side u) p
by_side m h hart event false side is leaves u p = outside m.flat h hart event is u p

pub next_determined : NextEventsAreDetermined
next_determined m h event leaves u p =
    let w = some_and (slice_get m.flat.harts h) _ u in
    let next : next_event m h ≡ next_by m h w.0 = ap (λ (o : Option HartState). option_and_then (λ hart. next_by m h hart) o) w.1 in
    next ∙ by_side m h w.0 event (is_inside m.flat.inside (Hart h)) refl w.1 leaves w.2 p

pub determined : HartsAreDetermined
determined m h one other leaves u p q =
    let first = next_determined m h one leaves u p in
    let second = next_determined m h other leaves u q in
    cc
