-- Which request of the kernel's own actor begins with an event.
use Rattle.std.proofs.Common.{◌≡◌, ◌≢◌, ◌↔◌, ◌++◌, ℕ, Bool, false, List, [], ◌∷◌, Option, Some, None, IsTrue, sym, ap, ◌∙◌, subst, map, length}
use Rattle.std.proofs.lemmas.Bool.{false≢true}
use Rattle.wf_outside.specs.declared.refusal.Refusal.{Refusal}
use Rattle.wf_outside.specs.Images.{DeltaValue}
use Rattle.wf_flat.specs.declared.event.Event.{Event}
use Rattle.wf_flat.specs.declared.event.Event.TheVariants.{Born, Refused}
use Rattle.wf_flat.specs.State.{FlatState}
use Rattle.wf_effects.specs.declared.ranges.PageRun.{PageRun}
use Rattle.wf_effects.specs.Generations.{newest}
use Rattle.wf_effects.specs.Ranges.{runs_of}
use Rattle.wf_verdict.specs.declared.requests.Request.{Request}
use Rattle.wf_verdict.specs.declared.requests.Request.TheVariants.{Exits, PutsByte, Maps, Unmaps, TellsGeneration, Migrates, Quiesces, Deletes, Clones, Patches, NoCall}
use Rattle.wf_verdict.specs.declared.work.Todo.{Todo}
use Rattle.wf_verdict.specs.declared.work.Todo.TheVariants.{Exactly}
use Rattle.wf_verdict.specs.Requests.{IsKernelRequest}
use Rattle.wf_verdict.specs.Verdict.{delta_at, refusal_of}
use Rattle.wf_verdict.specs.Work.{delta_work, done_about, map_of, refused_or, work_of}
use Rattle.wf_legal.specs.Calls.{BeginsRequest, IsNext, request_with}

-- the event is no refusal
abbrev pub IsNoRefusal : Event → Type 0
IsNoRefusal event = (reason : Refusal) → event ≢ Refused reason

-- work, where it is not refused
unrefused : (s : FlatState) (refusal : Option Refusal) (work : List Todo) (event : Event) → IsNoRefusal event → IsNext s (refused_or refusal work) event → IsNext s work event
unrefused s None work event other next = next
unrefused s (Some reason) work event other next = absurd (other reason next)

-- what a patch begins with
patch_first : (s : FlatState) (patch : ℕ) (runs : List PageRun) (event : Event) → IsNext s (map (map_of patch) runs ++ Exactly (Born (length s.gens) (newest s) (Some patch)) ∷ []) event → request_with event ≡ Some (Patches patch)
patch_first s patch [] event next = ap request_with next
patch_first s patch (run ∷ runs) event next = ap request_with next

-- an event that is no refusal tells the request
pub tells : (deltas : List DeltaValue) (s : FlatState) (request : Request) (event : Event) → IsKernelRequest deltas request → IsNoRefusal event → IsNext s (done_about deltas s 0 request) event → request_with event ≡ Some request
tells deltas s (Clones generation) event may other next = ap request_with (unrefused s (refusal_of deltas s 0 (Clones generation)) (work_of deltas s (Clones generation)) event other next)
tells deltas s (Deletes generation) event may other next = ap request_with (unrefused s (refusal_of deltas s 0 (Deletes generation)) (work_of deltas s (Deletes generation)) event other next)
tells deltas s (Patches patch) event may other next = patch_first s patch (runs_of (delta_at deltas patch).shared) event (unrefused s (refusal_of deltas s 0 (Patches patch)) (delta_work s patch (delta_at deltas patch)) event other next)
tells deltas s (Exits code) event may other next = absurd may
tells deltas s (PutsByte byte) event may other next = absurd may
tells deltas s (Maps va pages right) event may other next = absurd may
tells deltas s (Unmaps va pages) event may other next = absurd may
tells deltas s TellsGeneration event may other next = absurd may
tells deltas s (Migrates generation) event may other next = absurd may
tells deltas s Quiesces event may other next = absurd may
tells deltas s (NoCall number) event may other next = absurd may

same_some : {A : Type 0} (x y : A) → Some x ≡ Some y → x ≡ y
same_some x y e = cc

-- what is requested begins with the event exactly where that tells it
pub tells_exactly : (deltas : List DeltaValue) (s : FlatState) (event : Event) (request : Request) (b : Bool) → IsNoRefusal event → Some request ≡ request_with event → IsTrue b ↔ (IsKernelRequest deltas request × IsNext s (done_about deltas s 0 request) event) → IsTrue b ↔ BeginsRequest deltas s event
tells_exactly deltas s event request b other is d = (λ t. (let both = d.0 t in record { request = request; may = both.0; next = both.1 }), λ begins. d.1 (both begins))
  where
    both : BeginsRequest deltas s event → IsKernelRequest deltas request × IsNext s (done_about deltas s 0 request) event
    both begins =
        let same : begins.request ≡ request = same_some begins.request request (sym (tells deltas s begins.request event begins.may other begins.next) ∙ sym is) in
        subst (λ (r : Request). IsKernelRequest deltas r × IsNext s (done_about deltas s 0 r) event) same (begins.may, begins.next)

-- nothing begins with an event that tells none
pub tells_none : (deltas : List DeltaValue) (s : FlatState) (event : Event) → IsNoRefusal event → None ≡ request_with event → BeginsRequest deltas s event → ⊥
tells_none deltas s event other is begins = let e = tells deltas s begins.request event begins.may other begins.next in cc

-- a refusal tells none
refusal_tells : (event : Event) (request : Request) → Some request ≡ request_with event → IsNoRefusal event
refusal_tells event request is reason e = let n : Some request ≡ None = is ∙ ap request_with e in cc

-- a request that an event tells, and that the kernel's own actor may not make, does not begin with it
pub tells_other : (deltas : List DeltaValue) (s : FlatState) (event : Event) (request : Request) (b : Bool) → Some request ≡ request_with event → b ≡ false → IsTrue b ↔ IsKernelRequest deltas request → BeginsRequest deltas s event → ⊥
tells_other deltas s event request b is off d begins =
    let same : begins.request ≡ request = same_some begins.request request (sym (tells deltas s begins.request event begins.may (refusal_tells event request is) begins.next) ∙ sym is) in
    false≢true (sym off ∙ d.1 (subst (IsKernelRequest deltas) same begins.may))
