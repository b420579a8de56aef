-- Calls of the kernel's own actor: what is done about its request is its whole call.
use Rattle.std.proofs.Common.{◌≡◌, ◌≢◌, ◌++◌, ℕ, List, [], ◌∷◌, Option, Some, None, Bool, true, false, length, refl, sym, subst, ap}
use Rattle.std.specs.Prelude.{MatchBool, map}
use Rattle.wf_outside.specs.declared.refusal.Refusal.{Refusal}
use Rattle.wf_outside.specs.Images.{DeltaValue}
use Rattle.wf_flat.specs.declared.event.Actor.{Actor}
use Rattle.wf_flat.specs.declared.event.Actor.TheVariants.{Kernel}
use Rattle.wf_flat.specs.declared.event.Event.{Event}
use Rattle.wf_flat.specs.declared.event.Event.TheVariants.{Born, Dead, Enter, Idle, Map, Refused}
use Rattle.wf_flat.specs.declared.event.Entry.{Entry}
use Rattle.wf_flat.specs.State.{FlatState}
use Rattle.wf_flat.specs.Steps.{is_inside}
use Rattle.wf_effects.specs.declared.ranges.PageRun.{PageRun}
use Rattle.wf_effects.specs.Generations.{newest}
use Rattle.wf_effects.specs.Ranges.{runs_of}
use Rattle.wf_verdict.specs.declared.requests.Request.{Request}
use Rattle.wf_verdict.specs.declared.requests.Request.TheVariants.{Clones, Deletes, Patches}
use Rattle.wf_verdict.specs.declared.work.Todo.{Todo}
use Rattle.wf_verdict.specs.declared.work.Todo.TheVariants.{Exactly, Leaves}
use Rattle.wf_verdict.specs.Requests.{IsKernelRequest}
use Rattle.wf_verdict.specs.Verdict.{delta_at, refusal_of}
use Rattle.wf_verdict.specs.Work.{done_about, map_of, refused_or, work_of}
use Rattle.wf_legal.specs.Calls.{Call, Doing, IsNext, Settling, call_behind, closes_kernel_call}
use Rattle.wf_legal.specs.Legal.{Moment, after, at_rest}
use Rattle.wf_request.specs.Requesting.{IsServed, by_kernel}
use Rattle.wf_follow.specs.Requests.{ClosesCall, IsWholeCall, is_settling}

-- the events of its calls
abbrev is_kernel_event : Event → Bool
is_kernel_event (Map page n write patch) = true
is_kernel_event (Born generation parent patch) = true
is_kernel_event (Dead generation) = true
is_kernel_event (Refused reason) = true
is_kernel_event event = false

-- these are to do in one of its calls, and the last closes it
abbrev IsServing : List Todo → Type 0
IsServing [] = ⊥
IsServing (Exactly event ∷ todo) = (is_kernel_event event ≡ true) × MatchBool (closes_kernel_call event) (todo ≡ []) (IsServing todo)
IsServing (Leaves page ∷ todo) = ⊥

-- what is done about its requests is so
refused_serves : (o : Option Refusal) (todo : List Todo) → IsServing todo → IsServing (refused_or o todo)
refused_serves None todo serves = serves
refused_serves (Some reason) todo serves = (refl, refl)

runs_serve : (patch : ℕ) (runs : List PageRun) (born parent : ℕ) → IsServing (map (map_of patch) runs ++ Exactly (Born born parent (Some patch)) ∷ [])
runs_serve patch [] born parent = (refl, refl)
runs_serve patch (run ∷ runs) born parent = (refl, runs_serve patch runs born parent)

request_serves : (deltas : List DeltaValue) (s : FlatState) (request : Request) → IsKernelRequest deltas request → IsServing (done_about deltas s 0 request)
request_serves deltas s (Clones generation) may = refused_serves (refusal_of deltas s 0 (Clones generation)) (work_of deltas s (Clones generation)) (refl, refl)
request_serves deltas s (Deletes generation) may = refused_serves (refusal_of deltas s 0 (Deletes generation)) (work_of deltas s (Deletes generation)) (refl, refl)
request_serves deltas s (Patches patch) may =
    refused_serves (refusal_of deltas s 0 (Patches patch)) (work_of deltas s (Patches patch)) (runs_serve patch (runs_of (delta_at deltas patch).shared) (length s.gens) (newest s))
request_serves deltas s request may = absurd may

not_idle : (e : Event) → is_kernel_event e ≡ true → e ≢ Idle
not_idle e is idle = let no : is_kernel_event e ≡ false = ap is_kernel_event idle in cc

no_events : (events : List Event) → map Exactly events ≡ [] → map by_kernel events ≡ []
no_events [] e = refl
no_events (event ∷ events) e = absurd (cc)

-- an event that does not close its call leaves it inside, and the call has settled
not_settling : (deltas : List DeltaValue) (s : FlatState) (call : Option Call) (page n : ℕ) (write : Bool) (patch : Option ℕ) → is_settling (call_behind deltas s Kernel call (Map page n write patch)) ≡ false
not_settling deltas s None page n write patch = refl
not_settling deltas s (Some (Settling owed last)) page n write patch = refl
not_settling deltas s (Some (Doing todo)) page n write patch = refl

stays_inside : (m : Moment) (e : Event) → is_kernel_event e ≡ true → closes_kernel_call e ≡ false → m.flat.inside ≡ Some Kernel → (after m Kernel e).flat.inside ≡ Some Kernel
stays_inside m (Map page n write patch) is stays inside = inside
stays_inside m (Born generation parent patch) is stays inside = absurd (cc)
stays_inside m (Dead generation) is stays inside = absurd (cc)
stays_inside m (Refused reason) is stays inside = absurd (cc)
stays_inside m e is stays inside = absurd (cc)

has_settled : (m : Moment) (e : Event) → is_kernel_event e ≡ true → closes_kernel_call e ≡ false → m.flat.inside ≡ Some Kernel → is_settling (after m Kernel e).call ≡ false
has_settled m (Map page n write patch) is stays inside =
    let within : is_inside m.flat.inside Kernel ≡ true = ap (λ (o : Option Actor). is_inside o Kernel) inside in
    rw within (not_settling m.deltas m.flat m.call page n write patch)
has_settled m (Born generation parent patch) is stays inside = absurd (cc)
has_settled m (Dead generation) is stays inside = absurd (cc)
has_settled m (Refused reason) is stays inside = absurd (cc)
has_settled m e is stays inside = absurd (cc)

-- what is left of the call, by whether the event closes it
goes_on : (b : Bool) (request : Request) (m : Moment) (events : List Event) → MatchBool b (map Exactly events ≡ []) (IsServing (map Exactly events))
    → (IsServing (map Exactly events) → b ≡ false → ClosesCall request m (map by_kernel events)) → MatchBool b (map by_kernel events ≡ []) (ClosesCall request m (map by_kernel events))
goes_on true request m events serves rest = no_events events serves
goes_on false request m events serves rest = rest serves refl

closes : (request : Request) (m : Moment) (events : List Event) → IsServing (map Exactly events) → m.flat.inside ≡ Some Kernel → is_settling m.call ≡ false → ClosesCall request m (map by_kernel events)
closes request m [] serves inside settled = absurd serves
closes request m (e ∷ events) serves inside settled = (
  refl,
  not_idle e serves.0,
  (λ settles plain. absurd (cc)),
  goes_on (closes_kernel_call e) request (after m Kernel e) events serves.1
      (λ more stays. closes request (after m Kernel e) events more (stays_inside m e serves.0 stays inside) (has_settled m e serves.0 stays inside)),
)

closes_first : (request : Request) (m : Moment) (events : List Event) → IsServing (map Exactly events) → m.flat.inside ≡ Some Kernel → done_about m.deltas m.flat 0 request ≡ map Exactly events → ClosesCall request m (map by_kernel events)
closes_first request m [] serves inside done = absurd serves
closes_first request m (e ∷ events) serves inside done = (
  refl,
  not_idle e serves.0,
  (λ settles plain. subst (λ (todo : List Todo). IsNext m.flat todo e) (sym done) refl),
  goes_on (closes_kernel_call e) request (after m Kernel e) events serves.1
      (λ more stays. closes request (after m Kernel e) events more (stays_inside m e serves.0 stays inside) (has_settled m e serves.0 stays inside)),
)

-- so it is a whole call with the request
pub served_whole : (request : Request) (deltas : List DeltaValue) (s : FlatState) (entries : List Entry) → IsKernelRequest deltas request → IsServed request deltas s entries → IsWholeCall request (at_rest deltas s) entries
served_whole request deltas s entries may served =
    let m : Moment = after (at_rest deltas s) Kernel Enter in
    let serves : IsServing (map Exactly served.events) = subst IsServing served.done (request_serves deltas m.flat request may) in
    subst (IsWholeCall request (at_rest deltas s)) (sym served.is) (refl, refl, closes_first request m served.events serves refl served.done)
