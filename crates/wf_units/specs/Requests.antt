-- What whole calls of the kernel's own actor do: each request has its events, which are its call,
-- and its end.
use Rattle.std.specs.Prelude.{ℕ, List, [], ◌∷◌, ◌++◌, ◌≡◌, ◌<◌, ◌+◌, ◌^◌, None, Some, length, map}
use Rattle.wf_outside.specs.declared.sizes.TheConstants.{MOST_FRAMES}
use Rattle.wf_outside.specs.declared.refusal.Refusal.{Refusal}
use Rattle.wf_outside.specs.Images.{DeltaValue}
use Rattle.wf_flat.specs.declared.event.Event.{Event}
use Rattle.wf_flat.specs.declared.event.Event.TheVariants.{Born, Dead, Map, Refused}
use Rattle.wf_flat.specs.State.{FlatState}
use Rattle.wf_effects.specs.declared.ranges.PageRun.{PageRun}
use Rattle.wf_effects.specs.Effects.{generation_born, generation_dead}
use Rattle.wf_effects.specs.Generations.{newest}
use Rattle.wf_effects.specs.Ranges.{runs_of}
use Rattle.wf_verdict.specs.declared.requests.Request.{Request}
use Rattle.wf_verdict.specs.declared.requests.Request.TheVariants.{Clones, Deletes, Patches}
use Rattle.wf_verdict.specs.Requests.{IsKernelRequest}
use Rattle.wf_verdict.specs.Verdict.{delta_at, patched, refusal_of}
use Rattle.wf_legal.specs.Legal.{at_rest}
use Rattle.wf_sound.specs.Sound.{IsSound}
use Rattle.wf_service.specs.Resting.{IsResting}
use Rattle.wf_units.specs.Units.{IsLegalCall}

-- the kernel's own actor may make a request of a sound machine that rests, where births are left
-- for all frames
pub record IsAsking (deltas : List DeltaValue) (s : FlatState) (request : Request) : Type 0 where
  pub sound : IsSound (at_rest deltas s)
  pub rests : IsResting s
  pub births : s.births + MOST_FRAMES < 2 ^ 64
  pub may : IsKernelRequest deltas request

-- the event that maps a run of pages of a patch
abbrev pub run_event : ℕ → PageRun → Event
run_event patch run = Map run.first run.count run.write (Some patch)

-- the events of a patch: the runs of its shared pages are mapped, and a generation is born with it
-- of the newest
abbrev pub patch_events : List DeltaValue → FlatState → ℕ → List Event
patch_events deltas s patch =
    map (run_event patch) (runs_of (delta_at deltas patch).shared)
    ++ Born (length s.gens) (newest s) (Some patch) ∷ []

-- a request that is refused changes nothing
abbrev pub RefusalsAreCalls : Type 0
RefusalsAreCalls =
    (deltas : List DeltaValue) (s : FlatState) (request : Request) (reason : Refusal)
    → IsAsking deltas s request → refusal_of deltas s 0 request ≡ Some reason
    → IsLegalCall deltas s request (Refused reason ∷ []) s

-- a clone that is not refused is born, the next generation, of its parent and with no patch
abbrev pub ClonesAreCalls : Type 0
ClonesAreCalls =
    (deltas : List DeltaValue) (s : FlatState) (parent : ℕ)
    → IsAsking deltas s (Clones parent) → refusal_of deltas s 0 (Clones parent) ≡ None
    → IsLegalCall deltas s (Clones parent) (Born (length s.gens) parent None ∷ [])
    (generation_born deltas s parent None)

-- a generation that is deleted, where that is not refused, lives no more
abbrev pub DeletionsAreCalls : Type 0
DeletionsAreCalls =
    (deltas : List DeltaValue) (s : FlatState) (generation : ℕ)
    → IsAsking deltas s (Deletes generation) → refusal_of deltas s 0 (Deletes generation) ≡ None
    → IsLegalCall deltas s (Deletes generation) (Dead generation ∷ [])
    (generation_dead s generation)

-- a patch that is not refused has its shared pages mapped, and a generation is born with it
abbrev pub PatchesAreCalls : Type 0
PatchesAreCalls =
    (deltas : List DeltaValue) (s : FlatState) (patch : ℕ)
    → IsAsking deltas s (Patches patch) → refusal_of deltas s 0 (Patches patch) ≡ None
    → IsLegalCall deltas s (Patches patch) (patch_events deltas s patch) (patched deltas s patch)
