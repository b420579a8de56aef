-- Whole calls of the kernel's own actor.
use Rattle.std.proofs.Common.{◌≡◌, ◌++◌, ℕ, List, [], ◌∷◌, Option, Some, None, length, map, refl, sym, subst, ap, ◌∙◌}
use Rattle.std.specs.Prelude.{slice_get, unwrap_or}
use Rattle.std.specs.List.{AllByRecursion}
use Rattle.wf_outside.specs.declared.refusal.Refusal.{Refusal}
use Rattle.wf_outside.specs.Images.{DeltaValue}
use Rattle.wf_outside.specs.Lists.{first_of}
use Rattle.wf_flat.specs.declared.event.Actor.{Actor}
use Rattle.wf_flat.specs.declared.event.Actor.TheVariants.{Kernel}
use Rattle.wf_flat.specs.declared.event.Event.{Event}
use Rattle.wf_flat.specs.declared.event.Event.TheVariants.{Born, Dead, Enter, Refused}
use Rattle.wf_flat.specs.declared.event.Entry.{Entry}
use Rattle.wf_flat.specs.State.{FlatState}
use Rattle.wf_flat.specs.Changes.{entered}
use Rattle.wf_effects.specs.declared.ranges.PageRun.{PageRun}
use Rattle.wf_effects.specs.Effects.{generation_born, generation_dead, mapped}
use Rattle.wf_effects.specs.Generations.{newest}
use Rattle.wf_effects.specs.Ranges.{runs_of}
use Rattle.wf_effects.specs.Texts.{pages_of}
use Rattle.wf_verdict.specs.declared.requests.Request.{Request}
use Rattle.wf_verdict.specs.declared.requests.Request.TheVariants.{Clones, Deletes, Patches}
use Rattle.wf_verdict.specs.declared.work.Todo.{Todo}
use Rattle.wf_verdict.specs.declared.work.Todo.TheVariants.{Exactly}
use Rattle.wf_verdict.specs.Requests.{IsKernelRequest}
use Rattle.wf_verdict.specs.Verdict.{delta_at, lacks, leaving, no_frames, no_more_views, no_view, overlap, patched, refusal_of, shared_mapped}
use Rattle.wf_verdict.specs.Work.{done_about, map_of, refused_or, work_of}
use Rattle.wf_legal.specs.Events.{flat_after}
use Rattle.wf_legal.specs.Legal.{IsLegal, at_rest, end_of}
use Rattle.wf_sound.specs.Laws.{AllowedCanBeMade, EntriesKeepSound, JournalsKeepSound}
use Rattle.wf_sound.specs.Sound.{runs_mapped}
use Rattle.wf_sound.proofs.OwnerLemmas.{delta_there}
use Rattle.wf_service.proofs.QuietLemmas.{IsFree}
use Rattle.wf_request.specs.Requesting.{IsServed, all_done, by_kernel, entries_of, event_of}
use Rattle.wf_request.proofs.ServedLemmas.{call_adds, call_rests}
use Rattle.wf_request.proofs.UndoLemmas.{maps_only}
use Rattle.wf_units.specs.Requests.{IsAsking, patch_events, run_event}
use Rattle.wf_units.specs.Units.{IsLegalCall}

-- runs of a patch that are mapped once it has entered
runs_inside : (delta : DeltaValue) (runs : List PageRun) (s : FlatState) → runs_mapped (entered s Kernel) delta runs ≡ entered (runs_mapped s delta runs) Kernel
runs_inside delta [] s = refl
runs_inside delta (run ∷ runs) s = runs_inside delta runs (mapped s run.first run.count run.write (Some delta))

-- its Enter changes nothing of what a request is refused for
born_frames : (s : FlatState) (parent : ℕ) → no_frames (entered s Kernel) (generation_born [] (entered s Kernel) parent None) ≡ no_frames s (generation_born [] s parent None)
unfolding no_frames
born_frames s parent = refl

inside_frames : (deltas : List DeltaValue) (s t : FlatState) (patch : ℕ) → no_frames (entered s Kernel) (generation_born deltas (entered t Kernel) (newest s) (Some patch)) ≡ no_frames s (generation_born deltas t (newest s) (Some patch))
unfolding no_frames
inside_frames deltas s t patch = refl

patch_frames : (deltas : List DeltaValue) (s : FlatState) (patch : ℕ) → no_frames (entered s Kernel) (patched deltas (entered s Kernel) patch) ≡ no_frames s (patched deltas s patch)
patch_frames deltas s patch =
    let delta : DeltaValue = delta_at deltas patch in
    ap (λ (t : FlatState). no_frames (entered s Kernel) (generation_born deltas t (newest s) (Some patch))) (runs_inside delta (runs_of delta.shared) s)
    ∙ inside_frames deltas s (shared_mapped s delta) patch

refusal_inside : (deltas : List DeltaValue) (s : FlatState) (request : Request) → IsKernelRequest deltas request → refusal_of deltas (entered s Kernel) 0 request ≡ refusal_of deltas s 0 request
refusal_inside deltas s (Clones parent) may = ap (λ (o : Option Refusal). first_of (no_view s parent ∷ no_more_views s ∷ o ∷ [])) (born_frames s parent)
refusal_inside deltas s (Deletes generation) may = refl
refusal_inside deltas s (Patches patch) may =
    ap (λ (o : Option Refusal). first_of (no_view s (newest s) ∷ lacks s (newest s) patch ∷ no_more_views s ∷ overlap s (pages_of (delta_at deltas patch)) ∷ leaving s (pages_of (delta_at deltas patch)) ∷ o ∷ [])) (patch_frames deltas s patch)
refusal_inside deltas s request may = absurd may

done_inside : (deltas : List DeltaValue) (s : FlatState) (request : Request) (o : Option Refusal) → IsKernelRequest deltas request → refusal_of deltas s 0 request ≡ o → done_about deltas (entered s Kernel) 0 request ≡ refused_or o (work_of deltas (entered s Kernel) request)
done_inside deltas s request o may is = ap (λ (o : Option Refusal). refused_or o (work_of deltas (entered s Kernel) request)) (refusal_inside deltas s request may ∙ is)

-- its entries
entries_are : (events : List Event) → map (λ next. by_kernel (event_of next)) (map Exactly events) ≡ map by_kernel events
entries_are [] = refl
entries_are (event ∷ events) = ap (λ (l : List Entry). by_kernel event ∷ l) (entries_are events)

module _ (keeps : EntriesKeepSound) (journals : JournalsKeepSound) (can : AllowedCanBeMade) (deltas : List DeltaValue) (s : FlatState) (request : Request) (a : IsAsking deltas s request) where
  call_of : (events : List Event) (new : FlatState) → done_about deltas (entered s Kernel) 0 request ≡ map Exactly events → all_done deltas (entered s Kernel) (map Exactly events) ≡ new → IsLegalCall deltas s request events new
  call_of events new todo is =
      let t : FlatState = entered s Kernel in
      let whole : new ≡ all_done deltas t (done_about deltas t 0 request) = sym is ∙ ap (all_done deltas t) (sym todo) in
      let added = call_adds keeps journals can deltas s request a.sound a.rests a.births a.may new [] (entries_of (done_about deltas t 0 request)) whole refl in
      let entries : added.made ≡ map by_kernel (Enter ∷ events) = sym added.appended ∙ ap entries_of todo ∙ ap (λ (l : List Entry). by_kernel Enter ∷ l) (entries_are events) in
      record {
        legal = subst (IsLegal (at_rest deltas s)) entries added.legal;
        reached = added.reached ∙ ap (end_of (at_rest deltas s)) entries;
        rests = call_rests keeps journals can deltas s request a.sound a.rests a.births a.may new whole;
        served = subst (IsServed request deltas s) entries added.fits;
      }

  outside : (w : FlatState) → w.inside ≡ None → record w { inside = None } ≡ w
  outside w e = ap (λ (o : Option Actor). (let f : FlatState = record w { inside = o } in f)) (sym e)

  pub refused_call : (reason : Refusal) → refusal_of deltas s 0 request ≡ Some reason → IsLegalCall deltas s request (Refused reason ∷ []) s
  refused_call reason e = call_of (Refused reason ∷ []) s (done_inside deltas s request (Some reason) a.may e) (outside s a.rests.no_one)

pub clone_call : (keeps : EntriesKeepSound) (journals : JournalsKeepSound) (can : AllowedCanBeMade) (deltas : List DeltaValue) (s : FlatState) (parent : ℕ) → IsAsking deltas s (Clones parent) → refusal_of deltas s 0 (Clones parent) ≡ None
    → IsLegalCall deltas s (Clones parent) (Born (length s.gens) parent None ∷ []) (generation_born deltas s parent None)
clone_call keeps journals can deltas s parent a e =
    call_of keeps journals can deltas s (Clones parent) a (Born (length s.gens) parent None ∷ []) (generation_born deltas s parent None) (done_inside deltas s (Clones parent) None a.may e)
    (outside keeps journals can deltas s (Clones parent) a (generation_born deltas s parent None) a.rests.no_one)

pub deletion_call : (keeps : EntriesKeepSound) (journals : JournalsKeepSound) (can : AllowedCanBeMade) (deltas : List DeltaValue) (s : FlatState) (generation : ℕ) → IsAsking deltas s (Deletes generation) → refusal_of deltas s 0 (Deletes generation) ≡ None
    → IsLegalCall deltas s (Deletes generation) (Dead generation ∷ []) (generation_dead s generation)
deletion_call keeps journals can deltas s generation a e =
    call_of keeps journals can deltas s (Deletes generation) a (Dead generation ∷ []) (generation_dead s generation) (done_inside deltas s (Deletes generation) None a.may e)
    (outside keeps journals can deltas s (Deletes generation) a (generation_dead s generation) a.rests.no_one)

-- a patch: its runs, and its generation
module _ (deltas : List DeltaValue) (patch : ℕ) (delta : DeltaValue) (there : slice_get deltas patch ≡ Some delta) where
  runs_done : (number parent : ℕ) (runs : List PageRun) (s : FlatState) → s.inside ≡ None → AllByRecursion IsFree s.harts
      → all_done deltas (entered s Kernel) (map Exactly (map (run_event patch) runs ++ Born number parent (Some patch) ∷ [])) ≡ generation_born deltas (runs_mapped s delta runs) parent (Some patch)
  runs_done number parent [] s inside free = ap (λ (o : Option Actor). (let f : FlatState = record (generation_born deltas s parent (Some patch)) { inside = o } in f)) (sym inside)
  runs_done number parent (run ∷ runs) s inside free =
      let w : FlatState = mapped s run.first run.count run.write (Some delta) in
      let one : flat_after deltas (entered s Kernel) Kernel (run_event patch run) ≡ entered w Kernel = maps_only deltas (entered s Kernel) run.first run.count run.write (Some patch) free ∙ ap (λ (o : Option DeltaValue). mapped (entered s Kernel) run.first run.count run.write o) there in
      ap (λ (t : FlatState). all_done deltas t (map Exactly (map (run_event patch) runs ++ Born number parent (Some patch) ∷ []))) one ∙ runs_done number parent runs w inside free

runs_exactly : (patch : ℕ) (last : Event) (runs : List PageRun) → map (map_of patch) runs ++ Exactly last ∷ [] ≡ map Exactly (map (run_event patch) runs ++ last ∷ [])
runs_exactly patch last [] = refl
runs_exactly patch last (run ∷ runs) = ap (λ (l : List Todo). map_of patch run ∷ l) (runs_exactly patch last runs)

pub patch_call : (keeps : EntriesKeepSound) (journals : JournalsKeepSound) (can : AllowedCanBeMade) (deltas : List DeltaValue) (s : FlatState) (patch : ℕ) → IsAsking deltas s (Patches patch) → refusal_of deltas s 0 (Patches patch) ≡ None
    → IsLegalCall deltas s (Patches patch) (patch_events deltas s patch) (patched deltas s patch)
patch_call keeps journals can deltas s patch a e =
    let d = delta_there deltas patch a.may in
    let delta : DeltaValue = delta_at deltas patch in
    let same : delta ≡ d.0 = ap (λ (o : Option DeltaValue). unwrap_or o (record { private = []; shared = []; jumps = [] })) d.1 in
    let there : slice_get deltas patch ≡ Some delta = d.1 ∙ ap Some (sym same) in
    let runs : List PageRun = runs_of delta.shared in
    call_of keeps journals can deltas s (Patches patch) a (patch_events deltas s patch) (patched deltas s patch)
    (done_inside deltas s (Patches patch) None a.may e ∙ runs_exactly patch (Born (length s.gens) (newest s) (Some patch)) runs)
    (runs_done deltas patch delta there (length s.gens) (newest s) runs s a.rests.no_one a.rests.no_try)
