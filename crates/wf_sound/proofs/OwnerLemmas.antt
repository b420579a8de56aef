-- What the kernel's own actor does keeps the invariant.
use Rattle.std.proofs.Common.{◌≡◌, ◌≢◌, ◌<◌, ◌≤◌, ◌+◌, ◌++◌, ℕ, zero, suc, List, [], ◌∷◌, true, Option, Some, None, length, map, refl, sym, ap, subst, ◌∙◌, inl, inr, arith, nat_eq, unwrap_or}
use Rattle.std.specs.Prelude.{slice_get}
use Rattle.std.specs.List.{AllByRecursion, IsDistinct, range_with_len}
use Rattle.std.proofs.lemmas.Option.{slice_get_cases}
use Rattle.wf_outside.specs.declared.refusal.Refusal.{Refusal}
use Rattle.wf_outside.specs.Images.{DeltaValue, data_numbers, text_numbers}
use Rattle.wf_flat.specs.declared.event.Actor.{Actor}
use Rattle.wf_flat.specs.declared.event.Actor.TheVariants.{Kernel}
use Rattle.wf_flat.specs.declared.event.Event.{Event}
use Rattle.wf_flat.specs.declared.event.Event.TheVariants.{Born, Dead, Map, Refused}
use Rattle.wf_flat.specs.State.{FlatState}
use Rattle.wf_flat.specs.Counts.{used_of}
use Rattle.wf_flat.specs.Changes.{without}
use Rattle.wf_effects.specs.declared.ranges.PageRun.{PageRun}
use Rattle.wf_effects.specs.Effects.{reaching, generation_born, generation_dead, mapped, pages_noted}
use Rattle.wf_effects.specs.Generations.{is_live, newest}
use Rattle.wf_effects.specs.Ranges.{runs_of}
use Rattle.wf_effects.specs.Texts.{pages_of}
use Rattle.wf_verdict.specs.declared.requests.Request.{Request}
use Rattle.wf_verdict.specs.declared.requests.Request.TheVariants.{Exits, PutsByte, Maps, Unmaps, TellsGeneration, Migrates, Quiesces, Deletes, Clones, Patches, NoCall}
use Rattle.wf_verdict.specs.declared.work.Todo.{Todo}
use Rattle.wf_verdict.specs.declared.work.Todo.TheVariants.{Exactly}
use Rattle.wf_verdict.specs.Requests.{IsKernelRequest}
use Rattle.wf_verdict.specs.Verdict.{clone_refusals, delete_refusals, delta_at, patch_refusals, patched, refusal_of}
use Rattle.wf_verdict.specs.Work.{delta_work, done_about, map_of, refused_or, work_of}
use Rattle.wf_legal.specs.Calls.{BeginsRequest, Doing, IsNext, Settling, later}
use Rattle.wf_legal.specs.Events.{flat_after}
use Rattle.wf_sound.specs.Sound.{HasNoneGoing, IsDelta, IsKernelWork, IsSoundState, IsUnused, run_numbers, runs_mapped}
use Rattle.std.proofs.lemmas.List.{length-map}
use Rattle.wf_flat.proofs.ListLemmas.{all_append}
use Rattle.wf_sound.proofs.AllLemmas.{all_back, all_both, all_front, all_get}
use Rattle.wf_sound.proofs.FrameLemmas.{used_before}
use Rattle.wf_sound.proofs.GenerationLemmas.{born_sound, dead_sound}
use Rattle.wf_sound.proofs.KernelLemmas.{leaves_sound, noting_keeps}
use Rattle.wf_sound.proofs.MapLemmas.{mapped_live, mapped_past, mapped_sound}
use Rattle.wf_sound.proofs.PatchLemmas.{all_unsorted, distinct_ends, live_text_kept, middle_apart, runs_low, runs_numbers}
use Rattle.wf_sound.proofs.RefusalLemmas.{all_none, empty_none, frames_enough, unused_pages, view_live, views_few}
use Rattle.wf_sound.proofs.RequestLemmas.{mapped_none}
use Rattle.wf_sound.proofs.TextLemmas.{newborn_clone, newborn_patched}
use Rattle.wf_sound.proofs.WorkLemmas.{IsSoundWith, next_call, with_inside}

without_kernel : (o : Option Actor) → o ≡ Some Kernel → without o Kernel ≡ None
without_kernel o e = rw e refl

module _ (deltas : List DeltaValue) (s : FlatState) (are : AllByRecursion IsDelta deltas) (sound : IsSoundState deltas s) (inside : s.inside ≡ Some Kernel) where
  -- its call is over in this state
  over : (u : FlatState) → IsSoundState deltas u → u.inside ≡ Some Kernel → HasNoneGoing u → IsSoundWith deltas (record u { inside = without u.inside Kernel }) None
  over u is in_u none = with_inside deltas (record u { inside = without u.inside Kernel }) None None (leaves_sound deltas u Kernel is) (without_kernel u.inside in_u) none

  -- the generation is born
  born_now : (patch : ℕ) (delta : DeltaValue) (parent : ℕ) → slice_get deltas patch ≡ Some delta → is_live s parent ≡ true → length s.gens < 1024 → AllByRecursion (IsUnused s) (text_numbers delta.private)
      → used_of (generation_born deltas s parent (Some patch)) + s.worn ≤ s.limits.frames → HasNoneGoing s → IsSoundWith deltas (flat_after deltas s Kernel (Born (length s.gens) parent (Some patch))) None
  born_now patch delta parent of_run live few unused frames none =
      let is = all_get IsDelta deltas patch delta are of_run in
      over (generation_born deltas s parent (Some patch))
      (born_sound deltas s parent (Some patch) sound live few (newborn_patched deltas s parent patch delta sound live of_run is unused) frames) inside none

  -- a run is mapped, and the rest is left
  run_left : (patch : ℕ) (delta : DeltaValue) (run : PageRun) (runs : List PageRun) (parent : ℕ) → slice_get deltas patch ≡ Some delta → is_live s parent ≡ true → length s.gens < 1024
      → AllByRecursion (λ run. run.first + run.count ≤ 67108864) (run ∷ runs) → IsDistinct nat_eq (text_numbers delta.private ++ run_numbers (run ∷ runs)) → AllByRecursion (IsUnused s) (text_numbers delta.private ++ run_numbers (run ∷ runs))
      → used_of (generation_born deltas (runs_mapped s delta (run ∷ runs)) parent (Some patch)) + s.worn ≤ s.limits.frames → HasNoneGoing s
      → IsSoundWith deltas (flat_after deltas s Kernel (Map run.first run.count run.write (Some patch))) (Some (Doing (map (map_of patch) runs ++ Exactly (Born (length s.gens) parent (Some patch)) ∷ [])))
  run_left patch delta run runs parent of_run live few low distinct unused frames none =
      let v : FlatState = mapped s run.first run.count run.write (Some delta) in
      let range : List ℕ = range_with_len run.first run.count in
      let private : List ℕ = text_numbers delta.private in
      let is = all_get IsDelta deltas patch delta are of_run in
      let here : AllByRecursion (IsUnused s) range = all_front (IsUnused s) range (run_numbers runs) (all_back (IsUnused s) private (range ++ run_numbers runs) unused) in
      let more = used_before deltas v delta runs parent (Some patch) in
      let is_v = mapped_sound deltas s run.first run.count run.write (Some delta) sound is low.0 here (omega arith) in
      let ends : AllByRecursion (IsUnused s) (private ++ run_numbers runs) = all_append (IsUnused s) private (run_numbers runs) (all_front (IsUnused s) private (range ++ run_numbers runs) unused) (all_back (IsUnused s) range (run_numbers runs) (all_back (IsUnused s) private (range ++ run_numbers runs) unused)) in
      let rest : List Todo = map (map_of patch) runs ++ Exactly (Born (length s.gens) parent (Some patch)) ∷ [] in
      let many : length v.gens ≡ length s.gens = length-map s.gens (reaching range) in
      let work : IsKernelWork deltas v rest = record {
        patch = patch;
        delta = delta;
        runs = runs;
        parent = parent;
        is = ap (λ (n : ℕ). map (map_of patch) runs ++ Exactly (Born n parent (Some patch)) ∷ []) (sym many);
        of_run = of_run;
        live = mapped_live s run.first run.count run.write (Some delta) parent ∙ live;
        few = omega arith;
        low = low.1;
        distinct = distinct_ends private range (run_numbers runs) distinct;
        unused = all_both (λ m. AllByRecursion (λ k. k ≢ m) range) (IsUnused s) (IsUnused v) (λ m apart e. (mapped_past s run.first run.count run.write (Some delta) m apart e.0, live_text_kept s.gens range m ∙ e.1)) (private ++ run_numbers runs)
            (middle_apart private range (run_numbers runs) distinct) ends;
        frames = frames;
        none_going = mapped_none s run.first run.count run.write (Some delta) none;
      } in
      let keeps = noting_keeps deltas v Kernel range is_v in
      let done : IsSoundWith deltas (pages_noted v Kernel range) (Some (Doing rest)) = with_inside deltas (pages_noted v Kernel range) (Some Kernel) (Some (Doing rest)) keeps.state inside (keeps.hand (Some Kernel) (Some (Doing rest)) work) in
      subst (λ (o : Option DeltaValue). IsSoundWith deltas (pages_noted (mapped s run.first run.count run.write o) Kernel range) (Some (Doing rest))) (sym of_run) done

  work_by : (patch : ℕ) (delta : DeltaValue) (runs : List PageRun) (parent : ℕ) (event : Event) → slice_get deltas patch ≡ Some delta → is_live s parent ≡ true → length s.gens < 1024
      → AllByRecursion (λ run. run.first + run.count ≤ 67108864) runs → IsDistinct nat_eq (text_numbers delta.private ++ run_numbers runs) → AllByRecursion (IsUnused s) (text_numbers delta.private ++ run_numbers runs)
      → used_of (generation_born deltas (runs_mapped s delta runs) parent (Some patch)) + s.worn ≤ s.limits.frames → HasNoneGoing s → IsNext s (map (map_of patch) runs ++ Exactly (Born (length s.gens) parent (Some patch)) ∷ []) event
      → IsSoundWith deltas (flat_after deltas s Kernel event) (next_call deltas s Kernel (Some (Doing (map (map_of patch) runs ++ Exactly (Born (length s.gens) parent (Some patch)) ∷ []))) event)
  work_by patch delta [] parent event of_run live few low distinct unused frames none is =
      subst (λ (e : Event). IsSoundWith deltas (flat_after deltas s Kernel e) (next_call deltas s Kernel (Some (Doing (Exactly (Born (length s.gens) parent (Some patch)) ∷ []))) e)) (sym is)
      (born_now patch delta parent of_run live few (all_front (IsUnused s) (text_numbers delta.private) [] unused) frames none)
  work_by patch delta (run ∷ runs) parent event of_run live few low distinct unused frames none is =
      subst (λ (e : Event). IsSoundWith deltas (flat_after deltas s Kernel e) (next_call deltas s Kernel (Some (Doing (map_of patch run ∷ map (map_of patch) runs ++ Exactly (Born (length s.gens) parent (Some patch)) ∷ []))) e)) (sym is)
      (run_left patch delta run runs parent of_run live few low distinct unused frames none)

  -- what it has still to do goes on
  pub kernel_goes_on : (todo : List Todo) (event : Event) → IsKernelWork deltas s todo → IsNext s todo event → IsSoundWith deltas (flat_after deltas s Kernel event) (next_call deltas s Kernel (Some (Doing todo)) event)
  kernel_goes_on todo event work is =
      subst (λ (todo : List Todo). IsSoundWith deltas (flat_after deltas s Kernel event) (next_call deltas s Kernel (Some (Doing todo)) event)) (sym work.is)
      (work_by work.patch work.delta work.runs work.parent event work.of_run work.live work.few work.low work.distinct work.unused work.frames work.none_going (subst (λ (todo : List Todo). IsNext s todo event) work.is is))

-- what holds where a patch is not refused
pub record IsPatchable (deltas : List DeltaValue) (s : FlatState) (patch : ℕ) (delta : DeltaValue) : Type 0 where
  pub is_delta : delta_at deltas patch ≡ delta
  pub live : is_live s (newest s) ≡ true
  pub few : length s.gens < 1024
  pub low : AllByRecursion (λ run. run.first + run.count ≤ 67108864) (runs_of delta.shared)
  pub distinct : IsDistinct nat_eq (text_numbers delta.private ++ run_numbers (runs_of delta.shared))
  pub unused : AllByRecursion (IsUnused s) (text_numbers delta.private ++ run_numbers (runs_of delta.shared))
  pub frames : used_of (generation_born deltas (runs_mapped s delta (runs_of delta.shared)) (newest s) (Some patch)) + s.worn ≤ s.limits.frames

pub patch_facts : (deltas : List DeltaValue) (s : FlatState) → AllByRecursion IsDelta deltas → IsSoundState deltas s → HasNoneGoing s → (patch : ℕ) (delta : DeltaValue) → slice_get deltas patch ≡ Some delta → refusal_of deltas s 0 (Patches patch) ≡ None → IsPatchable deltas s patch delta
patch_facts deltas s are sound none patch delta of_run e =
    let all = all_none (patch_refusals deltas s patch) e in
    let at : delta_at deltas patch ≡ delta = ap (λ (o : Option DeltaValue). unwrap_or o (record { private = []; shared = []; jumps = [] })) of_run in
    let kept = all_get IsDelta deltas patch delta are of_run in
    let numbers : run_numbers (runs_of delta.shared) ≡ data_numbers delta.shared = runs_numbers delta.shared in
    let unused : AllByRecursion (IsUnused s) (pages_of delta) = subst (λ (d : DeltaValue). AllByRecursion (IsUnused s) (pages_of d)) at (unused_pages s (pages_of (delta_at deltas patch)) none all.1.1.1.0 all.1.1.1.1.0) in
    record {
      is_delta = at;
      live = view_live s (newest s) all.0;
      few = views_few s all.1.1.0;
      low = runs_low delta.shared kept.shared_pages;
      distinct = subst (λ (ns : List ℕ). IsDistinct nat_eq (text_numbers delta.private ++ ns)) (sym numbers) kept.distinct;
      unused = subst (λ (ns : List ℕ). AllByRecursion (IsUnused s) (text_numbers delta.private ++ ns)) (sym numbers) (all_unsorted (IsUnused s) (text_numbers delta.private ++ data_numbers delta.shared) unused);
      frames = subst (λ (d : DeltaValue). used_of (generation_born deltas (runs_mapped s d (runs_of d.shared)) (newest s) (Some patch)) + s.worn ≤ s.limits.frames) at (frames_enough deltas s (patched deltas s patch) sound all.1.1.1.1.1.0);
    }

-- the patch of a number that the run has
pub delta_there : (deltas : List DeltaValue) (patch : ℕ) → patch < length deltas → (delta : DeltaValue) × (slice_get deltas patch ≡ Some delta)
delta_there deltas patch lt = elim (slice_get_cases deltas patch).1 [
  | inl w ↦ (w.0, w.2)
  | inr w ↦ absurd (let k : length deltas ≤ patch = slice_none deltas patch w.1 in omega arith)
]
  where
    slice_none : (xs : List DeltaValue) (i : ℕ) → slice_get xs i ≡ None → length xs ≤ i
    slice_none [] i e = omega arith
    slice_none (x ∷ xs) zero e = absurd cc
    slice_none (x ∷ xs) (suc i) e = let k : length xs ≤ i = slice_none xs i e in omega arith

module _ (deltas : List DeltaValue) (s : FlatState) (are : AllByRecursion IsDelta deltas) (sound : IsSoundState deltas s) (inside : s.inside ≡ Some Kernel) (none : HasNoneGoing s) (owed : List ℕ) (last : Option ℕ) where
  refused_now : (reason : Refusal) → IsSoundWith deltas (flat_after deltas s Kernel (Refused reason)) None
  refused_now reason = over deltas s are sound inside s sound inside none

  clone_by : (generation : ℕ) (event : Event) (o : Option Refusal) → refusal_of deltas s 0 (Clones generation) ≡ o → IsNext s (refused_or o (Exactly (Born (length s.gens) generation None) ∷ [])) event
      → IsSoundWith deltas (flat_after deltas s Kernel event) (next_call deltas s Kernel (Some (Settling owed last)) event)
  clone_by generation event (Some reason) e is = subst (λ (x : Event). IsSoundWith deltas (flat_after deltas s Kernel x) (next_call deltas s Kernel (Some (Settling owed last)) x)) (sym is) (refused_now reason)
  clone_by generation event None e is =
      let all = all_none (clone_refusals s generation) e in
      let live = view_live s generation all.0 in
      let u : FlatState = generation_born deltas s generation None in
      let born = born_sound deltas s generation None sound live (views_few s all.1.0) (newborn_clone deltas s generation sound live) (frames_enough deltas s u sound all.1.1.0) in
      subst (λ (x : Event). IsSoundWith deltas (flat_after deltas s Kernel x) (next_call deltas s Kernel (Some (Settling owed last)) x)) (sym is) (over deltas s are sound inside u born inside none)

  delete_by : (generation : ℕ) (event : Event) (o : Option Refusal) → refusal_of deltas s 0 (Deletes generation) ≡ o → IsNext s (refused_or o (Exactly (Dead generation) ∷ [])) event
      → IsSoundWith deltas (flat_after deltas s Kernel event) (next_call deltas s Kernel (Some (Settling owed last)) event)
  delete_by generation event (Some reason) e is = subst (λ (x : Event). IsSoundWith deltas (flat_after deltas s Kernel x) (next_call deltas s Kernel (Some (Settling owed last)) x)) (sym is) (refused_now reason)
  delete_by generation event None e is =
      let all = all_none (delete_refusals s generation) e in
      let died = dead_sound deltas s generation (empty_none s generation all.1.0) sound in
      subst (λ (x : Event). IsSoundWith deltas (flat_after deltas s Kernel x) (next_call deltas s Kernel (Some (Settling owed last)) x)) (sym is) (over deltas s are sound inside (generation_dead s generation) died inside none)

  runs_by : (patch : ℕ) (delta : DeltaValue) (runs : List PageRun) (event : Event) → slice_get deltas patch ≡ Some delta → done_about deltas s 0 (Patches patch) ≡ map (map_of patch) runs ++ Exactly (Born (length s.gens) (newest s) (Some patch)) ∷ []
      → is_live s (newest s) ≡ true → length s.gens < 1024 → AllByRecursion (λ run. run.first + run.count ≤ 67108864) runs → IsDistinct nat_eq (text_numbers delta.private ++ run_numbers runs)
      → AllByRecursion (IsUnused s) (text_numbers delta.private ++ run_numbers runs) → used_of (generation_born deltas (runs_mapped s delta runs) (newest s) (Some patch)) + s.worn ≤ s.limits.frames
      → IsNext s (map (map_of patch) runs ++ Exactly (Born (length s.gens) (newest s) (Some patch)) ∷ []) event
      → IsSoundWith deltas (flat_after deltas s Kernel event) (next_call deltas s Kernel (Some (Settling owed last)) event)
  runs_by patch delta [] event of_run todo live few low distinct unused frames is =
      subst (λ (x : Event). IsSoundWith deltas (flat_after deltas s Kernel x) (next_call deltas s Kernel (Some (Settling owed last)) x)) (sym is)
      (born_now deltas s are sound inside patch delta (newest s) of_run live few (all_front (IsUnused s) (text_numbers delta.private) [] unused) frames none)
  runs_by patch delta (run ∷ runs) event of_run todo live few low distinct unused frames is =
      let rest : List Todo = map (map_of patch) runs ++ Exactly (Born (length s.gens) (newest s) (Some patch)) ∷ [] in
      let left : later (done_about deltas s 0 (Patches patch)) ≡ rest = ap later todo in
      subst (λ (x : Event). IsSoundWith deltas (flat_after deltas s Kernel x) (next_call deltas s Kernel (Some (Settling owed last)) x)) (sym is)
      (subst (λ (t : List Todo). IsSoundWith deltas (flat_after deltas s Kernel (Map run.first run.count run.write (Some patch))) (Some (Doing t))) (sym left)
      (run_left deltas s are sound inside patch delta run runs (newest s) of_run live few low distinct unused frames none))

  patch_by : (patch : ℕ) (delta : DeltaValue) (event : Event) → slice_get deltas patch ≡ Some delta → (o : Option Refusal) → refusal_of deltas s 0 (Patches patch) ≡ o → IsNext s (refused_or o (work_of deltas s (Patches patch))) event
      → IsSoundWith deltas (flat_after deltas s Kernel event) (next_call deltas s Kernel (Some (Settling owed last)) event)
  patch_by patch delta event of_run (Some reason) e is = subst (λ (x : Event). IsSoundWith deltas (flat_after deltas s Kernel x) (next_call deltas s Kernel (Some (Settling owed last)) x)) (sym is) (refused_now reason)
  patch_by patch delta event of_run None e is =
      let facts = patch_facts deltas s are sound none patch delta of_run e in
      let todo : done_about deltas s 0 (Patches patch) ≡ delta_work s patch delta = ap (λ (o : Option Refusal). refused_or o (work_of deltas s (Patches patch))) e ∙ ap (delta_work s patch) facts.is_delta in
      runs_by patch delta (runs_of delta.shared) event of_run todo facts.live facts.few facts.low facts.distinct facts.unused facts.frames (subst (λ (d : DeltaValue). IsNext s (delta_work s patch d) event) facts.is_delta is)

  request_by : (event : Event) (request : Request) → IsKernelRequest deltas request → IsNext s (done_about deltas s 0 request) event → IsSoundWith deltas (flat_after deltas s Kernel event) (next_call deltas s Kernel (Some (Settling owed last)) event)
  request_by event (Clones generation) may is = clone_by generation event (refusal_of deltas s 0 (Clones generation)) refl is
  request_by event (Deletes generation) may is = delete_by generation event (refusal_of deltas s 0 (Deletes generation)) refl is
  request_by event (Patches patch) may is = let w = delta_there deltas patch may in patch_by patch w.0 event w.1 (refusal_of deltas s 0 (Patches patch)) refl is
  request_by event (Exits code) may is = absurd may
  request_by event (PutsByte byte) may is = absurd may
  request_by event (Maps va pages right) may is = absurd may
  request_by event (Unmaps va pages) may is = absurd may
  request_by event TellsGeneration may is = absurd may
  request_by event (Migrates generation) may is = absurd may
  request_by event Quiesces may is = absurd may
  request_by event (NoCall number) may is = absurd may

  -- what it requests begins
  pub kernel_begins : (event : Event) → BeginsRequest deltas s event → IsSoundWith deltas (flat_after deltas s Kernel event) (next_call deltas s Kernel (Some (Settling owed last)) event)
  kernel_begins event begins = request_by event begins.request begins.may begins.next
