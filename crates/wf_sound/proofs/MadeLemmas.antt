-- What is allowed where the invariant holds can be made.
use Rattle.std.proofs.Common.{◌≡◌, ◌<◌, ◌≤◌, ◌+◌, ◌^◌, ◌++◌, ℕ, List, [], ◌∷◌, Bool, true, false, Option, Some, None, length, map, refl, sym, ap, subst, inl, inr, arith}
use Rattle.std.specs.Prelude.{slice_get, IfSome, MatchBool}
use Rattle.std.specs.List.{AllByRecursion, range_with_len}
use Rattle.std.proofs.lemmas.Option.{slice_get_within}
use Rattle.rv_inst.specs.declared.want.Want.TheVariants as want
use Rattle.wf_outside.specs.declared.refusal.Refusal.{Refusal}
use Rattle.wf_outside.specs.Images.{DeltaValue, data_numbers, text_numbers}
use Rattle.wf_outside.specs.Pages.{DataPageValue, IsPage, PageValue}
use Rattle.wf_flat.specs.declared.event.Actor.{Actor}
use Rattle.wf_flat.specs.declared.event.Actor.TheVariants.{Hart, Kernel}
use Rattle.wf_flat.specs.declared.event.Event.{Event}
use Rattle.wf_flat.specs.declared.event.Event.TheVariants.{Fetch, Look, Take, Put, Swap, Miss, End, Again, Wait, Enter, Sync, Trap, Exit, Out, Idle, Map, Going, Ending, Gone, Born, Move, Dead, Refused}
use Rattle.wf_flat.specs.declared.state.Life.TheVariants.{Running}
use Rattle.wf_flat.specs.State.{FlatState, HartState, PageState}
use Rattle.wf_flat.specs.Counts.{used_of}
use Rattle.wf_flat.specs.Memory.{data_in}
use Rattle.wf_flat.specs.Steps.{MayAct, is_done, is_inside, want_in}
use Rattle.wf_flat.proofs.ChangeLemmas.{hart_there}
use Rattle.wf_flat.proofs.ListLemmas.{and_some, some_and}
use Rattle.wf_flat.proofs.RisingLemmas.{length-rising}
use Rattle.wf_flat.proofs.SortLemmas.{length-map}
use Rattle.wf_effects.specs.declared.ranges.PageRun.{PageRun}
use Rattle.wf_effects.specs.Effects.{generation_born, mapped}
use Rattle.wf_effects.specs.Generations.{is_live, newest}
use Rattle.wf_effects.specs.Ranges.{runs_of}
use Rattle.wf_effects.specs.Texts.{IsSpliceable}
use Rattle.wf_flat.specs.Accesses.{generation_text}
use Rattle.wf_verdict.specs.declared.requests.Request.{Request}
use Rattle.wf_verdict.specs.declared.requests.Request.TheVariants.{Exits, PutsByte, Maps, Unmaps, TellsGeneration, Migrates, Quiesces, Deletes, Clones, Patches, NoCall}
use Rattle.wf_verdict.specs.declared.work.Todo.{Todo}
use Rattle.wf_verdict.specs.declared.work.Todo.TheVariants.{Exactly, Leaves}
use Rattle.wf_verdict.specs.Requests.{IsKernelRequest}
use Rattle.wf_verdict.specs.Verdict.{IsPatch, IsWithinLimits, clone_refusals, refusal_of}
use Rattle.wf_verdict.specs.Work.{delta_work, done_about, map_of, refused_or, work_of}
use Rattle.wf_legal.specs.Calls.{Begins, Call, Doing, GoesOn, IsGone, IsLeaving, IsNext, Settling}
use Rattle.wf_legal.specs.Legal.{Allows, Moment}
use Rattle.wf_sound.specs.Making.{CanBeMade, IsThere, Suits, WantsNoTrap}
use Rattle.wf_sound.specs.Sound.{HasNoneGoing, IsDelta, IsHartWork, IsInHand, IsSettling, IsSound, IsSoundState, IsUnused, run_numbers, runs_mapped}
use Rattle.wf_sound.proofs.AllLemmas.{all_back, all_front, all_get, all_more}
use Rattle.wf_sound.proofs.BeginLemmas.{Fits}
use Rattle.wf_sound.proofs.FrameLemmas.{used_before}
use Rattle.wf_sound.proofs.GenerationLemmas.{live_gen}
use Rattle.wf_sound.proofs.HandLemmas.{CallsHart, calls_only}
use Rattle.wf_sound.proofs.OwnerLemmas.{delta_there, patch_facts}
use Rattle.wf_sound.proofs.PlaceLemmas.{HaveRows, access_placed}
use Rattle.wf_sound.proofs.RefusalLemmas.{all_none, view_live, views_few}
use Rattle.wf_sound.proofs.RequestLemmas.{begin_fits, call_no_trap, clone_fits, map_fits}
use Rattle.wf_sound.proofs.SoundLemmas.{who_inside}
use Rattle.wf_sound.proofs.TextLemmas.{fits_live}

-- an instruction that is done wants no trap
done_no_trap : (hart : HartState) → is_done hart (want_in hart) ≡ true → WantsNoTrap hart
done_no_trap hart done cause value e = let k : is_done hart (want_in hart) ≡ false = ap (is_done hart) e in cc

-- what a hart does outside the kernel suits the state
outside_fits : HaveRows → (deltas : List DeltaValue) (s : FlatState) (h : ℕ) (event : Event) → MayAct s (Hart h) event → Suits deltas s (Hart h) event
outside_fits rows deltas s h (Put va width value) may =
    let w = some_and (slice_get s.harts h) _ may in access_placed rows w.0 (record { va = va; width = width; write = true }) w.2.1.0
outside_fits rows deltas s h (Swap va width old new) may =
    let w = some_and (slice_get s.harts h) _ may in access_placed rows w.0 (record { va = va; width = width; write = true }) w.2.1.0
outside_fits rows deltas s h (End pc) may =
    let w = some_and (slice_get s.harts h) _ may in and_some (slice_get s.harts h) WantsNoTrap w.0 w.1 (done_no_trap w.0 w.2.1.0)
outside_fits rows deltas s h (Fetch pc word) may = tt
outside_fits rows deltas s h (Look va width value) may = tt
outside_fits rows deltas s h (Take page) may = tt
outside_fits rows deltas s h (Miss va) may = tt
outside_fits rows deltas s h (Again page) may = tt
outside_fits rows deltas s h (Wait on) may = tt
outside_fits rows deltas s h Enter may = tt
outside_fits rows deltas s h Idle may = tt
outside_fits rows deltas s h (Sync generation page) may = absurd may
outside_fits rows deltas s h (Trap cause value) may = absurd may
outside_fits rows deltas s h (Exit code) may = absurd may
outside_fits rows deltas s h (Out byte) may = absurd may
outside_fits rows deltas s h (Map page n write patch) may = absurd may
outside_fits rows deltas s h (Going page n) may = absurd may
outside_fits rows deltas s h (Ending page) may = absurd may
outside_fits rows deltas s h (Gone page worn) may = absurd may
outside_fits rows deltas s h (Born generation parent patch) may = absurd may
outside_fits rows deltas s h (Move generation) may = absurd may
outside_fits rows deltas s h (Dead generation) may = absurd may
outside_fits rows deltas s h (Refused reason) may = absurd may

some_pages : (pages : List PageState) (n : ℕ) (page : PageState) → data_in pages n ≡ Some page → 0 < length pages
some_pages [] n page e = absurd cc
some_pages (p ∷ pages) n page e = omega arith

-- where a page is there, another frame may be worn
worn_room : (deltas : List DeltaValue) (s : FlatState) (n : ℕ) (page : PageState) → IsSoundState deltas s → data_in s.pages n ≡ Some page → s.worn < 65536
worn_room deltas s n page sound found =
    let some = some_pages s.pages n page found in
    let frames = sound.frames in
    let most = sound.limits.many_frames in
    omega arith

gone_fits : (deltas : List DeltaValue) (s : FlatState) (actor : Actor) (n : ℕ) (event : Event) (page : PageState) → IsSoundState deltas s → data_in s.pages n ≡ Some page → IsGone s n event → Suits deltas s actor event
gone_fits deltas s actor n event page sound found is = elim is [
  | inl e ↦ subst (Suits deltas s actor) (sym e) (worn_room deltas s n page sound found)
  | inr e ↦ subst (Suits deltas s actor) (sym e.0) (worn_room deltas s n page sound found)
]

leaving_fits : (deltas : List DeltaValue) (s : FlatState) (h n : ℕ) (event : Event) (o : Option PageState) → IsSoundState deltas s → data_in s.pages n ≡ o → IsLeaving s n o event → Suits deltas s (Hart h) event
leaving_fits deltas s h n event None sound found leaves = absurd leaves
leaving_fits deltas s h n event (Some page) sound found leaves = by_free _ leaves
  where
    by_free : (b : Bool) → MatchBool b (IsGone s n event) (event ≡ Ending n) → Suits deltas s (Hart h) event
    by_free true is = gone_fits deltas s (Hart h) n event page sound found is
    by_free false is = subst (Suits deltas s (Hart h)) (sym is) tt

-- so does what is left of a hart's call
work_fits : (deltas : List DeltaValue) (s : FlatState) (h : ℕ) (pages : List ℕ) (next : ℕ) (event : Event) → IsSoundState deltas s → CallsHart s h → IsNext s (map Leaves pages ++ Exactly (End next) ∷ []) event → Suits deltas s (Hart h) event
work_fits deltas s h [] next event sound calls is =
    let w = some_and (slice_get s.harts h) (λ hart. (hart.life ≡ Running) × (want_in hart ≡ Some want.Call)) calls in
    subst (Suits deltas s (Hart h)) (sym is) (and_some (slice_get s.harts h) WantsNoTrap w.0 w.1 (call_no_trap w.0 w.2.1))
work_fits deltas s h (n ∷ ns) next event sound calls leaves = leaving_fits deltas s h n event (data_in s.pages n) sound refl leaves

-- and what is left of a patch
patch_fits : (deltas : List DeltaValue) (s : FlatState) (patch : ℕ) (delta : DeltaValue) (runs : List PageRun) (parent : ℕ) (event : Event) → AllByRecursion IsDelta deltas → length deltas < 2 ^ 32 → IsSoundState deltas s → slice_get deltas patch ≡ Some delta
    → is_live s parent ≡ true → length s.gens < 1024 → AllByRecursion (λ run. run.first + run.count ≤ 67108864) runs → AllByRecursion (IsUnused s) (text_numbers delta.private ++ run_numbers runs)
    → used_of (generation_born deltas (runs_mapped s delta runs) parent (Some patch)) + s.worn ≤ s.limits.frames → IsNext s (map (map_of patch) runs ++ Exactly (Born (length s.gens) parent (Some patch)) ∷ []) event → Fits deltas s Kernel event
patch_fits deltas s patch delta [] parent event are few_deltas sound of_run live few low unused frames is enough =
    let kept = all_get IsDelta deltas patch delta are of_run in
    let below = slice_get_within deltas patch delta of_run in
    let fits = fits_live deltas s parent delta sound live kept (all_front (IsUnused s) (text_numbers delta.private) [] unused) in
    subst (Suits deltas s Kernel) (sym is) (record {
      there = (let w = live_gen s parent live in slice_get_within s.gens parent w.0 w.1);
      few = omega arith;
      few_patches = omega arith;
      fits = subst (λ (o : Option DeltaValue). IfSome o (IsSpliceable (generation_text s parent))) (sym of_run) fits;
    })
patch_fits deltas s patch delta (run ∷ runs) parent event are few_deltas sound of_run live few low unused frames is enough =
    let kept = all_get IsDelta deltas patch delta are of_run in
    let here = all_front (IsUnused s) (range_with_len run.first run.count) (run_numbers runs) (all_back (IsUnused s) (text_numbers delta.private) (range_with_len run.first run.count ++ run_numbers runs) unused) in
    let more = used_before deltas (mapped s run.first run.count run.write (Some delta)) delta runs parent (Some patch) in
    let enough_frames : used_of (mapped s run.first run.count run.write (Some delta)) + s.worn ≤ s.limits.frames = omega arith in
    subst (Suits deltas s Kernel) (sym is) (map_fits deltas s run.first run.count run.write (Some patch) sound (subst (λ (o : Option DeltaValue). IfSome o IsDelta) (sym of_run) kept) low.0 here
    (subst (λ (o : Option DeltaValue). used_of (mapped s run.first run.count run.write o) + s.worn ≤ s.limits.frames) (sym of_run) enough_frames) enough)

module _ (deltas : List DeltaValue) (s : FlatState) (are : AllByRecursion IsDelta deltas) (few_deltas : length deltas < 2 ^ 32) (sound : IsSoundState deltas s) where
  refused_fits : (event : Event) (o : Option Refusal) (work : List Todo) → (o ≡ None → IsNext s work event → Fits deltas s Kernel event) → IsNext s (refused_or o work) event → Fits deltas s Kernel event
  refused_fits event None work more is = more refl is
  refused_fits event (Some reason) work more is = λ enough. subst (Suits deltas s Kernel) (sym is) tt

  request_fits : (event : Event) (request : Request) → HasNoneGoing s → IsKernelRequest deltas request → IsNext s (done_about deltas s 0 request) event → Fits deltas s Kernel event
  request_fits event (Clones generation) none may is = by_refusal (refusal_of deltas s 0 (Clones generation)) refl is
    where
      by_refusal : (o : Option Refusal) → refusal_of deltas s 0 (Clones generation) ≡ o → IsNext s (refused_or o (work_of deltas s (Clones generation))) event → Fits deltas s Kernel event
      by_refusal None e is = λ enough. (let all = all_none (clone_refusals s generation) e in subst (Suits deltas s Kernel) (sym is) (clone_fits deltas s generation (view_live s generation all.0) (views_few s all.1.0)))
      by_refusal (Some reason) e is = λ enough. subst (Suits deltas s Kernel) (sym is) tt
  request_fits event (Deletes generation) none may is = refused_fits event (refusal_of deltas s 0 (Deletes generation)) (work_of deltas s (Deletes generation)) (λ e next enough. subst (Suits deltas s Kernel) (sym next) tt) is
  request_fits event (Patches patch) none may is = let w = delta_there deltas patch may in by_refusal w.0 w.1 (refusal_of deltas s 0 (Patches patch)) refl is
    where
      by_refusal : (delta : DeltaValue) → slice_get deltas patch ≡ Some delta → (o : Option Refusal) → refusal_of deltas s 0 (Patches patch) ≡ o → IsNext s (refused_or o (work_of deltas s (Patches patch))) event → Fits deltas s Kernel event
      by_refusal delta of_run None e is =
          let facts = patch_facts deltas s are sound none patch delta of_run e in
          patch_fits deltas s patch delta (runs_of delta.shared) (newest s) event are few_deltas sound of_run facts.live facts.few facts.low facts.unused facts.frames (subst (λ (d : DeltaValue). IsNext s (delta_work s patch d) event) facts.is_delta is)
      by_refusal delta of_run (Some reason) e is = λ enough. subst (Suits deltas s Kernel) (sym is) tt
  request_fits event (Exits code) none may is = absurd may
  request_fits event (PutsByte byte) none may is = absurd may
  request_fits event (Maps va pages right) none may is = absurd may
  request_fits event (Unmaps va pages) none may is = absurd may
  request_fits event TellsGeneration none may is = absurd may
  request_fits event (Migrates generation) none may is = absurd may
  request_fits event Quiesces none may is = absurd may
  request_fits event (NoCall number) none may is = absurd may

  begins_fit : (actor : Actor) (owed : List ℕ) (last : Option ℕ) (event : Event) → s.inside ≡ Some actor → IsInHand deltas s (Some actor) (Some (Settling owed last)) → Begins deltas s actor event → Fits deltas s actor event
  begins_fit (Hart h) owed last event inside in_hand begins =
      let w = some_and (slice_get s.harts h) (λ hart. (hart.life ≡ Running) × IsSettling s owed last) in_hand in
      begin_fits deltas s h w.0 w.1 w.2.0 sound inside w.2.1.none_going event begins
  begins_fit Kernel owed last event inside in_hand begins = request_fits event begins.request in_hand.none_going begins.may begins.next

  goes_fit : (actor : Actor) (call : Option Call) (event : Event) → s.inside ≡ Some actor → IsInHand deltas s (Some actor) call → GoesOn deltas s actor call event → Fits deltas s actor event
  goes_fit actor None event inside in_hand goes = absurd goes
  goes_fit (Hart h) (Some (Doing todo)) event inside in_hand goes =
      let w = calls_only s h (IsHartWork s todo) in_hand in
      λ enough. work_fits deltas s h w.1.pages w.1.next event sound w.0 (subst (λ (todo : List Todo). IsNext s todo event) w.1.is goes)
  goes_fit Kernel (Some (Doing todo)) event inside in_hand goes =
      patch_fits deltas s in_hand.patch in_hand.delta in_hand.runs in_hand.parent event are few_deltas sound in_hand.of_run in_hand.live in_hand.few in_hand.low in_hand.unused in_hand.frames (subst (λ (todo : List Todo). IsNext s todo event) in_hand.is goes)
  goes_fit actor (Some (Settling owed last)) event inside in_hand goes = elim goes [
    | inl settles ↦ (λ enough. (let w = some_and (data_in s.pages settles.page) _ settles.may in gone_fits deltas s actor settles.page event w.0 sound w.1 settles.is))
    | inr begins ↦ begins_fit actor owed last event inside in_hand begins.1
  ]

-- an actor that goes on is there
inside_there : (deltas : List DeltaValue) (s : FlatState) (actor : Actor) (call : Option Call) → IsInHand deltas s (Some actor) call → IsThere s actor
inside_there deltas s Kernel call in_hand = tt
inside_there deltas s (Hart h) None in_hand = absurd in_hand
inside_there deltas s (Hart h) (Some (Settling owed last)) in_hand = hart_there s h _ in_hand
inside_there deltas s (Hart h) (Some (Doing todo)) in_hand = hart_there s h _ in_hand

-- a hart that acts is there
acts_there : (s : FlatState) (h : ℕ) (event : Event) → MayAct s (Hart h) event → h < length s.harts
acts_there s h (Fetch pc word) may = hart_there s h _ may
acts_there s h (Look va width value) may = hart_there s h _ may
acts_there s h (Take page) may = hart_there s h _ may
acts_there s h (Put va width value) may = hart_there s h _ may
acts_there s h (Swap va width old new) may = hart_there s h _ may
acts_there s h (Miss va) may = hart_there s h _ may
acts_there s h (End pc) may = hart_there s h _ may
acts_there s h (Again page) may = hart_there s h _ may
acts_there s h (Wait on) may = hart_there s h _ may
acts_there s h Enter may = hart_there s h _ may
acts_there s h Idle may = hart_there s h _ may
acts_there s h (Sync generation page) may = absurd may
acts_there s h (Trap cause value) may = absurd may
acts_there s h (Exit code) may = absurd may
acts_there s h (Out byte) may = absurd may
acts_there s h (Map page n write patch) may = absurd may
acts_there s h (Going page n) may = absurd may
acts_there s h (Ending page) may = absurd may
acts_there s h (Gone page worn) may = absurd may
acts_there s h (Born generation parent patch) may = absurd may
acts_there s h (Move generation) may = absurd may
acts_there s h (Dead generation) may = absurd may
acts_there s h (Refused reason) may = absurd may

goes_made : (m : Moment) (actor : Actor) (event : Event) → IsSound m → m.flat.births + 65536 < 2 ^ 64 → is_inside m.flat.inside actor ≡ true → GoesOn m.deltas m.flat actor m.call event → CanBeMade m.deltas m.flat actor event
goes_made m actor event sound enough e goes =
    let inside : m.flat.inside ≡ Some actor = who_inside m.flat.inside actor e in
    let in_hand : IsInHand m.deltas m.flat (Some actor) m.call = subst (λ (o : Option Actor). IsInHand m.deltas m.flat o m.call) inside sound.call in
    record {
      ordered = sound.state.ordered;
      there = inside_there m.deltas m.flat actor m.call in_hand;
      suits = goes_fit m.deltas m.flat sound.deltas sound.few_deltas sound.state actor m.call event inside in_hand goes enough;
    }

hart_made : HaveRows → (m : Moment) (h : ℕ) (event : Event) (b : Bool) → is_inside m.flat.inside (Hart h) ≡ b → IsSound m → m.flat.births + 65536 < 2 ^ 64 → MatchBool b (GoesOn m.deltas m.flat (Hart h) m.call event) (MayAct m.flat (Hart h) event) → CanBeMade m.deltas m.flat (Hart h) event
hart_made rows m h event true e sound enough goes = goes_made m (Hart h) event sound enough e goes
hart_made rows m h event false e sound enough may = record { ordered = sound.state.ordered; there = acts_there m.flat h event may; suits = outside_fits rows m.deltas m.flat h event may }

kernel_made : (m : Moment) (event : Event) (b : Bool) → (MayAct m.flat Kernel event → Suits m.deltas m.flat Kernel event) → is_inside m.flat.inside Kernel ≡ b → IsSound m → m.flat.births + 65536 < 2 ^ 64 → MatchBool b (GoesOn m.deltas m.flat Kernel m.call event) (MayAct m.flat Kernel event)
    → CanBeMade m.deltas m.flat Kernel event
kernel_made m event true fits e sound enough goes = goes_made m Kernel event sound enough e goes
kernel_made m event false fits e sound enough may = record { ordered = sound.state.ordered; there = tt; suits = fits may }

-- what is allowed can be made
pub allowed_made : HaveRows → (m : Moment) (actor : Actor) (event : Event) → IsSound m → m.flat.births + 65536 < 2 ^ 64 → Allows m actor event → CanBeMade m.deltas m.flat actor event
allowed_made rows m (Hart h) event sound enough allowed = hart_made rows m h event (is_inside m.flat.inside (Hart h)) refl sound enough allowed
allowed_made rows m Kernel Idle sound enough allowed = record { ordered = sound.state.ordered; there = tt; suits = tt }
allowed_made rows m Kernel Enter sound enough allowed = kernel_made m Enter (is_inside m.flat.inside Kernel) (λ may. tt) refl sound enough allowed
allowed_made rows m Kernel (Wait on) sound enough allowed = kernel_made m (Wait on) (is_inside m.flat.inside Kernel) (λ may. tt) refl sound enough allowed
allowed_made rows m Kernel event sound enough allowed = kernel_made m event (is_inside m.flat.inside Kernel) (λ may. absurd may) refl sound enough allowed

low_text : (pages : List PageValue) → AllByRecursion (λ page. IsPage page.number page.words) pages → AllByRecursion (λ n. n < 67108864) (text_numbers pages)
low_text [] all = tt
low_text (page ∷ pages) all = (all.0.low, low_text pages all.1)

low_data : (pages : List DataPageValue) → AllByRecursion (λ page. IsPage page.number page.words) pages → AllByRecursion (λ n. n < 67108864) (data_numbers pages)
low_data [] all = tt
low_data (page ∷ pages) all = (all.0.low, low_data pages all.1)

delta_patch : (delta : DeltaValue) → IsDelta delta → IsPatch delta
delta_patch delta is =
    let private = length-rising 67108864 (text_numbers delta.private) is.private_rising (low_text delta.private is.private_pages) in
    let shared = length-rising 67108864 (data_numbers delta.shared) is.shared_rising (low_data delta.shared is.shared_pages) in
    let privates = length-map (λ (page : PageValue). page.number) delta.private in
    let shareds = length-map (λ (page : DataPageValue). page.number) delta.shared in
    record { distinct = is.distinct; few_private = omega arith; few_shared = omega arith }

-- and the state is within what verdicts ask for
pub sound_within : (m : Moment) → IsSound m → IsWithinLimits m.flat × AllByRecursion IsPatch m.deltas
sound_within m sound =
    let state = sound.state in
    let frames = state.frames in
    let most = state.limits.many_frames in
    let harts = state.few_harts in
    (record { ordered = state.ordered; frames = omega arith; generations = state.few_gens; harts = omega arith }, all_more IsDelta IsPatch delta_patch m.deltas sound.deltas)
