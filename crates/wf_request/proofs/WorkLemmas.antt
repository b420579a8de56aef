-- What the kernel's own actor does about a request: it is legal, can be made, and leaves the kernel.
use Rattle.std.proofs.Common.{◌≡◌, ◌<◌, ◌≤◌, ◌+◌, ◌^◌, ◌++◌, ℕ, List, [], ◌∷◌, Bool, true, false, Option, Some, None, length, map, refl, sym, subst, ap, ◌∙◌, inr, arith, length-append}
use Rattle.std.specs.Prelude.{IfSome, MatchBool, slice_get}
use Rattle.std.specs.List.{AllByRecursion, range_with_len}
use Rattle.std.proofs.lemmas.Option.{slice_get_within}
use Rattle.wf_outside.specs.declared.refusal.Refusal.{Refusal}
use Rattle.wf_outside.specs.Images.{DeltaValue, data_numbers, text_numbers}
use Rattle.wf_outside.specs.Lists.{IsRising}
use Rattle.wf_flat.specs.declared.event.Actor.{Actor}
use Rattle.wf_flat.specs.declared.event.Actor.TheVariants.{Kernel}
use Rattle.wf_flat.specs.declared.event.Event.{Event}
use Rattle.wf_flat.specs.declared.event.Event.TheVariants.{Born, Dead, Idle, Map, Refused}
use Rattle.wf_flat.specs.declared.event.Entry.{Entry}
use Rattle.wf_flat.specs.State.{FlatState, PageState}
use Rattle.wf_flat.specs.Accesses.{generation_text, is_ending}
use Rattle.wf_flat.specs.Changes.{without}
use Rattle.wf_flat.specs.Steps.{MayAct, is_inside}
use Rattle.wf_flat.proofs.SortLemmas.{length-sorted_by}
use Rattle.wf_effects.specs.declared.ranges.PageRun.{PageRun}
use Rattle.wf_effects.specs.Effects.{delta_of, mapped, mapped_pages}
use Rattle.wf_effects.specs.Generations.{is_live, newest}
use Rattle.wf_effects.specs.Ranges.{is_data, runs_of}
use Rattle.wf_effects.specs.Texts.{IsSpliceable}
use Rattle.wf_verdict.specs.declared.requests.Request.{Request}
use Rattle.wf_verdict.specs.declared.requests.Request.TheVariants.{Clones, Deletes, Patches}
use Rattle.wf_verdict.specs.declared.work.Todo.{Todo}
use Rattle.wf_verdict.specs.declared.work.Todo.TheVariants.{Exactly, Leaves}
use Rattle.wf_verdict.specs.Requests.{IsKernelRequest}
use Rattle.wf_verdict.specs.Verdict.{delta_at, refusal_of}
use Rattle.wf_verdict.specs.Work.{done_about, map_of, refused_or, work_of}
use Rattle.wf_verdict.proofs.FrameLemmas.{length-mapped_pages}
use Rattle.wf_legal.specs.Calls.{Call, Doing, GoesOn, IsNext, call_behind, closes_kernel_call, later}
use Rattle.wf_legal.specs.Events.{flat_after}
use Rattle.wf_legal.specs.Legal.{Allows, IsLegal, Moment, after, at_rest, call_after, end_of}
use Rattle.wf_sound.specs.Laws.{AllowedCanBeMade, EntriesKeepSound}
use Rattle.wf_sound.specs.Making.{CanBeMade, Suits}
use Rattle.wf_sound.specs.Sound.{IsDelta, IsInHand, IsKernelWork, IsSound, IsSoundState, IsUnused, run_numbers}
use Rattle.wf_sound.proofs.AllLemmas.{all_back, all_front, all_get, all_more}
use Rattle.wf_sound.proofs.GenerationLemmas.{live_gen}
use Rattle.wf_sound.proofs.TextLemmas.{fits_live}
use Rattle.wf_service.specs.Calling.{entered_at, moment_with}
use Rattle.wf_service.proofs.QuietLemmas.{IsFree, stays_mapped}
use Rattle.wf_request.specs.Requesting.{AreMappingButLast, CanAllBeDone, IsMapping, all_done, by_kernel, event_of}
use Rattle.wf_request.proofs.UndoLemmas.{maps_only}

-- what closes a call of the kernel's own actor, and what maps pages of the patch that is requested
abbrev pub Closes : Todo → Type 0
Closes (Exactly event) = closes_kernel_call event ≡ true
Closes (Leaves page) = ⊥

abbrev pub MapsFor : Request → Todo → Type 0
MapsFor request (Exactly (Map page n write (Some patch))) = request ≡ Patches patch
MapsFor request next = ⊥

-- the work of a request: all but the last maps, and the last closes the call
abbrev pub IsWorkFor : Request → List Todo → Type 0
IsWorkFor request [] = ⊥
IsWorkFor request (last ∷ []) = Closes last
IsWorkFor request (next ∷ other ∷ todo) = MapsFor request next × IsWorkFor request (other ∷ todo)

refused_work : (request : Request) (o : Option Refusal) (work : List Todo) → IsWorkFor request work → IsWorkFor request (refused_or o work)
refused_work request None work is = is
refused_work request (Some reason) work is = refl

runs_work : (patch g parent : ℕ) (runs : List PageRun) → IsWorkFor (Patches patch) (map (map_of patch) runs ++ Exactly (Born g parent (Some patch)) ∷ [])
runs_work patch g parent [] = refl
runs_work patch g parent (run ∷ []) = (refl, refl)
runs_work patch g parent (run ∷ next ∷ runs) = (refl, runs_work patch g parent (next ∷ runs))

pub request_work : (deltas : List DeltaValue) (s : FlatState) (request : Request) → IsKernelRequest deltas request → IsWorkFor request (done_about deltas s 0 request)
request_work deltas s (Clones generation) may = refused_work (Clones generation) (refusal_of deltas s 0 (Clones generation)) (work_of deltas s (Clones generation)) refl
request_work deltas s (Deletes generation) may = refused_work (Deletes generation) (refusal_of deltas s 0 (Deletes generation)) (work_of deltas s (Deletes generation)) refl
request_work deltas s (Patches patch) may =
    refused_work (Patches patch) (refusal_of deltas s 0 (Patches patch)) (work_of deltas s (Patches patch)) (runs_work patch (length s.gens) (newest s) (runs_of (delta_at deltas patch).shared))
request_work deltas s request may = absurd may

maps_some : (request : Request) (next : Todo) → MapsFor request next → (page : ℕ) × (n : ℕ) × (write : Bool) × (patch : ℕ) × (next ≡ Exactly (Map page n write (Some patch))) × (request ≡ Patches patch)
maps_some request (Exactly (Map page n write (Some patch))) is = (page, n, write, patch, refl, is)
maps_some request next is = absurd is

-- what is allowed inside
allowed_in : (m : Moment) (e : Event) → m.flat.inside ≡ Some Kernel → GoesOn m.deltas m.flat Kernel m.call e → Allows m Kernel e
allowed_in m Idle inside goes = tt
allowed_in m e inside goes = subst (λ (o : Option Actor). MatchBool (is_inside o Kernel) (GoesOn m.deltas m.flat Kernel m.call e) (MayAct m.flat Kernel e)) (sym inside) goes

is_there : (o : Option Actor) → o ≡ Some Kernel → is_inside o Kernel ≡ true
is_there o e = subst (λ (x : Option Actor). is_inside x Kernel ≡ true) (sym e) refl

-- one thing is done: it is allowed, can be made, and leads to where the rest is to do
record IsStep (m : Moment) (next : Todo) (rest : List Todo) : Type 0 where
  allowed : Allows m Kernel (event_of next)
  can : CanBeMade m.deltas m.flat Kernel (event_of next)
  leads : after m Kernel (event_of next) ≡ moment_with m.deltas (flat_after m.deltas m.flat Kernel (event_of next)) rest

-- all are done so
pub record AllGo (m : Moment) (todo : List Todo) : Type 0 where
  pub can : CanAllBeDone m.deltas m.flat todo
  pub legal : IsLegal m (map (λ next. by_kernel (event_of next)) todo)
  pub reached : end_of m (map (λ next. by_kernel (event_of next)) todo) ≡ at_rest m.deltas (all_done m.deltas m.flat todo)

none_go : (deltas : List DeltaValue) (s : FlatState) → AllGo (moment_with deltas s []) []
none_go deltas s = record { can = tt; legal = tt; reached = refl }

one_goes : (m : Moment) (next : Todo) (rest : List Todo) → IsStep m next rest → AllGo (moment_with m.deltas (flat_after m.deltas m.flat Kernel (event_of next)) rest) rest → AllGo m (next ∷ rest)
one_goes m next rest step more =
    let entries : List Entry = map (λ next. by_kernel (event_of next)) rest in
    record {
      can = (step.can, more.can);
      legal = (step.allowed, subst (λ (n : Moment). IsLegal n entries) (sym step.leads) more.legal);
      reached = ap (λ (n : Moment). end_of n entries) step.leads ∙ more.reached;
    }

-- an event that closes the call
close_call : (m : Moment) (e : Event) → closes_kernel_call e ≡ true → is_inside m.flat.inside Kernel ≡ true → call_after m Kernel e ≡ None
close_call m (Born generation parent patch) closes there = rw there refl
close_call m (Dead generation) closes there = rw there refl
close_call m (Refused reason) closes there = rw there refl
close_call m e closes there = absurd (cc)

closes_step : (m : Moment) (e : Event) → closes_kernel_call e ≡ true → m.flat.inside ≡ Some Kernel → Allows m Kernel e → CanBeMade m.deltas m.flat Kernel e → IsStep m (Exactly e) []
closes_step m e closes inside allowed can = record {
  allowed = allowed;
  can = can;
  leads = ap (λ (call : Option Call). (let n : Moment = record { deltas = m.deltas; flat = flat_after m.deltas m.flat Kernel e; call = call } in n)) (close_call m e closes (is_there m.flat.inside inside));
}

-- a Map, behind which more is to do
map_leads : (m : Moment) (page n patch : ℕ) (write : Bool) (x : Todo) (xs : List Todo) → m.flat.inside ≡ Some Kernel → call_behind m.deltas m.flat Kernel m.call (Map page n write (Some patch)) ≡ Some (Doing (x ∷ xs))
    → after m Kernel (Map page n write (Some patch)) ≡ moment_with m.deltas (flat_after m.deltas m.flat Kernel (Map page n write (Some patch))) (x ∷ xs)
map_leads m page n patch write x xs inside behind =
    let there = is_there m.flat.inside inside in
    let called : call_after m Kernel (Map page n write (Some patch)) ≡ Some (Doing (x ∷ xs)) = rw there behind in
    ap (λ (call : Option Call). (let t : Moment = record { deltas = m.deltas; flat = flat_after m.deltas m.flat Kernel (Map page n write (Some patch)); call = call } in t)) called

-- what is left of a patch suits the state, where births are left for the pages that it maps next
work_suits : (deltas : List DeltaValue) (s : FlatState) (patch : ℕ) (delta : DeltaValue) (runs : List PageRun) (parent : ℕ) (e : Event) → AllByRecursion IsDelta deltas → length deltas < 2 ^ 32 → IsSoundState deltas s → slice_get deltas patch ≡ Some delta → is_live s parent ≡ true
    → length s.gens < 1024 → AllByRecursion (λ run. run.first + run.count ≤ 67108864) runs → AllByRecursion (IsUnused s) (text_numbers delta.private ++ run_numbers runs) → ((page n : ℕ) (write : Bool) → e ≡ Map page n write (Some patch) → s.births + n < 2 ^ 64)
    → IsNext s (map (map_of patch) runs ++ Exactly (Born (length s.gens) parent (Some patch)) ∷ []) e → Suits deltas s Kernel e
work_suits deltas s patch delta [] parent e are few_deltas sound of_run live few low unused births is =
    let kept = all_get IsDelta deltas patch delta are of_run in
    let below = slice_get_within deltas patch delta of_run in
    let fits = fits_live deltas s parent delta sound live kept (all_front (IsUnused s) (text_numbers delta.private) [] unused) in
    subst (Suits deltas s Kernel) (sym is) (record {
      there = (let w = live_gen s parent live in slice_get_within s.gens parent w.0 w.1);
      few = omega arith;
      few_patches = omega arith;
      fits = subst (λ (o : Option DeltaValue). IfSome o (IsSpliceable (generation_text s parent))) (sym of_run) fits;
    })
work_suits deltas s patch delta (run ∷ runs) parent e are few_deltas sound of_run live few low unused births is =
    let kept = all_get IsDelta deltas patch delta are of_run in
    let here = all_front (IsUnused s) (range_with_len run.first run.count) (run_numbers runs) (all_back (IsUnused s) (text_numbers delta.private) (range_with_len run.first run.count ++ run_numbers runs) unused) in
    subst (Suits deltas s Kernel) (sym is) (record {
      low = low.0;
      few = births run.first run.count run.write is;
      free = all_more (IsUnused s) (λ m. is_data s m ≡ false) (λ m unused. unused.0) (range_with_len run.first run.count) here;
      rising = subst (λ (o : Option DeltaValue). IfSome o (λ delta. IsRising (data_numbers delta.shared))) (sym of_run) kept.shared_rising;
    })

-- in the middle of a patch: births rose by no more than pages
record IsMidway (deltas : List DeltaValue) (start : ℕ) (s : FlatState) (todo : List Todo) : Type 0 where
  sound : IsSound (moment_with deltas s todo)
  inside : s.inside ≡ Some Kernel
  few : s.births ≤ start + length s.pages

pages_few : (deltas : List DeltaValue) (s : FlatState) → IsSoundState deltas s → length s.pages ≤ 65536
pages_few deltas s sound = let frames = sound.frames in let most = sound.limits.many_frames in omega arith

mapped_few : (s : FlatState) (start page n : ℕ) (write : Bool) (delta : Option DeltaValue) → s.births ≤ start + length s.pages → (mapped s page n write delta).births ≤ start + length (mapped s page n write delta).pages
mapped_few s start page n write delta few =
    let new : List PageState = mapped_pages delta write page s.births n in
    let all = length-sorted_by (λ (page : PageState). page.number) (s.pages ++ new) in
    let both = length-append s.pages new in
    let more = length-mapped_pages delta write page s.births n in
    omega arith

work_of_midway : (deltas : List DeltaValue) (start : ℕ) (s : FlatState) (next : Todo) (rest : List Todo) → IsMidway deltas start s (next ∷ rest) → IsKernelWork deltas s (next ∷ rest)
work_of_midway deltas start s next rest mid = subst (λ (o : Option Actor). IsInHand deltas s o (Some (Doing (next ∷ rest)))) mid.inside mid.sound.call

can_midway : (deltas : List DeltaValue) (start : ℕ) (s : FlatState) (e : Event) (rest : List Todo) → IsMidway deltas start s (Exactly e ∷ rest) → ((page n : ℕ) (write : Bool) (patch : ℕ) → e ≡ Map page n write (Some patch) → s.births + n < 2 ^ 64) → CanBeMade deltas s Kernel e
can_midway deltas start s e rest mid births =
    let k = work_of_midway deltas start s (Exactly e) rest mid in
    let sound = mid.sound in
    record {
      ordered = sound.state.ordered;
      there = tt;
      suits = work_suits deltas s k.patch k.delta k.runs k.parent e sound.deltas sound.few_deltas sound.state k.of_run k.live k.few k.low k.unused (λ page n write is. births page n write k.patch is) (subst (λ (l : List Todo). IsNext s l e) k.is refl);
    }

no_map : (e : Event) → closes_kernel_call e ≡ true → (page n : ℕ) (write : Bool) (patch : ℕ) → e ≡ Map page n write (Some patch) → ⊥
no_map e closes page n write patch is = let k : false ≡ true = sym (ap closes_kernel_call is) ∙ closes in cc

module _ (keeps : EntriesKeepSound) (deltas : List DeltaValue) (start : ℕ) (enough : start + 65536 < 2 ^ 64) where
  -- behind a Map that was allowed
  midway_behind : (m : Moment) (page n patch : ℕ) (write : Bool) (x : Todo) (xs : List Todo) → m.deltas ≡ deltas → IsSound m → m.flat.inside ≡ Some Kernel → m.flat.births ≤ start + length m.flat.pages → Allows m Kernel (Map page n write (Some patch))
      → after m Kernel (Map page n write (Some patch)) ≡ moment_with m.deltas (flat_after m.deltas m.flat Kernel (Map page n write (Some patch))) (x ∷ xs) → IsMidway m.deltas start (flat_after m.deltas m.flat Kernel (Map page n write (Some patch))) (x ∷ xs)
  midway_behind m page n patch write x xs same sound inside few allowed leads = record {
    sound = subst IsSound leads (keeps m Kernel (Map page n write (Some patch)) sound allowed);
    inside = inside;
    few = mapped_few m.flat start page n write (delta_of m.deltas (Some patch)) few;
  }

  births_left : (s : FlatState) (page n patch : ℕ) (write : Bool) (x : Todo) (xs : List Todo) → IsMidway deltas start (flat_after deltas s Kernel (Map page n write (Some patch))) (x ∷ xs) → s.births + n < 2 ^ 64
  births_left s page n patch write x xs mid =
      let t : FlatState = flat_after deltas s Kernel (Map page n write (Some patch)) in
      let most = pages_few deltas t mid.sound.state in
      let few : s.births + n ≤ start + length t.pages = mid.few in
      omega arith

  -- so the rest of a patch is done
  rest_goes : (request : Request) (s : FlatState) (todo : List Todo) → IsWorkFor request todo → IsMidway deltas start s todo → AllGo (moment_with deltas s todo) todo
  rest_goes request s [] work mid = absurd work
  rest_goes request s (Leaves page ∷ []) work mid = absurd work
  rest_goes request s (Exactly e ∷ []) work mid =
      let m : Moment = moment_with deltas s (Exactly e ∷ []) in
      let can = can_midway deltas start s e [] mid (λ page n write patch is. absurd (no_map e work page n write patch is)) in
      one_goes m (Exactly e) [] (closes_step m e work mid.inside (allowed_in m e mid.inside refl) can) (none_go deltas (flat_after deltas s Kernel e))
  rest_goes request s (Exactly (Map page n write (Some patch)) ∷ x ∷ xs) work mid =
      let e : Event = Map page n write (Some patch) in
      let m : Moment = moment_with deltas s (Exactly e ∷ x ∷ xs) in
      let allowed = allowed_in m e mid.inside refl in
      let leads = map_leads m page n patch write x xs mid.inside refl in
      let behind = midway_behind m page n patch write x xs refl mid.sound mid.inside mid.few allowed leads in
      let left = births_left s page n patch write x xs behind in
      let can = can_midway deltas start s e (x ∷ xs) mid (λ p k w q is. (let same : n ≡ k = cc in omega arith)) in
      one_goes m (Exactly e) (x ∷ xs) (record { allowed = allowed; can = can; leads = leads }) (rest_goes request (flat_after deltas s Kernel e) (x ∷ xs) work.1 behind)
  rest_goes request s (next ∷ x ∷ xs) work mid = absurd work.0

-- a request is made by the kernel's own actor, who has entered
pub record HasAsked (deltas : List DeltaValue) (s : FlatState) (request : Request) : Type 0 where
  pub sound : IsSound (entered_at deltas s)
  pub inside : s.inside ≡ Some Kernel
  pub births : s.births + 65536 < 2 ^ 64
  pub may : IsKernelRequest deltas request

begins : (deltas : List DeltaValue) (s : FlatState) (request : Request) (e : Event) (rest : List Todo) → HasAsked deltas s request → Exactly e ∷ rest ≡ done_about deltas s 0 request → Allows (entered_at deltas s) Kernel e
begins deltas s request e rest asked is =
    allowed_in (entered_at deltas s) e asked.inside (inr (refl, record { request = request; may = asked.may; next = subst (λ (l : List Todo). IsNext s l e) is refl }))

-- so all that is done about it goes
asked_goes : (keeps : EntriesKeepSound) (can : AllowedCanBeMade) (deltas : List DeltaValue) (s : FlatState) (request : Request) (todo : List Todo) → todo ≡ done_about deltas s 0 request → IsWorkFor request todo → HasAsked deltas s request → AllGo (entered_at deltas s) todo
asked_goes keeps can deltas s request [] is work asked = absurd work
asked_goes keeps can deltas s request (Leaves page ∷ []) is work asked = absurd work
asked_goes keeps can deltas s request (Exactly e ∷ []) is work asked =
    let allowed = begins deltas s request e [] asked is in
    one_goes (entered_at deltas s) (Exactly e) [] (closes_step (entered_at deltas s) e work asked.inside allowed (can (entered_at deltas s) Kernel e asked.sound asked.births allowed)) (none_go deltas (flat_after deltas s Kernel e))
asked_goes keeps can deltas s request (Exactly (Map page n write (Some patch)) ∷ x ∷ xs) is work asked =
    let e : Event = Map page n write (Some patch) in
    let m : Moment = entered_at deltas s in
    let allowed = begins deltas s request e (x ∷ xs) asked is in
    let rest : later (done_about deltas s 0 (Patches patch)) ≡ x ∷ xs = ap (λ (r : Request). later (done_about deltas s 0 r)) (sym work.0) ∙ ap later (sym is) in
    let leads = map_leads m page n patch write x xs asked.inside (ap (λ (l : List Todo). Some (Doing l)) rest) in
    let behind = midway_behind keeps deltas s.births asked.births m page n patch write x xs refl asked.sound asked.inside (omega arith) allowed leads in
    one_goes m (Exactly e) (x ∷ xs) (record { allowed = allowed; can = can m Kernel e asked.sound asked.births allowed; leads = leads })
    (rest_goes keeps deltas s.births asked.births request (flat_after deltas s Kernel e) (x ∷ xs) work.1 behind)
asked_goes keeps can deltas s request (next ∷ x ∷ xs) is work asked = absurd work.0

pub request_goes : (keeps : EntriesKeepSound) (can : AllowedCanBeMade) (deltas : List DeltaValue) (s : FlatState) (request : Request) → HasAsked deltas s request → AllGo (entered_at deltas s) (done_about deltas s 0 request)
request_goes keeps can deltas s request asked = asked_goes keeps can deltas s request (done_about deltas s 0 request) refl (request_work deltas s request asked.may) asked

pub but_last : (request : Request) (todo : List Todo) → IsWorkFor request todo → AreMappingButLast todo
but_last request [] work = tt
but_last request (last ∷ []) work = tt
but_last request (next ∷ x ∷ xs) work = (mapping next work.0, but_last request (x ∷ xs) work.1)
  where
    mapping : (next : Todo) → MapsFor request next → IsMapping next
    mapping (Exactly (Map page n write (Some patch))) is = tt
    mapping next is = absurd is

-- behind the work nobody is inside, the harts are as they were, and no page leaves
pub record IsDoneWith (s t : FlatState) : Type 0 where
  pub inside : t.inside ≡ None
  pub harts : t.harts ≡ s.harts
  pub stays : AllByRecursion (λ page. is_ending page.stage ≡ false) t.pages

left : (o : Option Actor) → o ≡ Some Kernel → without o Kernel ≡ None
left o e = subst (λ (i : Option Actor). without i Kernel ≡ None) (sym e) refl

closed : (deltas : List DeltaValue) (s : FlatState) (e : Event) → closes_kernel_call e ≡ true → s.inside ≡ Some Kernel → AllByRecursion (λ page. is_ending page.stage ≡ false) s.pages → IsDoneWith s (flat_after deltas s Kernel e)
closed deltas s (Born generation parent patch) closes inside stays = record { inside = left s.inside inside; harts = refl; stays = stays }
closed deltas s (Dead generation) closes inside stays = record { inside = left s.inside inside; harts = refl; stays = stays }
closed deltas s (Refused reason) closes inside stays = record { inside = left s.inside inside; harts = refl; stays = stays }
closed deltas s e closes inside stays = absurd (cc)

pub done_with : (request : Request) (deltas : List DeltaValue) (s : FlatState) (todo : List Todo) → IsWorkFor request todo → s.inside ≡ Some Kernel → AllByRecursion IsFree s.harts → AllByRecursion (λ page. is_ending page.stage ≡ false) s.pages → IsDoneWith s (all_done deltas s todo)
done_with request deltas s [] work inside free stays = absurd work
done_with request deltas s (Leaves page ∷ []) work inside free stays = absurd work
done_with request deltas s (Exactly e ∷ []) work inside free stays = closed deltas s e work inside stays
done_with request deltas s (Exactly (Map page n write (Some patch)) ∷ x ∷ xs) work inside free stays =
    let t : FlatState = flat_after deltas s Kernel (Map page n write (Some patch)) in
    let harts : t.harts ≡ s.harts = ap (λ (f : FlatState). f.harts) (maps_only deltas s page n write (Some patch) free) in
    let more = done_with request deltas t (x ∷ xs) work.1 inside (subst (AllByRecursion IsFree) (sym harts) free) (stays_mapped s page n write (delta_of deltas (Some patch)) stays) in
    record { inside = more.inside; harts = more.harts ∙ harts; stays = more.stays }
done_with request deltas s (next ∷ x ∷ xs) work inside free stays = absurd work.0
