-- For which requests of the kernel's own actor a reason is.
use Rattle.std.proofs.Common.{◌≡◌, ◌↔◌, ◌⊎◌, ◌<◌, ◌≤◌, ◌++◌, ◌==◌, ◌&&◌, ℕ, Bool, true, false, List, [], ◌∷◌, Option, Some, None, IsTrue, refl, sym, ap, ◌∙◌, subst, map, length, inl, inr, get_or, arith, Result, Ok, Err, IfOk, unwrap_or}
use Rattle.std.specs.Prelude.{if◌then◌else◌, slice_get}
use Rattle.std.specs.Option.{option_map, option_or}
use Rattle.std.proofs.lemmas.Bool.{cases_lt, false≢true}
use Rattle.std.proofs.lemmas.Bool.Decides.{nat_tests}
use Rattle.std.proofs.lemmas.Option.{slice_get-get_or, slice_get_cases}
use Rattle.std.proofs.lemmas.List.Quantifiers.{position-Some}
use Rattle.wf_outside.specs.declared.refusal.Refusal.{Refusal}
use Rattle.wf_outside.specs.declared.refusal.Refusal.TheVariants.{NoView, NotEmpty}
use Rattle.wf_outside.specs.Images.{DeltaValue}
use Rattle.wf_flat.specs.declared.event.Event.TheVariants.{Born, Refused}
use Rattle.wf_flat.specs.declared.state.Life.TheVariants.{Running}
use Rattle.wf_flat.specs.State.{FlatState, GenState, HartState}
use Rattle.wf_effects.specs.declared.ranges.PageRun.{PageRun}
use Rattle.wf_effects.specs.Generations.{is_live, is_running, lowest_in, newest}
use Rattle.wf_effects.specs.Ranges.{runs_of}
use Rattle.wf_verdict.specs.declared.requests.Request.{Request}
use Rattle.wf_verdict.specs.declared.requests.Request.TheVariants.{Exits, PutsByte, Maps, Unmaps, TellsGeneration, Migrates, Quiesces, Deletes, Clones, Patches, NoCall}
use Rattle.wf_verdict.specs.declared.verdict.TheConstants.{MOST_GENERATIONS}
use Rattle.wf_verdict.specs.declared.work.Todo.{Todo}
use Rattle.wf_verdict.specs.declared.work.Todo.TheVariants.{Exactly}
use Rattle.wf_verdict.specs.Requests.{IsKernelRequest}
use Rattle.wf_verdict.specs.Verdict.{delta_at, no_frames, no_more_views, no_view, not_empty, refusal_of}
use Rattle.wf_verdict.specs.Work.{delta_work, done_about, map_of, refused_or, work_of}
use Rattle.wf_effects.specs.Effects.{generation_born}
use Rattle.wf_legal.specs.Calls.{BeginsRequest, IsNext}
use Rattle.wf_goes.specs.Refusing.{RefusesClone, RefusesDelete, RefusesPatch, to_delete}

same_some : {A : Type 0} (x y : A) → Some x ≡ Some y → x ≡ y
same_some x y e = cc

and_right : (a b : Bool) → (a && b) ≡ true → b ≡ true
and_right true b e = e
and_right false b e = absurd (false≢true e)

same_number : (m n : ℕ) → (m == n) ≡ true → m ≡ n
same_number m n e = grind (arith, nat_tests)

-- some hart
someone : HartState
someone = record { generation = 0; arch = record { pc = 0; x = [] }; fetched = None; looked = None; put = false; moved = []; reservation = None; life = Running }

abbrev runs_in : ℕ → HartState → Bool
runs_in generation hart = is_running hart.life && (hart.generation == generation)

-- the lowest hart that runs in a generation is in it
hart_in : (s : FlatState) (generation i : ℕ) → lowest_in s generation ≡ Some i → option_map (λ (hart : HartState). hart.generation) (slice_get s.harts i) ≡ Some generation
hart_in s generation i e =
    let found = position-Some (runs_in generation) s.harts i someone e in
    let hart : HartState = get_or s.harts i someone in
    ap (λ (o : Option HartState). option_map (λ (h : HartState). h.generation) o) (slice_get-get_or s.harts i someone found.0)
    ∙ ap Some (same_number hart.generation generation (and_right (is_running hart.life) (hart.generation == generation) found.1))

-- the generation of a delete that is refused
by_hart : (s : FlatState) (generation : ℕ) (reason : Refusal) (o : Option ℕ) → lowest_in s generation ≡ o → option_or (option_map NotEmpty o) None ≡ Some reason → to_delete s reason ≡ Some generation
by_hart s generation reason None is e = absurd (cc)
by_hart s generation reason (Some i) is e = subst (λ (r : Refusal). to_delete s r ≡ Some generation) (same_some (NotEmpty i) reason e) (hart_in s generation i is)

by_life : (s : FlatState) (generation : ℕ) (reason : Refusal) (b : Bool) → option_or (if b then None else Some (NoView generation)) (option_or (not_empty s generation) None) ≡ Some reason → to_delete s reason ≡ Some generation
by_life s generation reason true e = by_hart s generation reason (lowest_in s generation) refl e
by_life s generation reason false e = subst (λ (r : Refusal). to_delete s r ≡ Some generation) (same_some (NoView generation) reason e) refl

pub deleted : (deltas : List DeltaValue) (s : FlatState) (generation : ℕ) (reason : Refusal) → refusal_of deltas s 0 (Deletes generation) ≡ Some reason → to_delete s reason ≡ Some generation
deleted deltas s generation reason e = by_life s generation reason (is_live s generation) e

-- a result that is there, by another fact
pub ok_by : {A E : Type 0} (r : Result A E) (P Q : A → Type 0) → ((x : A) → P x → Q x) → IfOk r P → IfOk r Q
ok_by (Ok x) P Q f h = f x h
ok_by (Err e) P Q f h = tt

-- the delete of this generation alone may be refused for the reason
pub deletes_one : (deltas : List DeltaValue) (s : FlatState) (reason : Refusal) (generation : ℕ) (b : Bool) → generation < MOST_GENERATIONS → Some generation ≡ to_delete s reason → IsTrue b ↔ (refusal_of deltas s 0 (Deletes generation) ≡ Some reason) → IsTrue b ↔ RefusesDelete deltas s reason
deletes_one deltas s reason generation b few is d = (
  λ t. record { generation = generation; few = few; is = d.0 t },
  λ r. d.1 (subst (λ (g : ℕ). refusal_of deltas s 0 (Deletes g) ≡ Some reason) (same_some r.generation generation (sym (deleted deltas s r.generation reason r.is) ∙ sym is)) r.is),
)

pub deletes_none : (deltas : List DeltaValue) (s : FlatState) (reason : Refusal) (generation : ℕ) → MOST_GENERATIONS ≤ generation → Some generation ≡ to_delete s reason → RefusesDelete deltas s reason → ⊥
deletes_none deltas s reason generation many is r =
    let same : r.generation ≡ generation = same_some r.generation generation (sym (deleted deltas s r.generation reason r.is) ∙ sym is) in
    let few : r.generation < MOST_GENERATIONS = r.few in
    omega arith

-- what is done about a request that is refused
refused_next : (deltas : List DeltaValue) (s : FlatState) (request : Request) (reason : Refusal) → refusal_of deltas s 0 request ≡ Some reason → IsNext s (done_about deltas s 0 request) (Refused reason)
refused_next deltas s request reason e = subst (λ (o : Option Refusal). IsNext s (refused_or o (work_of deltas s request)) (Refused reason)) (sym e) refl

pub begins_delete : (deltas : List DeltaValue) (s : FlatState) (reason : Refusal) → RefusesDelete deltas s reason → BeginsRequest deltas s (Refused reason)
begins_delete deltas s reason r = record { request = Deletes r.generation; may = r.few; next = refused_next deltas s (Deletes r.generation) reason r.is }

pub begins_patch : (deltas : List DeltaValue) (s : FlatState) (reason : Refusal) → RefusesPatch deltas s reason → BeginsRequest deltas s (Refused reason)
begins_patch deltas s reason r = record { request = Patches r.patch; may = r.there; next = refused_next deltas s (Patches r.patch) reason r.is }

begins_clone : (deltas : List DeltaValue) (s : FlatState) (reason : Refusal) → length s.gens ≤ MOST_GENERATIONS → RefusesClone deltas s reason → BeginsRequest deltas s (Refused reason)
begins_clone deltas s reason few r = record { request = Clones r.generation; may = omega (arith, few, r.born); next = refused_next deltas s (Clones r.generation) reason r.is }

-- work that begins with no refusal
abbrev IsWork : FlatState → List Todo → Type 0
IsWork s work = (reason : Refusal) → IsNext s work (Refused reason) → ⊥

refused_by : (s : FlatState) (refusal : Option Refusal) (work : List Todo) (reason : Refusal) → IsWork s work → IsNext s (refused_or refusal work) (Refused reason) → refusal ≡ Some reason
refused_by s None work reason works next = absurd (works reason next)
refused_by s (Some other) work reason works next = ap Some (sym (same_reason reason other next))
  where
    same_reason : (a b : Refusal) → Refused a ≡ Refused b → a ≡ b
    same_reason a b e = cc

patch_works : (s : FlatState) (patch : ℕ) (runs : List PageRun) → IsWork s (map (map_of patch) runs ++ Exactly (Born (length s.gens) (newest s) (Some patch)) ∷ [])
patch_works s patch [] reason next = cc
patch_works s patch (run ∷ runs) reason next = cc

-- a clone of a generation that was not born is refused as its delete
unborn : (deltas : List DeltaValue) (s : FlatState) (generation : ℕ) (reason : Refusal) → is_live s generation ≡ false → refusal_of deltas s 0 (Clones generation) ≡ Some reason → refusal_of deltas s 0 (Deletes generation) ≡ Some reason
unborn deltas s generation reason dead e =
    by_dead false (option_or (no_more_views s) (option_or (no_frames s (generation_born [] s generation None)) None)) (option_or (not_empty s generation) None) refl dead e
  where
    by_dead : (b : Bool) (more others : Option Refusal) → b ≡ false → is_live s generation ≡ b → option_or (no_view s generation) more ≡ Some reason → option_or (no_view s generation) others ≡ Some reason
    by_dead true more others f is e = absurd (false≢true (sym f))
    by_dead false more others f is e =
        let view : no_view s generation ≡ Some (NoView generation) = ap (λ (b : Bool). if b then None else Some (NoView generation)) is in
        ap (λ (o : Option Refusal). option_or o others) view ∙ sym (ap (λ (o : Option Refusal). option_or o more) view) ∙ e

not_born : (s : FlatState) (generation : ℕ) → length s.gens ≤ generation → is_live s generation ≡ false
not_born s generation past = ap (λ (o : Option GenState). unwrap_or (option_map (λ (gen : GenState). gen.live) o) false) (none_past s.gens generation past)
  where
    none_past : (gens : List GenState) (i : ℕ) → length gens ≤ i → slice_get gens i ≡ None
    none_past gens i past = elim (slice_get_cases gens i).1 [
      | inl w ↦ absurd (omega (arith, past, w.1))
      | inr w ↦ w.1
    ]

-- a request that is refused is a delete, a clone of a generation that was born, or a patch
refused_one : (deltas : List DeltaValue) (s : FlatState) (reason : Refusal) (request : Request) → IsKernelRequest deltas request → IsNext s (done_about deltas s 0 request) (Refused reason) → RefusesDelete deltas s reason ⊎ (RefusesPatch deltas s reason ⊎ RefusesClone deltas s reason)
refused_one deltas s reason (Clones generation) may next =
    let is = refused_by s (refusal_of deltas s 0 (Clones generation)) (work_of deltas s (Clones generation)) reason (λ r e. cc) next in
    elim (cases_lt generation (length s.gens)) [
      | inl born ↦ inr (inr (record { generation = generation; born = born; is = is }))
      | inr past ↦ inl (record { generation = generation; few = may; is = unborn deltas s generation reason (not_born s generation past) is })
    ]
refused_one deltas s reason (Deletes generation) may next =
    inl (record { generation = generation; few = may; is = refused_by s (refusal_of deltas s 0 (Deletes generation)) (work_of deltas s (Deletes generation)) reason (λ r e. cc) next })
refused_one deltas s reason (Patches patch) may next =
    inr (inl (record { patch = patch; there = may; is = refused_by s (refusal_of deltas s 0 (Patches patch)) (delta_work s patch (delta_at deltas patch)) reason (patch_works s patch (runs_of (delta_at deltas patch).shared)) next }))
refused_one deltas s reason (Exits code) may next = absurd may
refused_one deltas s reason (PutsByte byte) may next = absurd may
refused_one deltas s reason (Maps va pages right) may next = absurd may
refused_one deltas s reason (Unmaps va pages) may next = absurd may
refused_one deltas s reason TellsGeneration may next = absurd may
refused_one deltas s reason (Migrates generation) may next = absurd may
refused_one deltas s reason Quiesces may next = absurd may
refused_one deltas s reason (NoCall number) may next = absurd may

-- where neither a delete nor a patch is refused for the reason, a clone decides
pub clone_decides : (deltas : List DeltaValue) (s : FlatState) (reason : Refusal) (b : Bool) → length s.gens ≤ MOST_GENERATIONS → (RefusesDelete deltas s reason → ⊥) → (RefusesPatch deltas s reason → ⊥) → IsTrue b ↔ RefusesClone deltas s reason → IsTrue b ↔ BeginsRequest deltas s (Refused reason)
clone_decides deltas s reason b few delete patch d = (
  λ t. begins_clone deltas s reason few (d.0 t),
  λ begins. elim (refused_one deltas s reason begins.request begins.may begins.next) [
    | inl r ↦ absurd (delete r)
    | inr rest ↦ d.1 (elim rest [ inl r ↦ absurd (patch r) | inr r ↦ r ])
  ],
)
