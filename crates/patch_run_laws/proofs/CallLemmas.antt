-- A generation that is born has its parent there, with the patches before the one that it is born with.
use Rattle.std.proofs.Common.{◌≡◌, ◌<◌, ◌≤◌, inl, inr, ℕ, zero, suc, List, [], ◌∷◌, ◌++◌, length, Option, Some, None, Bool, true, false, not, ◌&&◌, if◌then◌else◌, is_some, map, refl, sym, subst, ap, ◌∙◌, arith}
use Rattle.std.specs.Prelude.{IfSome, IsSomeAnd, MatchBool, nat_lt, slice_get, unwrap_or}
use Rattle.std.specs.List.{range_with_len}
use Rattle.std.specs.Option.{option_map}
use Rattle.std.proofs.lemmas.Bool.Decides.{nat_tests}
use Rattle.rv_inst.specs.Meanings.{next_pc}
use Rattle.wf_outside.specs.declared.refusal.Refusal.{Refusal}
use Rattle.wf_outside.specs.declared.refusal.Refusal.TheVariants.{Lacks}
use Rattle.wf_outside.specs.Images.{DeltaValue}
use Rattle.wf_flat.specs.declared.event.Actor.{Actor}
use Rattle.wf_flat.specs.declared.event.Actor.TheVariants.{Hart, Kernel}
use Rattle.wf_flat.specs.declared.event.Event.{Event}
use Rattle.wf_flat.specs.declared.event.Event.TheVariants.{Map, Enter, Idle, Ending, Gone, Born, Dead}
use Rattle.wf_flat.specs.State.{FlatState, GenState, HartState, PageState}
use Rattle.wf_flat.specs.Memory.{data_in, has_met}
use Rattle.wf_flat.specs.Accesses.{Access, accessed_data, accessed_text, has_right, is_free, is_here}
use Rattle.wf_flat.specs.Steps.{Ask, Called, Stopped, Faulted, MayAct, ask_of, is_inside}
use Rattle.wf_flat.proofs.ListLemmas.{and_some, some_and}
use Rattle.wf_effects.specs.Effects.{dead, newborn, reaching}
use Rattle.wf_effects.specs.Generations.{is_live, newest, patches_in}
use Rattle.wf_effects.specs.declared.ranges.PageRun.{PageRun}
use Rattle.wf_effects.specs.Ranges.{runs_of}
use Rattle.wf_verdict.specs.declared.requests.Request.{Request}
use Rattle.wf_verdict.specs.declared.requests.Request.TheVariants.{Exits, PutsByte, Maps, Unmaps, TellsGeneration, Migrates, Quiesces, Deletes, Clones, Patches, NoCall}
use Rattle.wf_verdict.specs.declared.work.Todo.{Todo}
use Rattle.wf_verdict.specs.declared.work.Todo.TheVariants.{Exactly, Leaves}
use Rattle.wf_verdict.specs.Requests.{requested_by}
use Rattle.wf_verdict.specs.Verdict.{clone_refusals, delta_at, lacks, pages_from, patch_refusals, refusal_of}
use Rattle.wf_verdict.specs.Work.{done_about, map_of, refused_or, work_of}
use Rattle.wf_legal.specs.Events.{flat_after}
use Rattle.wf_legal.specs.Calls.{Call, Doing, Settling, GoesOn, IsGone, IsNext, IsLeaving, call_behind, closes_call, ending_of, later, request_with, settled_with, todo_by, todo_of, todo_of_page, todo_with}
use Rattle.wf_legal.specs.Legal.{Moment, Allows, call_after}
use Rattle.wf_laws.proofs.GenLemmas.{changed_field, gens_after, gens_are, get_front, map_field}
use Rattle.wf_sound.proofs.GenerationLemmas.{live_gen}
use Rattle.wf_sound.proofs.RefusalLemmas.{all_none, view_live}

-- the parent is there, and has the patches before this one
abbrev pub HasParent : FlatState → ℕ → Option ℕ → Type 0
HasParent s parent patch = IsSomeAnd (slice_get s.gens parent) (λ gen. IfSome patch (λ k. k ≤ gen.patches))

abbrev pub Bears : FlatState → Event → Type 0
Bears s (Born generation parent patch) = HasParent s parent patch
Bears s event = Unit {0}

abbrev WorkBears : FlatState → List Todo → Type 0
WorkBears s [] = Unit {0}
WorkBears s (Exactly event ∷ todo) = Bears s event × WorkBears s todo
WorkBears s (Leaves page ∷ todo) = WorkBears s todo

abbrev pub CallBears : FlatState → Option Call → Type 0
CallBears s None = Unit {0}
CallBears s (Some (Settling owed last)) = Unit {0}
CallBears s (Some (Doing todo)) = WorkBears s todo

-- what is done about a request
bears_append : (s : FlatState) (one other : List Todo) → WorkBears s one → WorkBears s other → WorkBears s (one ++ other)
bears_append s [] other p q = q
bears_append s (Exactly event ∷ todo) other p q = (p.0, bears_append s todo other p.1 q)
bears_append s (Leaves page ∷ todo) other p q = bears_append s todo other p q

bears_patch : (s : FlatState) (patch : ℕ) (runs : List PageRun) (n parent : ℕ) (by : Option ℕ) → HasParent s parent by → WorkBears s (map (map_of patch) runs ++ Exactly (Born n parent by) ∷ [])
bears_patch s patch [] n parent by p = (p, tt)
bears_patch s patch (run ∷ runs) n parent by p = (tt, bears_patch s patch runs n parent by p)

bears_leaves : (s : FlatState) (pages : List ℕ) → WorkBears s (map Leaves pages)
bears_leaves s [] = tt
bears_leaves s (page ∷ pages) = bears_leaves s pages

bears_ending : (s : FlatState) (next : ℕ) (request : Request) → WorkBears s (ending_of next request)
bears_ending s next (Exits code) = tt
bears_ending s next (PutsByte byte) = (tt, tt)
bears_ending s next (Maps va pages right) = (tt, tt)
bears_ending s next (Unmaps va pages) = (tt, tt)
bears_ending s next TellsGeneration = (tt, tt)
bears_ending s next (Migrates generation) = (tt, tt)
bears_ending s next Quiesces = (tt, tt)
bears_ending s next (Deletes generation) = (tt, tt)
bears_ending s next (Clones generation) = (tt, tt)
bears_ending s next (Patches patch) = (tt, tt)
bears_ending s next (NoCall number) = (tt, tt)

clone_parent : (s : FlatState) (parent : ℕ) → is_live s parent ≡ true → HasParent s parent None
clone_parent s parent live = let w = live_gen s parent live in and_some (slice_get s.gens parent) (λ gen. Unit {0}) w.0 w.1 tt

patch_few : (have patch : ℕ) (o : Refusal) → (if nat_lt have patch then Some o else None) ≡ None → patch ≤ have
patch_few have patch o e = by_test (nat_lt have patch) refl e
  where
    by_test : (b : Bool) → nat_lt have patch ≡ b → (if b then Some o else None) ≡ None → patch ≤ have
    by_test true t e = absurd (cc)
    by_test false t e = grind (arith, nat_tests)

patch_parent : (s : FlatState) (parent patch : ℕ) → is_live s parent ≡ true → lacks s parent patch ≡ None → HasParent s parent (Some patch)
patch_parent s parent patch live none =
    let w = live_gen s parent live in
    let patches : patches_in s parent ≡ w.0.patches = ap (λ (o : Option GenState). unwrap_or (option_map (λ (gen : GenState). gen.patches) o) 0) w.1 in
    let few : patch ≤ patches_in s parent = patch_few (patches_in s parent) patch (Lacks (patches_in s parent)) none in
    and_some (slice_get s.gens parent) (λ gen. patch ≤ gen.patches) w.0 w.1 (subst (λ (n : ℕ). patch ≤ n) patches few)

bears_work : (deltas : List DeltaValue) (s : FlatState) (next : ℕ) (request : Request) → refusal_of deltas s next request ≡ None → WorkBears s (work_of deltas s request)
bears_work deltas s next (Exits code) e = (tt, tt)
bears_work deltas s next (PutsByte byte) e = (tt, tt)
bears_work deltas s next (Maps va pages right) e = (tt, tt)
bears_work deltas s next (Unmaps va pages) e = (tt, bears_leaves s (pages_from va pages))
bears_work deltas s next TellsGeneration e = tt
bears_work deltas s next (Migrates generation) e = (tt, tt)
bears_work deltas s next Quiesces e = (tt, tt)
bears_work deltas s next (Deletes generation) e = (tt, tt)
bears_work deltas s next (Clones generation) e = (clone_parent s generation (view_live s generation (all_none (clone_refusals s generation) e).0), tt)
bears_work deltas s next (Patches patch) e =
    let all = all_none (patch_refusals deltas s patch) e in
    bears_patch s patch (runs_of (delta_at deltas patch).shared) _ (newest s) (Some patch) (patch_parent s (newest s) patch (view_live s (newest s) all.0) all.1.0)
bears_work deltas s next (NoCall number) e = tt

bears_done : (deltas : List DeltaValue) (s : FlatState) (next : ℕ) (request : Request) → WorkBears s (done_about deltas s next request)
bears_done deltas s next request = by_refusal (refusal_of deltas s next request) refl
  where
    by_refusal : (o : Option Refusal) → refusal_of deltas s next request ≡ o → WorkBears s (refused_or o (work_of deltas s request))
    by_refusal None e = bears_work deltas s next request e
    by_refusal (Some reason) e = (tt, tt)

-- what is done about what an actor asks for
bears_choice : (s : FlatState) (b : Bool) (one other : List Todo) → WorkBears s one → WorkBears s other → WorkBears s (if b then one else other)
bears_choice s true one other p q = p
bears_choice s false one other p q = q

bears_page : (s : FlatState) (hart : HartState) (access : Access) (o : Option PageState) → WorkBears s (todo_of_page s hart access o)
bears_page s hart access None = (tt, tt)
bears_page s hart access (Some page) = bears_choice s (not (is_here page.stage && has_right access page)) _ _ (tt, tt) (bears_choice s (has_met s.met hart.generation page.number) _ _ (tt, tt) (tt, tt))

bears_asked : (deltas : List DeltaValue) (s : FlatState) (hart : HartState) (o : Option Ask) → WorkBears s (unwrap_or (option_map (λ ask. todo_of deltas s hart ask) o) [])
bears_asked deltas s hart None = tt
bears_asked deltas s hart (Some Called) =
    let next : ℕ = next_pc hart.arch.pc in
    bears_append s (done_about deltas s next (requested_by hart)) (ending_of next (requested_by hart)) (bears_done deltas s next (requested_by hart)) (bears_ending s next (requested_by hart))
bears_asked deltas s hart (Some (Stopped cause value)) = (tt, tt)
bears_asked deltas s hart (Some (Faulted access)) = bears_choice s (is_some (accessed_text s hart access)) _ _ (tt, tt) (bears_page s hart access (accessed_data s access))

bears_hart : (deltas : List DeltaValue) (s : FlatState) (h : ℕ) (o : Option HartState) → WorkBears s (unwrap_or (option_map (λ hart. todo_by deltas s h hart) o) [])
bears_hart deltas s h None = tt
bears_hart deltas s h (Some hart) = bears_asked deltas s hart (ask_of s h hart)

bears_request : (deltas : List DeltaValue) (s : FlatState) (o : Option Request) → WorkBears s (unwrap_or (option_map (λ request. done_about deltas s 0 request) o) [])
bears_request deltas s None = tt
bears_request deltas s (Some request) = bears_done deltas s 0 request

bears_with : (deltas : List DeltaValue) (s : FlatState) (actor : Actor) (e : Event) → WorkBears s (todo_with deltas s actor e)
bears_with deltas s (Hart h) e = bears_hart deltas s h (slice_get s.harts h)
bears_with deltas s Kernel e = bears_request deltas s (request_with e)

-- what is in hand behind an entry, in the state before it
bears_later : (s : FlatState) (todo : List Todo) → WorkBears s todo → WorkBears s (later todo)
bears_later s [] p = tt
bears_later s (Exactly event ∷ todo) p = p.1
bears_later s (Leaves page ∷ todo) p = p

settled_bears : (deltas : List DeltaValue) (s : FlatState) (actor : Actor) (owed : List ℕ) (e : Event) → CallBears s (Some (settled_with deltas s actor owed e))
settled_bears deltas s actor owed (Gone page worn) = tt
settled_bears deltas s actor owed e = bears_later s (todo_with deltas s actor e) (bears_with deltas s actor e)

behind_bears : (deltas : List DeltaValue) (s : FlatState) (actor : Actor) (call : Option Call) (e : Event) → CallBears s call → CallBears s (call_behind deltas s actor call e)
behind_bears deltas s actor None e p = tt
behind_bears deltas s actor (Some (Doing todo)) e p = bears_later s todo p
behind_bears deltas s actor (Some (Settling owed last)) e p = settled_bears deltas s actor owed e

side_bears : (s : FlatState) (inside closes : Bool) (call behind : Option Call) → CallBears s call → CallBears s behind → CallBears s (if inside then (if closes then None else behind) else call)
side_bears s true true call behind p q = tt
side_bears s true false call behind p q = q
side_bears s false closes call behind p q = p

still_bears : (m : Moment) (actor : Actor) (e : Event) → CallBears m.flat m.call → CallBears m.flat (call_after m actor e)
still_bears m (Hart h) Enter p = tt
still_bears m (Hart h) e p =
    side_bears m.flat (is_inside m.flat.inside (Hart h)) (closes_call (Hart h) e) m.call (call_behind m.deltas m.flat (Hart h) m.call e) p (behind_bears m.deltas m.flat (Hart h) m.call e p)
still_bears m Kernel Enter p = tt
still_bears m Kernel Idle p = p
still_bears m Kernel e p =
    side_bears m.flat (is_inside m.flat.inside Kernel) (closes_call Kernel e) m.call (call_behind m.deltas m.flat Kernel m.call e) p (behind_bears m.deltas m.flat Kernel m.call e p)

-- and in the state behind it, in which no generation has lost a patch
within : (gens : List GenState) (g : ℕ) (gen : GenState) → slice_get gens g ≡ Some gen → g < length gens
within [] g gen e = absurd (cc)
within (x ∷ gens) zero gen e = omega arith
within (x ∷ gens) (suc g) gen e = let below = within gens g gen e in omega arith

patches_by : (deltas : List DeltaValue) (s : FlatState) (e : Event) (g : ℕ) → g < length s.gens → option_map (λ (gen : GenState). gen.patches) (slice_get (gens_after deltas s e) g) ≡ option_map (λ (gen : GenState). gen.patches) (slice_get s.gens g)
patches_by deltas s (Map first n write patch) g below = map_field (λ (gen : GenState). gen.patches) (reaching (range_with_len first n)) (λ gen. refl) s.gens g
patches_by deltas s (Born generation parent patch) g below = ap (option_map (λ (gen : GenState). gen.patches)) (get_front s.gens (newborn deltas s parent patch ∷ []) g below)
patches_by deltas s (Dead generation) g below = changed_field (λ (gen : GenState). gen.patches) dead (λ gen. refl) s.gens generation g
patches_by deltas s e g below = refl

mapped_some : (o : Option GenState) (n : ℕ) (patch : Option ℕ) → option_map (λ (gen : GenState). gen.patches) o ≡ Some n → IfSome patch (λ k. k ≤ n) → IsSomeAnd o (λ gen. IfSome patch (λ k. k ≤ gen.patches))
mapped_some None n patch e p = absurd (cc)
mapped_some (Some gen) n patch e p = (let same : gen.patches ≡ n = cc in subst (λ (n : ℕ). IfSome patch (λ k. k ≤ n)) (sym same) p)

parent_stays : (deltas : List DeltaValue) (s : FlatState) (actor : Actor) (e : Event) (parent : ℕ) (patch : Option ℕ) → HasParent s parent patch → HasParent (flat_after deltas s actor e) parent patch
parent_stays deltas s actor e parent patch p =
    let w = some_and (slice_get s.gens parent) _ p in
    mapped_some (slice_get (flat_after deltas s actor e).gens parent) w.0.patches patch
    (ap (λ (gens : List GenState). option_map (λ (gen : GenState). gen.patches) (slice_get gens parent)) (gens_are deltas s actor e)
    ∙ patches_by deltas s e parent (within s.gens parent w.0 w.1) ∙ ap (option_map (λ (gen : GenState). gen.patches)) w.1) w.2

event_stays : (deltas : List DeltaValue) (s : FlatState) (actor : Actor) (e event : Event) → Bears s event → Bears (flat_after deltas s actor e) event
event_stays deltas s actor e (Born generation parent patch) p = parent_stays deltas s actor e parent patch p
event_stays deltas s actor e event p = p

work_stays : (deltas : List DeltaValue) (s : FlatState) (actor : Actor) (e : Event) (todo : List Todo) → WorkBears s todo → WorkBears (flat_after deltas s actor e) todo
work_stays deltas s actor e [] p = tt
work_stays deltas s actor e (Exactly event ∷ todo) p = (event_stays deltas s actor e event p.0, work_stays deltas s actor e todo p.1)
work_stays deltas s actor e (Leaves page ∷ todo) p = work_stays deltas s actor e todo p

call_stays : (deltas : List DeltaValue) (s : FlatState) (actor : Actor) (e : Event) (call : Option Call) → CallBears s call → CallBears (flat_after deltas s actor e) call
call_stays deltas s actor e None p = tt
call_stays deltas s actor e (Some (Settling owed last)) p = tt
call_stays deltas s actor e (Some (Doing todo)) p = work_stays deltas s actor e todo p

pub bears_after : (m : Moment) (actor : Actor) (e : Event) → CallBears m.flat m.call → CallBears (flat_after m.deltas m.flat actor e) (call_after m actor e)
bears_after m actor e p = call_stays m.deltas m.flat actor e (call_after m actor e) (still_bears m actor e p)

-- so a generation that is born has its parent there
gone_bears : (s : FlatState) (page : ℕ) (e : Event) → IsGone s page e → Bears s e
gone_bears s page e (inl is) = subst (Bears s) (sym is) tt
gone_bears s page e (inr is) = subst (Bears s) (sym is.0) tt

leaving_bears : (s : FlatState) (number : ℕ) (o : Option PageState) (e : Event) → IsLeaving s number o e → Bears s e
leaving_bears s number None e p = absurd p
leaving_bears s number (Some page) e p = by_free (is_free page) p
  where
    by_free : (b : Bool) → MatchBool b (IsGone s number e) (e ≡ Ending number) → Bears s e
    by_free true p = gone_bears s number e p
    by_free false p = subst (Bears s) (sym p) tt

next_bears : (s : FlatState) (todo : List Todo) (e : Event) → WorkBears s todo → IsNext s todo e → Bears s e
next_bears s [] e p next = absurd next
next_bears s (Exactly event ∷ todo) e p next = subst (Bears s) (sym next) p.0
next_bears s (Leaves page ∷ todo) e p next = leaving_bears s page (data_in s.pages page) e next

goes_bears : (deltas : List DeltaValue) (s : FlatState) (actor : Actor) (call : Option Call) (e : Event) → CallBears s call → GoesOn deltas s actor call e → Bears s e
goes_bears deltas s actor None e p a = absurd a
goes_bears deltas s actor (Some (Doing todo)) e p a = next_bears s todo e p a
goes_bears deltas s actor (Some (Settling owed last)) e p (inl settles) = gone_bears s settles.page e settles.is
goes_bears deltas s (Hart h) (Some (Settling owed last)) e p (inr asked) =
    let w = some_and (slice_get s.harts h) _ asked.1 in
    next_bears s (todo_by deltas s h w.0) e (bears_asked deltas s w.0 (ask_of s h w.0)) w.2
goes_bears deltas s Kernel (Some (Settling owed last)) e p (inr asked) = next_bears s (done_about deltas s 0 asked.1.request) e (bears_done deltas s 0 asked.1.request) asked.1.next

by_side : (b : Bool) (m : Moment) (actor : Actor) (e : Event) → (MayAct m.flat actor e → ⊥) → CallBears m.flat m.call → MatchBool b (GoesOn m.deltas m.flat actor m.call e) (MayAct m.flat actor e) → Bears m.flat e
by_side true m actor e never p a = goes_bears m.deltas m.flat actor m.call e p a
by_side false m actor e never p a = absurd (never a)

pub has_parent : (m : Moment) (actor : Actor) (generation parent : ℕ) (patch : Option ℕ) → CallBears m.flat m.call → Allows m actor (Born generation parent patch) → HasParent m.flat parent patch
has_parent m (Hart h) generation parent patch p a = by_side (is_inside m.flat.inside (Hart h)) m (Hart h) (Born generation parent patch) (λ never. never) p a
has_parent m Kernel generation parent patch p a = by_side (is_inside m.flat.inside Kernel) m Kernel (Born generation parent patch) (λ never. never) p a
