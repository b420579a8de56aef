-- An entry of a unit of a hart: it gives no try up, it is determined, and behind it the unit ended, or
-- goes on.
use Rattle.std.proofs.Common.{◌≡◌, ◌⊎◌, ℕ, List, [], ◌∷◌, Option, Some, None, Bool, true, false, refl, sym, subst, ap, ◌∙◌, inl, inr}
use Rattle.std.specs.Prelude.{MatchBool, slice_get, ◌||◌, unwrap_or}
use Rattle.std.specs.Option.{option_map}
use Rattle.std.specs.List.{AllByRecursion}
use Rattle.std.proofs.lemmas.Bool.{and_parts}
use Rattle.wf_outside.specs.Images.{DeltaValue}
use Rattle.wf_flat.specs.declared.event.Actor.{Actor}
use Rattle.wf_flat.specs.declared.event.Actor.TheVariants.{Hart}
use Rattle.wf_flat.specs.declared.event.Event.{Event}
use Rattle.wf_flat.specs.declared.event.Event.TheVariants.{Fetch, Look, Take, Put, Swap, Miss, End, Again, Wait, Enter, Sync, Trap, Exit, Out, Idle, Map, Going, Gone, Born, Move, Dead, Refused}
use Rattle.wf_flat.specs.declared.event.WaitFor.{WaitFor}
use Rattle.wf_flat.specs.declared.event.WaitFor.TheVariants as waits
use Rattle.wf_flat.specs.declared.event.Entry.{Entry}
use Rattle.wf_flat.specs.State.{FlatState, HartState, PageState}
use Rattle.wf_flat.specs.Memory.{data_in}
use Rattle.wf_flat.specs.Accesses.{Access, has_moved, holder_is, in_reach, is_held_by_other}
use Rattle.wf_flat.specs.Steps.{MayAct, MayTryAgain, MayWait, MayWaitForPage, OfHart, access_in, is_inside, is_kept_from, is_page_going}
use Rattle.wf_flat.specs.Follows.{ends_unit}
use Rattle.wf_verdict.specs.declared.work.Todo.{Todo}
use Rattle.wf_verdict.specs.declared.work.Todo.TheVariants.{Exactly, Leaves}
use Rattle.wf_legal.specs.Events.{flat_after}
use Rattle.wf_legal.specs.Calls.{Call, Doing, GoesOn, IsNext, Settling, call_behind, later, settled_with, todo_by, todo_with}
use Rattle.wf_legal.specs.Legal.{Moment, Allows, after}
use Rattle.wf_next.specs.Determined.{HartsAreDetermined, IsOwn, IsUndisturbed, LeavesAreGoing}
use Rattle.wf_flat.proofs.ListLemmas.{some_and, and_some}
use Rattle.wf_legal.proofs.JournalLemmas.{self_inside}
use Rattle.wf_next.proofs.ActLemmas.{at_some}
use Rattle.wf_next.proofs.QuietLemmas.{found_all}
use Rattle.wf_follow.specs.Requests.{is_gone}
use Rattle.wf_follow.specs.Laws.{GivesUp}
use Rattle.wf_follow.proofs.BirthLemmas.{IsFew}
use Rattle.wf_follow.proofs.HartLemmas.{all_but, all_get}
use Rattle.wf_follow.proofs.PageLemmas.{free_kept, kept_own, none_settles}
use Rattle.wf_follow.proofs.ServedLemmas.{IsBehindCall, IsServed, enters, leaves_gone, served_more, serves}
use Rattle.wf_follow.proofs.StayLemmas.{staying_free}
use Rattle.wf_follow.proofs.UnitLemmas.{IsMoving, IsRest, IsStill, IsTrying, ends, fetches, idles, looks, misses, puts, swaps, takes}
use Rattle.wf_follow.proofs.WorkLemmas.{FitsBefore, IsHartStart, IsHartWork, fits_event, is_hart_event, later_work, next_same, start_work, todo_start}

-- between two units
abbrev pub AtRest : Moment → Type 0
AtRest m = IsRest m.flat × (m.call ≡ None)

-- a hart is inside, with this call
abbrev pub IsInside : ℕ → FlatState → Option Call → Type 0
IsInside h s None = ⊥
IsInside h s (Some (Settling owed last)) = IsServed h [] s
IsInside h s (Some (Doing todo)) = IsServed h todo s × IsHartWork todo

-- within a unit of a hart: outside, or in a call of the hart
abbrev pub InUnit : ℕ → Moment → Type 0
InUnit h m = (IsMoving h m.flat × (m.call ≡ None)) ⊎ IsInside h m.flat m.call

-- an event that gives no try up
abbrev pub IsWhole : Event → Type 0
IsWhole event = GivesUp event → ⊥

-- an entry of the unit: behind it the unit ended, or goes on
abbrev pub IsAlong : ℕ → Event → Moment → Type 0
IsAlong h e m = MatchBool (ends_unit e) (AtRest m) (InUnit h m)

own : (h : ℕ) (s : FlatState) → IsMoving h s → AllByRecursion (IsOwn h) s.pages
own h s k = kept_own h k.held s.pages k.pages

-- outside, no try is given up
going_here : (h : ℕ) (pages : List PageState) (number : ℕ) (o : Option PageState) → data_in pages number ≡ o → AllByRecursion (IsOwn h) pages → is_page_going o ≡ false
going_here h pages number None e all = refl
going_here h pages number (Some page) e all = let here = (found_all (IsOwn h) pages number page all e).0 in rw here refl

no_again : (h : ℕ) (s : FlatState) (hart : HartState) (page : ℕ) (o : Option Access) → hart.moved ≡ [] → AllByRecursion (IsOwn h) s.pages → MayTryAgain s h hart o page → ⊥
no_again h s hart page None moved all p = p
no_again h s hart page (Some access) moved all p =
    let still : has_moved hart page ≡ false = rw moved refl in
    let here = going_here h s.pages page (data_in s.pages page) refl all in
    let neither : (has_moved hart page || is_page_going (data_in s.pages page)) ≡ false = rw (still, here) refl in
    let either = p.3 in
    cc

self_holds : (h : ℕ) → holder_is (Some h) h ≡ true
self_holds h = self_inside h

own_held : (h : ℕ) (page : PageState) → IsOwn h page → is_held_by_other h page ≡ false
own_held h page (here, inl none) = rw none refl
own_held h page (here, inr own) = let e : holder_is (Some h) h ≡ true = self_holds h in rw (own, e) refl

kept_from : (h : ℕ) (s : FlatState) (hart : HartState) (number : ℕ) (o : Option PageState) → data_in s.pages number ≡ o → AllByRecursion (IsOwn h) s.pages → is_kept_from s h hart o ≡ true → ⊥
kept_from h s hart number None e all p = cc
kept_from h s hart number (Some page) e all p =
    let not_so = own_held h page (found_all (IsOwn h) s.pages number page all e) in
    let is = (and_parts (in_reach s hart page) (is_held_by_other h page) p).1 in
    cc

no_page_wait : (h : ℕ) (s : FlatState) (hart : HartState) (page : ℕ) (o : Option Access) → AllByRecursion (IsOwn h) s.pages → MayWaitForPage s h hart o page → ⊥
no_page_wait h s hart page None all p = p
no_page_wait h s hart page (Some access) all p = kept_from h s hart page (data_in s.pages page) refl all p.2

no_wait : (h : ℕ) (s : FlatState) (hart : HartState) (on : WaitFor) → s.inside ≡ None → AllByRecursion (IsOwn h) s.pages → MayWait s h hart on → ⊥
no_wait h s hart (waits.Page page) outside all p = no_page_wait h s hart page (access_in hart) all p
no_wait h s hart (waits.Kernel other) outside all p = let inside = p.0.0 in cc

whole_outside : (h : ℕ) (s : FlatState) (e : Event) → IsMoving h s → MayAct s (Hart h) e → IsWhole e
whole_outside h s (Again page) k may gives =
    let w = some_and (slice_get s.harts h) (IsTrying k.held) k.harts.1 in
    no_again h s w.0 page (access_in w.0) w.2.still (own h s k) (at_some (slice_get s.harts h) _ w.0 w.1 may).1
whole_outside h s (Wait on) k may gives =
    let w = some_and (slice_get s.harts h) (IsTrying k.held) k.harts.1 in
    no_wait h s w.0 on k.outside (own h s k) (at_some (slice_get s.harts h) _ w.0 w.1 may).1
whole_outside h s e k may gives = gives

-- who is inside
not_inside : (h : ℕ) (o : Option Actor) → o ≡ None → is_inside o (Hart h) ≡ false
not_inside h o e = rw e refl

is_there : (h : ℕ) (o : Option Actor) → o ≡ Some (Hart h) → is_inside o (Hart h) ≡ true
is_there h o e = subst (λ (x : Option Actor). is_inside x (Hart h) ≡ true) (sym e) (self_inside h)

-- outside, with no call open
may_act : (h : ℕ) (m : Moment) (e : Event) → IsMoving h m.flat → Allows m (Hart h) e → MayAct m.flat (Hart h) e
may_act h m e k allowed = subst (λ (b : Bool). MatchBool b (GoesOn m.deltas m.flat (Hart h) m.call e) (MayAct m.flat (Hart h) e)) (not_inside h m.flat.inside k.outside) allowed

outside : (h : ℕ) (m : Moment) (e : Event) → IsMoving h m.flat → m.call ≡ None → MayAct m.flat (Hart h) e → IsAlong h e (after m (Hart h) e)
outside h m (Fetch pc word) k none may = let out = not_inside h m.flat.inside k.outside in inl (fetches h pc word m.flat k may, rw out none)
outside h m (Look va width value) k none may = let out = not_inside h m.flat.inside k.outside in inl (looks h va width value m.flat k, rw out none)
outside h m (Take page) k none may = let out = not_inside h m.flat.inside k.outside in inl (takes h page m.flat k may, rw out none)
outside h m (Put va width value) k none may = let out = not_inside h m.flat.inside k.outside in inl (puts h va width value m.flat k, rw out none)
outside h m (Swap va width old new) k none may = let out = not_inside h m.flat.inside k.outside in inl (swaps h va width old new m.flat k, rw out none)
outside h m (Miss va) k none may = let out = not_inside h m.flat.inside k.outside in inl (misses h m.flat k, rw out none)
outside h m (End pc) k none may = let out = not_inside h m.flat.inside k.outside in (ends h m.flat k, rw out none)
outside h m (Again page) k none may = absurd (whole_outside h m.flat (Again page) k may tt)
outside h m (Wait on) k none may = absurd (whole_outside h m.flat (Wait on) k may tt)
outside h m Enter k none may = inr (enters h m.flat k may)
outside h m Idle k none may = let out = not_inside h m.flat.inside k.outside in (idles h m.flat k may, rw out none)
outside h m e k none may = absurd may

-- inside, an event of the call, behind which this is to be done
abbrev GoesAlong : ℕ → Moment → Event → List Todo → Type 0
GoesAlong h m e todo =
    IsBehindCall h e todo (flat_after m.deltas m.flat (Hart h) e) × IsHartWork todo × (is_hart_event e ≡ true) × (call_behind m.deltas m.flat (Hart h) m.call e ≡ Some (Doing todo))

goes_on : (h : ℕ) (todo : List Todo) (s : FlatState) (call : Option Call) → call ≡ Some (Doing todo) → IsServed h todo s → IsHartWork todo → IsInside h s call
goes_on h todo s call is k work = subst (IsInside h s) (sym is) (k, work)

inside : (h : ℕ) (m : Moment) (e : Event) (todo : List Todo) → is_inside m.flat.inside (Hart h) ≡ true → GoesAlong h m e todo → IsAlong h e (after m (Hart h) e)
inside h m (End pc) todo there p = (p.0, rw there refl)
inside h m (Sync generation page) todo there p = inl (p.0, rw there refl)
inside h m (Trap cause value) todo there p = (p.0, rw there refl)
inside h m (Exit code) todo there p = (p.0, rw there refl)
inside h m (Out byte) todo there p = inr (goes_on h todo _ _ (rw there p.3) p.0 p.1)
inside h m (Map page n write patch) todo there p = inr (goes_on h todo _ _ (rw there p.3) p.0 p.1)
inside h m (Going page n) todo there p = inr (goes_on h todo _ _ (rw there p.3) p.0 p.1)
inside h m (Gone page worn) todo there p = inr (goes_on h todo _ _ (rw there p.3) p.0 p.1)
inside h m (Born generation parent patch) todo there p = inr (goes_on h todo _ _ (rw there p.3) p.0 p.1)
inside h m (Move generation) todo there p = inr (goes_on h todo _ _ (rw there p.3) p.0 p.1)
inside h m (Dead generation) todo there p = inr (goes_on h todo _ _ (rw there p.3) p.0 p.1)
inside h m (Refused reason) todo there p = inr (goes_on h todo _ _ (rw there p.3) p.0 p.1)
inside h m e todo there p = absurd (let is = p.2 in cc)

-- what the call has to do that begins or goes on with an event
start_event : (s : FlatState) (todo : List Todo) (e : Event) → IsHartStart todo → IsNext s todo e → FitsBefore e (later todo)
start_event s [] e start next = absurd next
start_event s (Exactly first ∷ todo) e start next = subst (λ (x : Event). FitsBefore x todo) (sym next) start.0
start_event s (Leaves page ∷ todo) e start next = absurd start

fits_stays : (e : Event) (todo : List Todo) → FitsBefore e todo → is_gone e ≡ false
fits_stays (Gone page worn) todo fits = absurd fits
fits_stays e todo fits = refl

settled_is : (deltas : List DeltaValue) (s : FlatState) (h : ℕ) (owed : List ℕ) (e : Event) → is_gone e ≡ false → settled_with deltas s (Hart h) owed e ≡ Doing (later (todo_with deltas s (Hart h) e))
settled_is deltas s h owed (Gone page worn) stays = absurd (cc)
settled_is deltas s h owed e stays = refl

-- an event of what is to be done is one of a hart's call
hart_next : (h : ℕ) (s : FlatState) (todo : List Todo) (e : Event) → IsHartWork todo → IsServed h todo s → IsNext s todo e → is_hart_event e ≡ true
hart_next h s [] e work k next = absurd next
hart_next h s (Exactly first ∷ todo) e work k next = ap is_hart_event next ∙ fits_event first todo work.0
hart_next h s (Leaves page ∷ todo) e work k next = elim (leaves_gone h (Leaves page ∷ todo) s page (data_in s.pages page) e refl k next) [
  | inl is ↦ ap is_hart_event is
  | inr is ↦ ap is_hart_event is.0
]

-- what a hart asks for begins where its call settles
record Asking (deltas : List DeltaValue) (s : FlatState) (h : ℕ) : Type 0 where
  hart : HartState
  is : slice_get s.harts h ≡ Some hart
  start : IsHartStart (todo_by deltas s h hart)

asking : (deltas : List DeltaValue) (s : FlatState) (h : ℕ) → IsServed h [] s → Asking deltas s h
asking deltas s h k =
    let w = some_and (slice_get s.harts h) (IsTrying None) k.harts.1 in
    record { hart = w.0; is = w.1; start = todo_start deltas s h w.0 w.2.still }

begun : (deltas : List DeltaValue) (s : FlatState) (h : ℕ) (owed : List ℕ) (last : Option ℕ) (e : Event) (a : Asking deltas s h) → IsServed h [] s → GoesOn deltas s (Hart h) (Some (Settling owed last)) e → IsNext s (todo_by deltas s h a.hart) e
begun deltas s h owed last e a k goes = elim goes [
  | inl settles ↦ absurd (none_settles s owed last e (staying_free s.pages k.pages) settles)
  | inr begins ↦ at_some (slice_get s.harts h) (λ (hart : HartState). IsNext s (todo_by deltas s h hart) e) a.hart a.is begins.1
]

asked_is : (deltas : List DeltaValue) (s : FlatState) (h : ℕ) (owed : List ℕ) (e : Event) (a : Asking deltas s h) → is_gone e ≡ false → settled_with deltas s (Hart h) owed e ≡ Doing (later (todo_by deltas s h a.hart))
asked_is deltas s h owed e a stays =
    settled_is deltas s h owed e stays ∙ ap (λ (o : Option HartState). Doing (later (unwrap_or (option_map (λ (hart : HartState). todo_by deltas s h hart) o) []))) a.is

-- an entry inside
goes_inside : (h : ℕ) (m : Moment) (e : Event) (call : Option Call) → m.call ≡ call → IsInside h m.flat call → GoesOn m.deltas m.flat (Hart h) call e → IsAlong h e (after m (Hart h) e)
goes_inside h m e None is k goes = absurd k
goes_inside h m e (Some (Settling owed last)) is k goes =
    let a = asking m.deltas m.flat h k in
    let next = begun m.deltas m.flat h owed last e a k goes in
    let todo : List Todo = todo_by m.deltas m.flat h a.hart in
    let work : IsHartWork todo = start_work todo a.start in
    let fits : FitsBefore e (later todo) = start_event m.flat todo e a.start next in
    let behind : call_behind m.deltas m.flat (Hart h) m.call e ≡ Some (Doing (later todo)) =
    ap (λ (c : Option Call). call_behind m.deltas m.flat (Hart h) c e) is ∙ ap Some (asked_is m.deltas m.flat h owed e a (fits_stays e (later todo) fits)) in
    inside h m e (later todo) (is_there h m.flat.inside k.inside) (serves m.deltas h m.flat todo e work (served_more h todo m.flat k) next, later_work todo work, fits_event e (later todo) fits, behind)
goes_inside h m e (Some (Doing todo)) is k goes =
    let behind : call_behind m.deltas m.flat (Hart h) m.call e ≡ Some (Doing (later todo)) = ap (λ (c : Option Call). call_behind m.deltas m.flat (Hart h) c e) is in
    inside h m e (later todo) (is_there h m.flat.inside k.0.inside) (serves m.deltas h m.flat todo e k.1 k.0 goes, later_work todo k.1, hart_next h m.flat todo e k.1 k.0 goes, behind)

-- who is inside may go on with its call alone
inside_is : (h : ℕ) (s : FlatState) (call : Option Call) → IsInside h s call → s.inside ≡ Some (Hart h)
inside_is h s None k = absurd k
inside_is h s (Some (Settling owed last)) k = k.inside
inside_is h s (Some (Doing todo)) k = k.0.inside

goes : (h : ℕ) (m : Moment) (e : Event) → IsInside h m.flat m.call → Allows m (Hart h) e → GoesOn m.deltas m.flat (Hart h) m.call e
goes h m e k allowed =
    subst (λ (b : Bool). MatchBool b (GoesOn m.deltas m.flat (Hart h) m.call e) (MayAct m.flat (Hart h) e)) (is_there h m.flat.inside (inside_is h m.flat m.call k)) allowed

goes_along : (h : ℕ) (m : Moment) (e : Event) → InUnit h m → Allows m (Hart h) e → IsAlong h e (after m (Hart h) e)
goes_along h m e k allowed = elim k [
  | inl out ↦ outside h m e out.0 out.1 (may_act h m e out.0 allowed)
  | inr there ↦ goes_inside h m e m.call refl there (goes h m e there allowed)
]

pub along : (h : ℕ) (m : Moment) (entry : Entry) → entry.actor ≡ Hart h → InUnit h m → Allows m entry.actor entry.event → IsAlong h entry.event (after m entry.actor entry.event)
along h m entry own k allowed =
    subst (λ (x : Actor). IsAlong h entry.event (after m x entry.event)) (sym own) (goes_along h m entry.event k (subst (λ (x : Actor). Allows m x entry.event) own allowed))

-- it gives no try up
whole_event : (e : Event) → is_hart_event e ≡ true → IsWhole e
whole_event (Again page) is gives = cc
whole_event (Wait on) is gives = cc
whole_event e is gives = gives

whole_inside : (h : ℕ) (deltas : List DeltaValue) (s : FlatState) (call : Option Call) (e : Event) → IsInside h s call → GoesOn deltas s (Hart h) call e → IsWhole e
whole_inside h deltas s None e k goes = absurd k
whole_inside h deltas s (Some (Settling owed last)) e k goes =
    let a = asking deltas s h k in
    let todo : List Todo = todo_by deltas s h a.hart in
    whole_event e (fits_event e (later todo) (start_event s todo e a.start (begun deltas s h owed last e a k goes)))
whole_inside h deltas s (Some (Doing todo)) e k goes = whole_event e (hart_next h s todo e k.1 k.0 goes)

whole_along : (h : ℕ) (m : Moment) (e : Event) → InUnit h m → Allows m (Hart h) e → IsWhole e
whole_along h m e k allowed = elim k [
  | inl out ↦ whole_outside h m.flat e out.0 (may_act h m e out.0 allowed)
  | inr there ↦ whole_inside h m.deltas m.flat m.call e there (goes h m e there allowed)
]

pub whole_entry : (h : ℕ) (m : Moment) (entry : Entry) → entry.actor ≡ Hart h → InUnit h m → Allows m entry.actor entry.event → IsWhole entry.event
whole_entry h m entry own k allowed = whole_along h m entry.event k (subst (λ (x : Actor). Allows m x entry.event) own allowed)

-- its next event is determined: outside the hart is undisturbed, and inside it is what is to be done
same_outside : HartsAreDetermined → (h : ℕ) (m : Moment) (one other : Event) → IsMoving h m.flat → m.call ≡ None → Allows m (Hart h) one → Allows m (Hart h) other → one ≡ other
same_outside law h m one other k none a b =
    let w = some_and (slice_get m.flat.harts h) (IsTrying k.held) k.harts.1 in
    let undisturbed : OfHart m.flat h (IsUndisturbed m.flat h) = and_some (slice_get m.flat.harts h) (IsUndisturbed m.flat h) w.0 w.1 (inr (w.2.still, own h m.flat k)) in
    let leaves : LeavesAreGoing m.flat m.call = subst (LeavesAreGoing m.flat) (sym none) tt in
    law m h one other leaves undisturbed a b

same_inside : (h : ℕ) (deltas : List DeltaValue) (s : FlatState) (call : Option Call) (one other : Event) → IsFew s → IsInside h s call → GoesOn deltas s (Hart h) call one → GoesOn deltas s (Hart h) call other → one ≡ other
same_inside h deltas s None one other few k a b = absurd k
same_inside h deltas s (Some (Settling owed last)) one other few k a b =
    let asks = asking deltas s h k in
    next_same s (todo_by deltas s h asks.hart) one other few (begun deltas s h owed last one asks k a) (begun deltas s h owed last other asks k b)
same_inside h deltas s (Some (Doing todo)) one other few k a b = next_same s todo one other few a b

pub determined : HartsAreDetermined → (h : ℕ) (m : Moment) (one other : Event) → IsFew m.flat → InUnit h m → Allows m (Hart h) one → Allows m (Hart h) other → one ≡ other
determined law h m one other few k a b = elim k [
  | inl out ↦ same_outside law h m one other out.0 out.1 a b
  | inr there ↦ same_inside h m.deltas m.flat m.call one other few there (goes h m one there a) (goes h m other there b)
]

-- who acts outside is there
may_there : (s : FlatState) (h : ℕ) (e : Event) → MayAct s (Hart h) e → (hart : HartState) × (slice_get s.harts h ≡ Some hart)
may_there s h (Fetch pc word) p = let w = some_and (slice_get s.harts h) _ p in (w.0, w.1)
may_there s h (Look va width value) p = let w = some_and (slice_get s.harts h) _ p in (w.0, w.1)
may_there s h (Take page) p = let w = some_and (slice_get s.harts h) _ p in (w.0, w.1)
may_there s h (Put va width value) p = let w = some_and (slice_get s.harts h) _ p in (w.0, w.1)
may_there s h (Swap va width old new) p = let w = some_and (slice_get s.harts h) _ p in (w.0, w.1)
may_there s h (Miss va) p = let w = some_and (slice_get s.harts h) _ p in (w.0, w.1)
may_there s h (End pc) p = let w = some_and (slice_get s.harts h) _ p in (w.0, w.1)
may_there s h (Again page) p = let w = some_and (slice_get s.harts h) _ p in (w.0, w.1)
may_there s h (Wait on) p = let w = some_and (slice_get s.harts h) _ p in (w.0, w.1)
may_there s h Enter p = let w = some_and (slice_get s.harts h) _ p in (w.0, w.1)
may_there s h Idle p = let w = some_and (slice_get s.harts h) _ p in (w.0, w.1)
may_there s h e p = absurd p

-- a unit begins between two units
still_trying : (hart : HartState) → IsStill hart → IsTrying None hart
still_trying hart still = record { still = still.1; runs = inl still.0; keeps = inl refl }

pub begins : (h : ℕ) (m : Moment) (e : Event) → AtRest m → Allows m (Hart h) e → InUnit h m
begins h m e rest allowed =
    let may : MayAct m.flat (Hart h) e = subst (λ (o : Option Actor). MatchBool (is_inside o (Hart h)) (GoesOn m.deltas m.flat (Hart h) m.call e) (MayAct m.flat (Hart h) e)) rest.0.inside allowed in
    let w = may_there m.flat h e may in
    inl (
      record {
        held = None;
        harts = (all_but IsStill h m.flat.harts rest.0.harts, and_some (slice_get m.flat.harts h) (IsTrying None) w.0 w.1 (still_trying w.0 (all_get IsStill m.flat.harts h w.0 rest.0.harts w.1)));
        pages = free_kept h m.flat.pages rest.0.pages;
        outside = rest.0.inside;
      },
      rest.1,
    )
