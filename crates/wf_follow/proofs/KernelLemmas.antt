-- A call of the kernel's own actor: it gives no try up, it is determined by its request, and behind it
-- the machine is between two units.
use Rattle.std.proofs.Common.{◌≡◌, ◌≢◌, ℕ, List, [], ◌∷◌, ◌++◌, Option, Some, None, Bool, true, false, length, refl, sym, subst, ap, ◌∙◌, inl, inr}
use Rattle.std.specs.Prelude.{MatchBool, map}
use Rattle.std.specs.List.{AllByRecursion, range_with_len}
use Rattle.wf_outside.specs.declared.refusal.Refusal.{Refusal}
use Rattle.wf_outside.specs.Images.{DeltaValue}
use Rattle.wf_flat.specs.declared.event.Actor.{Actor}
use Rattle.wf_flat.specs.declared.event.Actor.TheVariants.{Kernel}
use Rattle.wf_flat.specs.declared.event.Event.{Event}
use Rattle.wf_flat.specs.declared.event.Event.TheVariants.{Again, Born, Dead, Enter, Gone, Idle, Map, Refused, Wait}
use Rattle.wf_flat.specs.declared.event.Entry.{Entry}
use Rattle.wf_flat.specs.State.{FlatState, HartState}
use Rattle.wf_flat.specs.Lists.{others_changed}
use Rattle.wf_flat.specs.Steps.{MayAct, is_inside}
use Rattle.wf_flat.specs.Changes.{without}
use Rattle.wf_flat.proofs.ListLemmas.{others_same}
use Rattle.wf_effects.specs.declared.ranges.PageRun.{PageRun}
use Rattle.wf_effects.specs.Effects.{all_noted, delta_of}
use Rattle.wf_effects.specs.Generations.{newest}
use Rattle.wf_effects.specs.Ranges.{runs_of}
use Rattle.wf_verdict.specs.declared.requests.Request.{Request}
use Rattle.wf_verdict.specs.declared.requests.Request.TheVariants.{Clones, Deletes, Patches}
use Rattle.wf_verdict.specs.declared.work.Todo.{Todo}
use Rattle.wf_verdict.specs.declared.work.Todo.TheVariants.{Exactly, Leaves}
use Rattle.wf_verdict.specs.Requests.{IsKernelRequest}
use Rattle.wf_verdict.specs.Verdict.{delta_at, refusal_of}
use Rattle.wf_verdict.specs.Work.{done_about, map_of, refused_or, work_of}
use Rattle.wf_legal.specs.Calls.{Call, Doing, GoesOn, IsNext, Settling, call_behind, closes_kernel_call, later, settled_with, todo_with}
use Rattle.wf_legal.specs.Events.{flat_after}
use Rattle.wf_legal.specs.Legal.{Moment, Allows, IsLegal, after, call_after, end_of}
use Rattle.wf_follow.specs.Requests.{ClosesCall, IsOfRequest, IsWholeCall, is_gone, is_settling}
use Rattle.wf_follow.proofs.BirthLemmas.{IsFew, few_along}
use Rattle.wf_follow.proofs.HartLemmas.{all_but}
use Rattle.wf_follow.proofs.PageLemmas.{IsFree, none_settles}
use Rattle.wf_follow.proofs.StayLemmas.{mapped_all}
use Rattle.wf_follow.proofs.UnitLemmas.{IsStill}
use Rattle.wf_follow.proofs.ServedLemmas.{still_all_noted}
use Rattle.wf_follow.proofs.EntryLemmas.{AtRest, IsWhole}
use Rattle.wf_follow.proofs.AlongLemmas.{AreWhole, same_entry}
use Rattle.wf_follow.proofs.WorkLemmas.{next_same}

-- the events of its call
abbrev is_kernel_event : Event → Bool
is_kernel_event (Map page n write patch) = true
is_kernel_event (Born generation parent patch) = true
is_kernel_event (Dead generation) = true
is_kernel_event (Refused reason) = true
is_kernel_event event = false

abbrev IsKernelWork : Todo → Type 0
IsKernelWork (Exactly event) = is_kernel_event event ≡ true
IsKernelWork (Leaves page) = ⊥

-- what is done about its requests
refused_work : (o : Option Refusal) (todo : List Todo) → AllByRecursion IsKernelWork todo → AllByRecursion IsKernelWork (refused_or o todo)
refused_work None todo work = work
refused_work (Some reason) todo work = (refl, tt)

runs_work : (patch : ℕ) (runs : List PageRun) (born parent : ℕ) → AllByRecursion IsKernelWork (map (map_of patch) runs ++ Exactly (Born born parent (Some patch)) ∷ [])
runs_work patch [] born parent = (refl, tt)
runs_work patch (run ∷ runs) born parent = (refl, runs_work patch runs born parent)

clones_work : (deltas : List DeltaValue) (s : FlatState) (generation : ℕ) → AllByRecursion IsKernelWork (done_about deltas s 0 (Clones generation))
clones_work deltas s generation = refused_work (refusal_of deltas s 0 (Clones generation)) (work_of deltas s (Clones generation)) (refl, tt)

deletes_work : (deltas : List DeltaValue) (s : FlatState) (generation : ℕ) → AllByRecursion IsKernelWork (done_about deltas s 0 (Deletes generation))
deletes_work deltas s generation = refused_work (refusal_of deltas s 0 (Deletes generation)) (work_of deltas s (Deletes generation)) (refl, tt)

patches_work : (deltas : List DeltaValue) (s : FlatState) (patch : ℕ) → AllByRecursion IsKernelWork (done_about deltas s 0 (Patches patch))
patches_work deltas s patch =
    refused_work (refusal_of deltas s 0 (Patches patch)) (work_of deltas s (Patches patch)) (runs_work patch (runs_of (delta_at deltas patch).shared) (length s.gens) (newest s))

request_work : (deltas : List DeltaValue) (s : FlatState) (request : Request) → IsKernelRequest deltas request → AllByRecursion IsKernelWork (done_about deltas s 0 request)
request_work deltas s (Clones generation) may = clones_work deltas s generation
request_work deltas s (Deletes generation) may = deletes_work deltas s generation
request_work deltas s (Patches patch) may = patches_work deltas s patch
request_work deltas s request may = absurd may

with_work : (deltas : List DeltaValue) (s : FlatState) (event : Event) → AllByRecursion IsKernelWork (todo_with deltas s Kernel event)
with_work deltas s (Map page n write (Some patch)) = patches_work deltas s patch
with_work deltas s (Map page n write None) = tt
with_work deltas s (Born generation parent (Some patch)) = patches_work deltas s patch
with_work deltas s (Born generation parent None) = clones_work deltas s parent
with_work deltas s (Dead generation) = deletes_work deltas s generation
with_work deltas s event = tt

later_work : (todo : List Todo) → AllByRecursion IsKernelWork todo → AllByRecursion IsKernelWork (later todo)
later_work [] work = tt
later_work (first ∷ todo) work = work.1

next_event : (s : FlatState) (todo : List Todo) (e : Event) → AllByRecursion IsKernelWork todo → IsNext s todo e → is_kernel_event e ≡ true
next_event s [] e work next = absurd next
next_event s (Exactly first ∷ todo) e work next = ap is_kernel_event next ∙ work.0
next_event s (Leaves page ∷ todo) e work next = absurd work.0

-- it is inside, no hart is in a try, and no page is held or leaving
record IsIn (s : FlatState) : Type 0 where
  harts : AllByRecursion IsStill s.harts
  pages : AllByRecursion IsFree s.pages
  inside : s.inside ≡ Some Kernel

-- so, with this call
abbrev InCall : FlatState → Option Call → Type 0
InCall s None = ⊥
InCall s (Some (Settling owed last)) = IsIn s
InCall s (Some (Doing todo)) = IsIn s × AllByRecursion IsKernelWork todo

in_of : (s : FlatState) (call : Option Call) → InCall s call → IsIn s
in_of s None k = absurd k
in_of s (Some (Settling owed last)) k = k
in_of s (Some (Doing todo)) k = k.0

-- an event of its call is one of the call in hand
goes : (m : Moment) (e : Event) → InCall m.flat m.call → e ≢ Idle → Allows m Kernel e → GoesOn m.deltas m.flat Kernel m.call e
goes m Idle k busy allowed = absurd (busy refl)
goes m e k busy allowed =
    subst (λ (o : Option Actor). MatchBool (is_inside o Kernel) (GoesOn m.deltas m.flat Kernel m.call e) (MayAct m.flat Kernel e)) (in_of m.flat m.call k).inside allowed

call_event : (deltas : List DeltaValue) (s : FlatState) (call : Option Call) (e : Event) → InCall s call → GoesOn deltas s Kernel call e → is_kernel_event e ≡ true
call_event deltas s None e k goes = absurd goes
call_event deltas s (Some (Doing todo)) e k goes = next_event s todo e k.1 goes
call_event deltas s (Some (Settling owed last)) e k goes = elim goes [
  | inl settles ↦ absurd (none_settles s owed last e k.pages settles)
  | inr begins ↦ next_event s (done_about deltas s 0 begins.1.request) e (request_work deltas s begins.1.request begins.1.may) begins.1.next
]

-- the call behind the event
settled_in : (deltas : List DeltaValue) (s t : FlatState) (owed : List ℕ) (e : Event) → is_kernel_event e ≡ true → IsIn t → InCall t (Some (settled_with deltas s Kernel owed e))
settled_in deltas s t owed (Gone page worn) is k = absurd (cc)
settled_in deltas s t owed e is k = (k, later_work (todo_with deltas s Kernel e) (with_work deltas s e))

behind_in : (deltas : List DeltaValue) (s t : FlatState) (call : Option Call) (e : Event) → InCall s call → is_kernel_event e ≡ true → IsIn t → InCall t (call_behind deltas s Kernel call e)
behind_in deltas s t None e c is k = absurd c
behind_in deltas s t (Some (Doing todo)) e c is k = (k, later_work todo c.1)
behind_in deltas s t (Some (Settling owed last)) e c is k = settled_in deltas s t owed e is k

-- the state behind it
still_noted : (pages : List ℕ) (at : ℕ) (harts : List HartState) → AllByRecursion IsStill harts → AllByRecursion IsStill (others_changed harts at (all_noted pages))
still_noted pages at harts all =
    subst (AllByRecursion IsStill) (sym (others_same IsStill (all_noted pages) (still_all_noted pages) harts at (all_but IsStill at harts all))) all

left : (o : Option Actor) → o ≡ Some Kernel → without o Kernel ≡ None
left o e = subst (λ (i : Option Actor). without i Kernel ≡ None) (sym e) refl

maps : (deltas : List DeltaValue) (s : FlatState) (page n : ℕ) (write : Bool) (patch : Option ℕ) → IsIn s → IsIn (flat_after deltas s Kernel (Map page n write patch))
maps deltas s page n write patch k = record {
  harts = still_noted (range_with_len page n) (length s.harts) s.harts k.harts;
  pages = mapped_all IsFree (λ page free. free) (delta_of deltas patch) write page s.births n s.pages k.pages;
  inside = k.inside;
}

-- an entry of its call: behind it the call is closed, or goes on
abbrev IsAlong : Event → Moment → Type 0
IsAlong e m = MatchBool (closes_kernel_call e) (AtRest m) (InCall m.flat m.call)

goes_along : (m : Moment) (e : Event) → InCall m.flat m.call → is_inside m.flat.inside Kernel ≡ true → is_kernel_event e ≡ true → IsAlong e (after m Kernel e)
goes_along m (Map page n write patch) k there is =
    let t = maps m.deltas m.flat page n write patch (in_of m.flat m.call k) in
    let e : Event = Map page n write patch in
    let same : call_after m Kernel e ≡ call_behind m.deltas m.flat Kernel m.call e = rw there refl in
    subst (InCall (flat_after m.deltas m.flat Kernel e)) (sym same) (behind_in m.deltas m.flat (flat_after m.deltas m.flat Kernel e) m.call e k refl t)
goes_along m (Born generation parent patch) k there is =
    let now = in_of m.flat m.call k in (record { harts = now.harts; pages = now.pages; inside = left m.flat.inside now.inside }, rw there refl)
goes_along m (Dead generation) k there is =
    let now = in_of m.flat m.call k in (record { harts = now.harts; pages = now.pages; inside = left m.flat.inside now.inside }, rw there refl)
goes_along m (Refused reason) k there is =
    let now = in_of m.flat m.call k in (record { harts = now.harts; pages = now.pages; inside = left m.flat.inside now.inside }, rw there refl)
goes_along m e k there is = absurd (cc)

is_there : (o : Option Actor) → o ≡ Some Kernel → is_inside o Kernel ≡ true
is_there o e = subst (λ (x : Option Actor). is_inside x Kernel ≡ true) (sym e) refl

allowed_by : (m : Moment) (entry : Entry) → entry.actor ≡ Kernel → Allows m entry.actor entry.event → Allows m Kernel entry.event
allowed_by m entry own allowed = subst (λ (x : Actor). Allows m x entry.event) own allowed

entry_event : (m : Moment) (entry : Entry) → entry.actor ≡ Kernel → entry.event ≢ Idle → InCall m.flat m.call → Allows m entry.actor entry.event → is_kernel_event entry.event ≡ true
entry_event m entry own busy k allowed = call_event m.deltas m.flat m.call entry.event k (goes m entry.event k busy (allowed_by m entry own allowed))

along : (m : Moment) (entry : Entry) → entry.actor ≡ Kernel → entry.event ≢ Idle → InCall m.flat m.call → Allows m entry.actor entry.event → IsAlong entry.event (after m entry.actor entry.event)
along m entry own busy k allowed =
    subst (λ (x : Actor). IsAlong entry.event (after m x entry.event)) (sym own)
    (goes_along m entry.event k (is_there m.flat.inside (in_of m.flat m.call k).inside) (entry_event m entry own busy k allowed))

-- at its end the machine is between two units
end_by : (b : Bool) (request : Request) (n : Moment) (es : List Entry) → (ClosesCall request n es → InCall n.flat n.call → AtRest (end_of n es)) → MatchBool b (AtRest n) (InCall n.flat n.call) → MatchBool b (es ≡ []) (ClosesCall request n es) → AtRest (end_of n es)
end_by true request n es more rest none = subst (λ (xs : List Entry). AtRest (end_of n xs)) (sym none) rest
end_by false request n es more k u = more u k

closes_ends : (request : Request) (m : Moment) (es : List Entry) → ClosesCall request m es → InCall m.flat m.call → IsLegal m es → AtRest (end_of m es)
closes_ends request m [] u k p = absurd u
closes_ends request m (e ∷ es) u k p =
    let next : Moment = after m e.actor e.event in
    end_by (closes_kernel_call e.event) request next es (λ v l. closes_ends request next es v l p.1) (along m e u.0 u.1 k p.0) u.3

-- none of its entries gives a try up
whole_event : (e : Event) → is_kernel_event e ≡ true → IsWhole e
whole_event (Again page) is gives = cc
whole_event (Wait on) is gives = cc
whole_event e is gives = gives

whole_by : (b : Bool) (request : Request) (n : Moment) (es : List Entry) → (ClosesCall request n es → InCall n.flat n.call → AreWhole es) → MatchBool b (AtRest n) (InCall n.flat n.call) → MatchBool b (es ≡ []) (ClosesCall request n es) → AreWhole es
whole_by true request n es more rest none = subst AreWhole (sym none) tt
whole_by false request n es more k u = more u k

closes_whole : (request : Request) (m : Moment) (es : List Entry) → ClosesCall request m es → InCall m.flat m.call → IsLegal m es → AreWhole es
closes_whole request m [] u k p = absurd u
closes_whole request m (e ∷ es) u k p =
    let next : Moment = after m e.actor e.event in (
      whole_event e.event (entry_event m e u.0 u.1 k p.0),
      whole_by (closes_kernel_call e.event) request next es (λ v l. closes_whole request next es v l p.1) (along m e u.0 u.1 k p.0) u.3,
    )

-- it is determined by its request
stays_event : (e : Event) → is_kernel_event e ≡ true → is_gone e ≡ false
stays_event (Gone page worn) is = absurd (cc)
stays_event e is = refl

of_request : (request : Request) (m : Moment) (e : Event) (owed : List ℕ) (last : Option ℕ) → m.call ≡ Some (Settling owed last) → is_kernel_event e ≡ true → IsOfRequest request m e → IsNext m.flat (done_about m.deltas m.flat 0 request) e
of_request request m e owed last is event of = of (ap is_settling is) (stays_event e event)

same_event : (request : Request) (m : Moment) (call : Option Call) (one other : Event) → m.call ≡ call → IsFew m.flat → InCall m.flat call → GoesOn m.deltas m.flat Kernel call one → GoesOn m.deltas m.flat Kernel call other
    → IsOfRequest request m one → IsOfRequest request m other → one ≡ other
same_event request m None one other is few k a b u v = absurd k
same_event request m (Some (Doing todo)) one other is few k a b u v = next_same m.flat todo one other few a b
same_event request m (Some (Settling owed last)) one other is few k a b u v =
    let call : Option Call = Some (Settling owed last) in
    next_same m.flat (done_about m.deltas m.flat 0 request) one other few (of_request request m one owed last is (call_event m.deltas m.flat call one k a) u)
    (of_request request m other owed last is (call_event m.deltas m.flat call other k b) v)

same_by : (b : Bool) (request : Request) (n : Moment) (es fs : List Entry) → (ClosesCall request n es → ClosesCall request n fs → InCall n.flat n.call → es ≡ fs) → MatchBool b (AtRest n) (InCall n.flat n.call) → MatchBool b (es ≡ []) (ClosesCall request n es)
    → MatchBool b (fs ≡ []) (ClosesCall request n fs) → es ≡ fs
same_by true request n es fs same rest u v = u ∙ sym v
same_by false request n es fs same k u v = same u v k

closes_same : (request : Request) (m : Moment) (one other : List Entry) → ClosesCall request m one → ClosesCall request m other → InCall m.flat m.call → IsLegal m one → IsLegal m other → IsFew (end_of m one).flat → one ≡ other
closes_same request m [] other u v k p q few = absurd u
closes_same request m (e ∷ es) [] u v k p q few = absurd v
closes_same request m (e ∷ es) (f ∷ fs) u v k p q few =
    let next : Moment = after m e.actor e.event in
    let a = goes m e.event k u.1 (allowed_by m e u.0 p.0) in
    let b = goes m f.event k v.1 (allowed_by m f v.0 q.0) in
    let events : e.event ≡ f.event = same_event request m m.call e.event f.event refl (few_along m (e ∷ es) few) k a b u.2 v.2 in
    let entries : e ≡ f = same_entry e f (u.0 ∙ sym v.0) events in
    let w : MatchBool (closes_kernel_call e.event) (fs ≡ []) (ClosesCall request next fs) =
    subst (λ (x : Entry). MatchBool (closes_kernel_call x.event) (fs ≡ []) (ClosesCall request (after m x.actor x.event) fs)) (sym entries) v.3 in
    let r : IsLegal next fs = subst (λ (x : Entry). IsLegal (after m x.actor x.event) fs) (sym entries) q.1 in
    let rest : es ≡ fs = same_by (closes_kernel_call e.event) request next es fs (λ x y l. closes_same request next es fs x y l p.1 r few) (along m e u.0 u.1 k p.0) u.3 w in
    ap (λ (x : Entry). x ∷ es) entries ∙ ap (λ (xs : List Entry). f ∷ xs) rest

-- a whole call: behind its Enter it is inside
enters : (m : Moment) → AtRest m → InCall (after m Kernel Enter).flat (after m Kernel Enter).call
enters m rest = record { harts = rest.0.harts; pages = rest.0.pages; inside = refl }

entered_by : (m : Moment) (e : Entry) → e.actor ≡ Kernel → e.event ≡ Enter → after m e.actor e.event ≡ after m Kernel Enter
entered_by m e own is = ap (λ (x : Actor). after m x e.event) own ∙ ap (after m Kernel) is

pub call_ends : (request : Request) (m : Moment) (es : List Entry) → IsWholeCall request m es → AtRest m → IsLegal m es → AtRest (end_of m es)
call_ends request m [] u rest p = absurd u
call_ends request m (e ∷ es) u rest p =
    let first = entered_by m e u.0 u.1 in
    let legal : IsLegal (after m Kernel Enter) es = subst (λ (x : Moment). IsLegal x es) first p.1 in
    subst (λ (x : Moment). AtRest (end_of x es)) (sym first) (closes_ends request (after m Kernel Enter) es u.2 (enters m rest) legal)

pub call_whole : (request : Request) (m : Moment) (es : List Entry) → IsWholeCall request m es → AtRest m → IsLegal m es → AreWhole es
call_whole request m [] u rest p = absurd u
call_whole request m (e ∷ es) u rest p =
    let first = entered_by m e u.0 u.1 in
    let legal : IsLegal (after m Kernel Enter) es = subst (λ (x : Moment). IsLegal x es) first p.1 in
    (subst IsWhole (sym u.1) (λ gives. gives), closes_whole request (after m Kernel Enter) es u.2 (enters m rest) legal)

pub call_same : (request : Request) (m : Moment) (one other : List Entry) → IsWholeCall request m one → IsWholeCall request m other → AtRest m → IsLegal m one → IsLegal m other → IsFew (end_of m one).flat → one ≡ other
call_same request m [] other u v rest p q few = absurd u
call_same request m (e ∷ es) [] u v rest p q few = absurd v
call_same request m (e ∷ es) (f ∷ fs) u v rest p q few =
    let next : Moment = after m Kernel Enter in
    let entries : e ≡ f = same_entry e f (u.0 ∙ sym v.0) (u.1 ∙ sym v.1) in
    let first = entered_by m e u.0 u.1 in
    let legal : IsLegal next es = subst (λ (x : Moment). IsLegal x es) first p.1 in
    let others : IsLegal next fs = subst (λ (x : Moment). IsLegal x fs) (entered_by m f v.0 v.1) q.1 in
    let rests : es ≡ fs = closes_same request next es fs u.2 v.2 (enters m rest) legal others (subst (λ (x : Moment). IsFew (end_of x es).flat) first few) in
    ap (λ (x : Entry). x ∷ es) entries ∙ ap (λ (xs : List Entry). f ∷ xs) rests
