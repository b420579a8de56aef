-- What a call still has to do, and what an entry that is allowed comes from.
use Rattle.std.proofs.Common.{◌≡◌, ◌⊎◌, inl, inr, ℕ, List, [], ◌∷◌, ◌++◌, Option, Some, None, Bool, true, false, not, ◌&&◌, if◌then◌else◌, is_some, map, refl, sym, subst, ap, ◌∙◌}
use Rattle.std.specs.Prelude.{MatchBool, IsSomeAnd, slice_get, unwrap_or}
use Rattle.std.specs.Option.{option_map}
use Rattle.std.proofs.lemmas.Bool.{and_parts}
use Rattle.rv_inst.specs.Meanings.{next_pc}
use Rattle.wf_outside.specs.declared.refusal.Refusal.{Refusal}
use Rattle.wf_outside.specs.Images.{DeltaValue}
use Rattle.wf_flat.specs.declared.event.Actor.{Actor}
use Rattle.wf_flat.specs.declared.event.Actor.TheVariants.{Hart, Kernel}
use Rattle.wf_flat.specs.declared.event.Event.{Event}
use Rattle.wf_flat.specs.declared.event.Event.TheVariants.{Fetch, Look, Take, Put, Swap, Miss, End, Again, Wait, Enter, Sync, Trap, Exit, Out, Idle, Map, Going, Ending, Gone, Born, Move, Dead, Refused}
use Rattle.wf_flat.specs.State.{FlatState, HartState, PageState}
use Rattle.wf_flat.specs.Memory.{data_in, has_met}
use Rattle.wf_flat.specs.Accesses.{Access, accessed_data, accessed_text, has_right, is_ending, is_free, is_here}
use Rattle.wf_flat.specs.Steps.{Ask, Called, Stopped, Faulted, MayAct, ask_of, is_inside}
use Rattle.wf_flat.proofs.ListLemmas.{and_some, some_and}
use Rattle.wf_effects.specs.declared.ranges.PageRun.{PageRun}
use Rattle.wf_effects.specs.Ranges.{runs_of}
use Rattle.wf_verdict.specs.declared.requests.Request.{Request}
use Rattle.wf_verdict.specs.declared.requests.Request.TheVariants.{Exits, PutsByte, Maps, Unmaps, TellsGeneration, Migrates, Quiesces, Deletes, Clones, Patches, NoCall}
use Rattle.wf_verdict.specs.declared.work.Todo.{Todo}
use Rattle.wf_verdict.specs.declared.work.Todo.TheVariants.{Exactly, Leaves}
use Rattle.wf_verdict.specs.Requests.{requested_by}
use Rattle.wf_verdict.specs.Verdict.{delta_at, pages_from, refusal_of}
use Rattle.wf_verdict.specs.Work.{done_about, map_of, refused_or, work_of}
use Rattle.wf_legal.specs.Calls.{Begins, Call, Doing, Settling, GoesOn, IsGone, IsNext, IsLeaving, call_behind, closes_call, ending_of, later, may_go, request_with, settled_with, todo_by, todo_of, todo_of_page, todo_with}
use Rattle.wf_legal.specs.Legal.{Moment, Allows, call_after}

-- the event is one that an actor makes outside the kernel alone
abbrev pub is_outer : Event → Bool
is_outer (Fetch pc word) = true
is_outer (Look va width value) = true
is_outer (Take page) = true
is_outer (Put va width value) = true
is_outer (Swap va width old new) = true
is_outer (Miss va) = true
is_outer (Wait on) = true
is_outer Enter = true
is_outer Idle = true
is_outer event = false

-- a call may begin with the event, as one of its work
abbrev pub is_work : Event → Bool
is_work (End pc) = true
is_work (Again page) = true
is_work (Sync generation page) = true
is_work (Trap cause value) = true
is_work (Exit code) = true
is_work (Out byte) = true
is_work (Map page n write patch) = true
is_work (Going page n) = true
is_work (Born generation parent patch) = true
is_work (Move generation) = true
is_work (Dead generation) = true
is_work (Refused reason) = true
is_work event = false

-- and may have the event behind its first
abbrev pub is_late : Event → Bool
is_late (End pc) = true
is_late (Map page n write patch) = true
is_late (Born generation parent patch) = true
is_late event = false

abbrev pub IsLateWork : List Todo → Type 0
IsLateWork [] = Unit {0}
IsLateWork (Exactly event ∷ todo) = (is_late event ≡ true) × IsLateWork todo
IsLateWork (Leaves page ∷ todo) = IsLateWork todo

abbrev pub IsWork : List Todo → Type 0
IsWork [] = Unit {0}
IsWork (Exactly event ∷ todo) = (is_work event ≡ true) × IsLateWork todo
IsWork (Leaves page ∷ todo) = ⊥

-- what a call has in hand
abbrev pub IsLateCall : Option Call → Type 0
IsLateCall None = Unit {0}
IsLateCall (Some (Settling owed last)) = Unit {0}
IsLateCall (Some (Doing todo)) = IsLateWork todo

-- a page that leaves was free, or is held
abbrev pub IsLeave : FlatState → Event → Type 0
IsLeave s (Gone page worn) = IsSomeAnd (data_in s.pages page) (λ (found : PageState). is_free found ≡ true)
IsLeave s (Ending page) = IsSomeAnd (data_in s.pages page) (λ (found : PageState). is_free found ≡ false)
IsLeave s event = ⊥

-- what is done about a request
late_ending : (next : ℕ) (request : Request) → IsLateWork (ending_of next request)
late_ending next (Exits code) = tt
late_ending next (PutsByte byte) = (refl, tt)
late_ending next (Maps va pages right) = (refl, tt)
late_ending next (Unmaps va pages) = (refl, tt)
late_ending next TellsGeneration = (refl, tt)
late_ending next (Migrates generation) = (refl, tt)
late_ending next Quiesces = (refl, tt)
late_ending next (Deletes generation) = (refl, tt)
late_ending next (Clones generation) = (refl, tt)
late_ending next (Patches patch) = (refl, tt)
late_ending next (NoCall number) = (refl, tt)

late_append : (one other : List Todo) → IsLateWork one → IsLateWork other → IsLateWork (one ++ other)
late_append [] other p q = q
late_append (Exactly event ∷ todo) other p q = (p.0, late_append todo other p.1 q)
late_append (Leaves page ∷ todo) other p q = late_append todo other p q

work_append : (one other : List Todo) → IsWork one → IsLateWork other → IsWork other → IsWork (one ++ other)
work_append [] other p q r = r
work_append (Exactly event ∷ todo) other p q r = (p.0, late_append todo other p.1 q)
work_append (Leaves page ∷ todo) other p q r = absurd p

late_maps : (patch : ℕ) (runs : List PageRun) → IsLateWork (map (map_of patch) runs)
late_maps patch [] = tt
late_maps patch (run ∷ runs) = (refl, late_maps patch runs)

late_leaves : (pages : List ℕ) → IsLateWork (map Leaves pages)
late_leaves [] = tt
late_leaves (page ∷ pages) = late_leaves pages

work_patch : (patch : ℕ) (runs : List PageRun) (generation parent : ℕ) (by : Option ℕ) → IsWork (map (map_of patch) runs ++ Exactly (Born generation parent by) ∷ [])
work_patch patch [] generation parent by = (refl, tt)
work_patch patch (run ∷ runs) generation parent by = (refl, late_append (map (map_of patch) runs) (Exactly (Born generation parent by) ∷ []) (late_maps patch runs) (refl, tt))

is_work_of : (deltas : List DeltaValue) (s : FlatState) (request : Request) → IsWork (work_of deltas s request)
is_work_of deltas s (Exits code) = (refl, tt)
is_work_of deltas s (PutsByte byte) = (refl, tt)
is_work_of deltas s (Maps va pages right) = (refl, tt)
is_work_of deltas s (Unmaps va pages) = (refl, late_leaves (pages_from va pages))
is_work_of deltas s TellsGeneration = tt
is_work_of deltas s (Migrates generation) = (refl, tt)
is_work_of deltas s Quiesces = (refl, tt)
is_work_of deltas s (Deletes generation) = (refl, tt)
is_work_of deltas s (Clones generation) = (refl, tt)
is_work_of deltas s (Patches patch) = work_patch patch (runs_of (delta_at deltas patch).shared) _ _ _
is_work_of deltas s (NoCall number) = tt

work_or : (o : Option Refusal) (work : List Todo) → IsWork work → IsWork (refused_or o work)
work_or None work p = p
work_or (Some reason) work p = (refl, tt)

work_done : (deltas : List DeltaValue) (s : FlatState) (next : ℕ) (request : Request) → IsWork (done_about deltas s next request)
work_done deltas s next request = work_or (refusal_of deltas s next request) (work_of deltas s request) (is_work_of deltas s request)

ending_work : (next : ℕ) (request : Request) → IsWork (ending_of next request)
ending_work next (Exits code) = tt
ending_work next (PutsByte byte) = (refl, tt)
ending_work next (Maps va pages right) = (refl, tt)
ending_work next (Unmaps va pages) = (refl, tt)
ending_work next TellsGeneration = (refl, tt)
ending_work next (Migrates generation) = (refl, tt)
ending_work next Quiesces = (refl, tt)
ending_work next (Deletes generation) = (refl, tt)
ending_work next (Clones generation) = (refl, tt)
ending_work next (Patches patch) = (refl, tt)
ending_work next (NoCall number) = (refl, tt)

choice_work : (b : Bool) (one other : List Todo) → IsWork one → IsWork other → IsWork (if b then one else other)
choice_work true one other p q = p
choice_work false one other p q = q

page_work : (s : FlatState) (hart : HartState) (access : Access) (o : Option PageState) → IsWork (todo_of_page s hart access o)
page_work s hart access None = (refl, tt)
page_work s hart access (Some page) =
    choice_work (not (is_here page.stage && has_right access page)) _ _ (refl, tt) (choice_work (has_met s.met hart.generation page.number) _ _ (refl, tt) (refl, tt))

ask_work : (deltas : List DeltaValue) (s : FlatState) (hart : HartState) (ask : Ask) → IsWork (todo_of deltas s hart ask)
ask_work deltas s hart Called =
    let next : ℕ = next_pc hart.arch.pc in
    let request : Request = requested_by hart in
    work_append (done_about deltas s next request) (ending_of next request) (work_done deltas s next request) (late_ending next request) (ending_work next request)
ask_work deltas s hart (Stopped cause value) = (refl, tt)
ask_work deltas s hart (Faulted access) = choice_work (is_some (accessed_text s hart access)) _ _ (refl, tt) (page_work s hart access (accessed_data s access))

asked_work : (deltas : List DeltaValue) (s : FlatState) (hart : HartState) (o : Option Ask) → IsWork (unwrap_or (option_map (λ ask. todo_of deltas s hart ask) o) [])
asked_work deltas s hart None = tt
asked_work deltas s hart (Some ask) = ask_work deltas s hart ask

pub work_by : (deltas : List DeltaValue) (s : FlatState) (h : ℕ) (hart : HartState) → IsWork (todo_by deltas s h hart)
work_by deltas s h hart = asked_work deltas s hart (ask_of s h hart)

hart_work : (deltas : List DeltaValue) (s : FlatState) (h : ℕ) (o : Option HartState) → IsWork (unwrap_or (option_map (λ hart. todo_by deltas s h hart) o) [])
hart_work deltas s h None = tt
hart_work deltas s h (Some hart) = work_by deltas s h hart

request_work : (deltas : List DeltaValue) (s : FlatState) (o : Option Request) → IsWork (unwrap_or (option_map (λ request. done_about deltas s 0 request) o) [])
request_work deltas s None = tt
request_work deltas s (Some request) = work_done deltas s 0 request

with_work : (deltas : List DeltaValue) (s : FlatState) (actor : Actor) (e : Event) → IsWork (todo_with deltas s actor e)
with_work deltas s (Hart h) e = hart_work deltas s h (slice_get s.harts h)
with_work deltas s Kernel e = request_work deltas s (request_with e)

-- what is left behind the first thing to do
late_behind : (todo : List Todo) → IsWork todo → IsLateWork (later todo)
late_behind [] p = tt
late_behind (Exactly event ∷ todo) p = p.1
late_behind (Leaves page ∷ todo) p = absurd p

late_later : (todo : List Todo) → IsLateWork todo → IsLateWork (later todo)
late_later [] p = tt
late_later (Exactly event ∷ todo) p = p.1
late_later (Leaves page ∷ todo) p = p

late_settled : (deltas : List DeltaValue) (s : FlatState) (actor : Actor) (owed : List ℕ) (e : Event) → IsLateCall (Some (settled_with deltas s actor owed e))
late_settled deltas s actor owed (Gone page worn) = tt
late_settled deltas s actor owed e = late_behind (todo_with deltas s actor e) (with_work deltas s actor e)

behind_late : (deltas : List DeltaValue) (s : FlatState) (actor : Actor) (call : Option Call) (e : Event) → IsLateCall call → IsLateCall (call_behind deltas s actor call e)
behind_late deltas s actor None e p = tt
behind_late deltas s actor (Some (Doing todo)) e p = late_later todo p
behind_late deltas s actor (Some (Settling owed last)) e p = late_settled deltas s actor owed e

side_late : (inside closes : Bool) (call behind : Option Call) → IsLateCall call → IsLateCall behind → IsLateCall (if inside then (if closes then None else behind) else call)
side_late true true call behind p q = tt
side_late true false call behind p q = q
side_late false closes call behind p q = p

-- each entry keeps it
pub call_kept : (m : Moment) (actor : Actor) (e : Event) → IsLateCall m.call → IsLateCall (call_after m actor e)
call_kept m (Hart h) Enter p = tt
call_kept m (Hart h) e p =
    side_late (is_inside m.flat.inside (Hart h)) (closes_call (Hart h) e) m.call (call_behind m.deltas m.flat (Hart h) m.call e) p (behind_late m.deltas m.flat (Hart h) m.call e p)
call_kept m Kernel Enter p = tt
call_kept m Kernel Idle p = p
call_kept m Kernel e p =
    side_late (is_inside m.flat.inside Kernel) (closes_call Kernel e) m.call (call_behind m.deltas m.flat Kernel m.call e) p (behind_late m.deltas m.flat Kernel m.call e p)

-- where an event in a call comes from: it begins what is asked for, is behind that, or lets a page leave
abbrev pub Comes : List DeltaValue → FlatState → Actor → Event → Type 0
Comes deltas s actor e = Begins deltas s actor e ⊎ ((is_late e ≡ true) ⊎ IsLeave s e)

gone_leave : (s : FlatState) (page : ℕ) (e : Event) → IsGone s page e → IsSomeAnd (data_in s.pages page) (λ (found : PageState). is_free found ≡ true) → IsLeave s e
gone_leave s page e (inl is) free = subst (IsLeave s) (sym is) free
gone_leave s page e (inr is) free = subst (IsLeave s) (sym is.0) free

by_free : (b : Bool) (s : FlatState) (number : ℕ) (page : PageState) (e : Event) → data_in s.pages number ≡ Some page → is_free page ≡ b → MatchBool b (IsGone s number e) (e ≡ Ending number) → IsLeave s e
by_free true s number page e is free p = gone_leave s number e p (and_some (data_in s.pages number) _ page is free)
by_free false s number page e is free p = subst (IsLeave s) (sym p) (and_some (data_in s.pages number) _ page is free)

leaving : (s : FlatState) (number : ℕ) (o : Option PageState) (e : Event) → data_in s.pages number ≡ o → IsLeaving s number o e → IsLeave s e
leaving s number None e is p = absurd p
leaving s number (Some page) e is p = by_free (is_free page) s number page e is refl p

may_free : (s : FlatState) (page : ℕ) (o : Option PageState) → IsSomeAnd o (λ (found : PageState). may_go found ≡ true) → IsSomeAnd o (λ (found : PageState). is_free found ≡ true)
may_free s page None p = p
may_free s page (Some found) p = (and_parts (is_ending found.stage) (is_free found) p).1

next_comes : (s : FlatState) (todo : List Todo) (e : Event) → IsLateWork todo → IsNext s todo e → (is_late e ≡ true) ⊎ IsLeave s e
next_comes s [] e late p = absurd p
next_comes s (Exactly next ∷ todo) e late p = inl (ap is_late p ∙ late.0)
next_comes s (Leaves page ∷ todo) e late p = inr (leaving s page (data_in s.pages page) e refl p)

pub comes : (deltas : List DeltaValue) (s : FlatState) (actor : Actor) (call : Option Call) (e : Event) → IsLateCall call → GoesOn deltas s actor call e → Comes deltas s actor e
comes deltas s actor None e late p = absurd p
comes deltas s actor (Some (Doing todo)) e late p = inr (next_comes s todo e late p)
comes deltas s actor (Some (Settling owed last)) e late (inl settles) =
    inr (inr (gone_leave s settles.page e settles.is (may_free s settles.page (data_in s.pages settles.page) settles.may)))
comes deltas s actor (Some (Settling owed last)) e late (inr asked) = inl asked.1

-- what begins is work
next_work : (s : FlatState) (todo : List Todo) (e : Event) → IsWork todo → IsNext s todo e → is_work e ≡ true
next_work s [] e work p = absurd p
next_work s (Exactly next ∷ todo) e work p = ap is_work p ∙ work.0
next_work s (Leaves page ∷ todo) e work p = absurd work

pub begins_work : (deltas : List DeltaValue) (s : FlatState) (actor : Actor) (e : Event) → Begins deltas s actor e → is_work e ≡ true
begins_work deltas s (Hart h) e p =
    let w = some_and (slice_get s.harts h) _ p in
    next_work s (todo_by deltas s h w.0) e (work_by deltas s h w.0) w.2
begins_work deltas s Kernel e p = next_work s (done_about deltas s 0 p.request) e (work_done deltas s 0 p.request) p.next

-- an event that is made outside alone does not come in a call
outer_inner : (s : FlatState) (e : Event) → is_outer e ≡ true → (is_work e ≡ true) ⊎ ((is_late e ≡ true) ⊎ IsLeave s e) → ⊥
outer_inner s (Fetch pc word) o (inl work) = cc
outer_inner s (Look va width value) o (inl work) = cc
outer_inner s (Take page) o (inl work) = cc
outer_inner s (Put va width value) o (inl work) = cc
outer_inner s (Swap va width old new) o (inl work) = cc
outer_inner s (Miss va) o (inl work) = cc
outer_inner s (Wait on) o (inl work) = cc
outer_inner s Enter o (inl work) = cc
outer_inner s Idle o (inl work) = cc
outer_inner s (Fetch pc word) o (inr (inl late)) = cc
outer_inner s (Look va width value) o (inr (inl late)) = cc
outer_inner s (Take page) o (inr (inl late)) = cc
outer_inner s (Put va width value) o (inr (inl late)) = cc
outer_inner s (Swap va width old new) o (inr (inl late)) = cc
outer_inner s (Miss va) o (inr (inl late)) = cc
outer_inner s (Wait on) o (inr (inl late)) = cc
outer_inner s Enter o (inr (inl late)) = cc
outer_inner s Idle o (inr (inl late)) = cc
outer_inner s (Gone page worn) o (inr (inr leave)) = cc
outer_inner s (Ending page) o (inr (inr leave)) = cc
outer_inner s e o (inr (inr leave)) = leave
outer_inner s e o p = cc

outer_comes : (deltas : List DeltaValue) (s : FlatState) (actor : Actor) (e : Event) → is_outer e ≡ true → Comes deltas s actor e → ⊥
outer_comes deltas s actor e outer (inl begins) = outer_inner s e outer (inl (begins_work deltas s actor e begins))
outer_comes deltas s actor e outer (inr other) = outer_inner s e outer (inr other)

-- what a hart does outside it may do there, and what it does inside comes in a call
by_side : (b : Bool) (m : Moment) (actor : Actor) (e : Event) → IsLateCall m.call → MatchBool b (GoesOn m.deltas m.flat actor m.call e) (MayAct m.flat actor e)
    → ((b ≡ true) × Comes m.deltas m.flat actor e) ⊎ ((b ≡ false) × MayAct m.flat actor e)
by_side true m actor e late a = inl (refl, comes m.deltas m.flat actor m.call e late a)
by_side false m actor e late a = inr (refl, a)

abbrev pub Sides : Moment → Actor → Event → Type 0
Sides m actor e =
    ((is_inside m.flat.inside actor ≡ true) × Comes m.deltas m.flat actor e)
    ⊎ ((is_inside m.flat.inside actor ≡ false) × MayAct m.flat actor e)

pub hart_side : (m : Moment) (h : ℕ) (e : Event) → IsLateCall m.call → Allows m (Hart h) e → Sides m (Hart h) e
hart_side m h e late a = by_side (is_inside m.flat.inside (Hart h)) m (Hart h) e late a

pub kernel_side : (m : Moment) (e : Event) → IsLateCall m.call → Allows m Kernel e → (e ≡ Idle) ⊎ Sides m Kernel e
kernel_side m Idle late a = inl refl
kernel_side m e late a = inr (by_side (is_inside m.flat.inside Kernel) m Kernel e late a)

-- an event that is made outside alone
pub acts_outside : (m : Moment) (h : ℕ) (e : Event) → is_outer e ≡ true → IsLateCall m.call → Allows m (Hart h) e → MayAct m.flat (Hart h) e
acts_outside m h e outer late a = elim (hart_side m h e late a) [
  | inl inside ↦ absurd (outer_comes m.deltas m.flat (Hart h) e outer inside.1)
  | inr outside ↦ outside.1
]

pub is_outside : (m : Moment) (h : ℕ) (e : Event) → is_outer e ≡ true → IsLateCall m.call → Allows m (Hart h) e → is_inside m.flat.inside (Hart h) ≡ false
is_outside m h e outer late a = elim (hart_side m h e late a) [
  | inl inside ↦ absurd (outer_comes m.deltas m.flat (Hart h) e outer inside.1)
  | inr outside ↦ outside.0
]

-- outside, what is allowed is what a hart may do there
pub acts : (m : Moment) (h : ℕ) (e : Event) → is_inside m.flat.inside (Hart h) ≡ false → Allows m (Hart h) e → MayAct m.flat (Hart h) e
acts m h e outside a = subst (λ (b : Bool). MatchBool b (GoesOn m.deltas m.flat (Hart h) m.call e) (MayAct m.flat (Hart h) e)) outside a

-- the event is one that a call alone makes
abbrev pub is_inner : Event → Bool
is_inner (Sync generation page) = true
is_inner (Trap cause value) = true
is_inner (Exit code) = true
is_inner (Out byte) = true
is_inner (Map page n write patch) = true
is_inner (Going page n) = true
is_inner (Ending page) = true
is_inner (Gone page worn) = true
is_inner (Born generation parent patch) = true
is_inner (Move generation) = true
is_inner (Dead generation) = true
is_inner (Refused reason) = true
is_inner event = false

inner_hart : (s : FlatState) (h : ℕ) (e : Event) → is_inner e ≡ true → MayAct s (Hart h) e → ⊥
inner_hart s h (Sync generation page) i p = p
inner_hart s h (Trap cause value) i p = p
inner_hart s h (Exit code) i p = p
inner_hart s h (Out byte) i p = p
inner_hart s h (Map page n write patch) i p = p
inner_hart s h (Going page n) i p = p
inner_hart s h (Ending page) i p = p
inner_hart s h (Gone page worn) i p = p
inner_hart s h (Born generation parent patch) i p = p
inner_hart s h (Move generation) i p = p
inner_hart s h (Dead generation) i p = p
inner_hart s h (Refused reason) i p = p
inner_hart s h e i p = cc

inner_kernel : (s : FlatState) (e : Event) → is_inner e ≡ true → MayAct s Kernel e → ⊥
inner_kernel s Enter i p = cc
inner_kernel s (Wait on) i p = cc
inner_kernel s Idle i p = cc
inner_kernel s e i p = p

pub inner_comes : (m : Moment) (actor : Actor) (e : Event) → is_inner e ≡ true → IsLateCall m.call → Allows m actor e → (is_inside m.flat.inside actor ≡ true) × Comes m.deltas m.flat actor e
inner_comes m (Hart h) e inner late a = elim (hart_side m h e late a) [
  | inl inside ↦ inside
  | inr outside ↦ absurd (inner_hart m.flat h e inner outside.1)
]
inner_comes m Kernel e inner late a = elim (kernel_side m e late a) [
  | inl idle ↦ absurd (let no_call : is_inner e ≡ false = ap is_inner idle in cc)
  | inr side ↦ elim side [
    | inl inside ↦ inside
    | inr outside ↦ absurd (inner_kernel m.flat e inner outside.1)
  ]
]

-- what the kernel's own actor never does
pub kernel_acts : (m : Moment) (e : Event) → is_outer e ≡ true → IsLateCall m.call → Allows m Kernel e → (e ≡ Idle) ⊎ MayAct m.flat Kernel e
kernel_acts m e outer late a = elim (kernel_side m e late a) [
  | inl idle ↦ inl idle
  | inr side ↦ elim side [
    | inl inside ↦ absurd (outer_comes m.deltas m.flat Kernel e outer inside.1)
    | inr outside ↦ inr outside.1
  ]
]

-- a page is gone where it was free, and is Ending where it is held
pub gone_free : (m : Moment) (actor : Actor) (page : ℕ) (worn : Bool) → IsLateCall m.call → Allows m actor (Gone page worn) → IsSomeAnd (data_in m.flat.pages page) (λ (found : PageState). is_free found ≡ true)
gone_free m actor page worn late a = elim (inner_comes m actor (Gone page worn) refl late a).1 [
  | inl begins ↦ absurd (let work = begins_work m.deltas m.flat actor (Gone page worn) begins in cc)
  | inr behind ↦ elim behind [
    | inl is_behind ↦ absurd (cc)
    | inr leave ↦ leave
  ]
]

pub ending_held : (m : Moment) (actor : Actor) (page : ℕ) → IsLateCall m.call → Allows m actor (Ending page) → IsSomeAnd (data_in m.flat.pages page) (λ (found : PageState). is_free found ≡ false)
ending_held m actor page late a = elim (inner_comes m actor (Ending page) refl late a).1 [
  | inl begins ↦ absurd (let work = begins_work m.deltas m.flat actor (Ending page) begins in cc)
  | inr behind ↦ elim behind [
    | inl is_behind ↦ absurd (cc)
    | inr leave ↦ leave
  ]
]

-- what only begins a call begins one
pub first_begins : (m : Moment) (actor : Actor) (e : Event) → is_inner e ≡ true → is_late e ≡ false → (IsLeave m.flat e → ⊥) → IsLateCall m.call → Allows m actor e → Begins m.deltas m.flat actor e
first_begins m actor e inner early stays late a = elim (inner_comes m actor e inner late a).1 [
  | inl begins ↦ begins
  | inr behind ↦ elim behind [
    | inl is_behind ↦ absurd (cc)
    | inr leave ↦ absurd (stays leave)
  ]
]
