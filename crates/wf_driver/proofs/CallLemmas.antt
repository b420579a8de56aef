-- Calls of harts that are made: a call settles nothing, and its work follows its Enter at once.
use Rattle.std.proofs.Common.{◌≡◌, ◌≢◌, ◌++◌, ℕ, List, [], ◌∷◌, Option, Some, None, Bool, true, refl, sym, subst, ap, ◌∙◌, inr, append_assoc}
use Rattle.std.specs.Prelude.{MatchBool, slice_get, unwrap_or, if◌then◌else◌, map}
use Rattle.std.specs.Option.{option_map}
use Rattle.std.specs.List.{AllByRecursion, filter}
use Rattle.wf_outside.specs.Images.{DeltaValue}
use Rattle.wf_flat.specs.declared.event.Actor.{Actor}
use Rattle.wf_flat.specs.declared.event.Actor.TheVariants.{Hart}
use Rattle.wf_flat.specs.declared.event.Event.{Event}
use Rattle.wf_flat.specs.declared.event.Event.TheVariants.{Enter, Sync}
use Rattle.wf_flat.specs.declared.event.Entry.{Entry}
use Rattle.wf_flat.specs.State.{FlatState, HartState, PageState}
use Rattle.wf_flat.specs.Steps.{Ask, Called, Faulted, MayAct, OfHart, Stopped, ask_of, is_inside}
use Rattle.wf_flat.specs.Changes.{entered}
use Rattle.wf_flat.specs.Follows.{IsUnit, ends_unit}
use Rattle.wf_verdict.specs.declared.work.Todo.{Todo}
use Rattle.wf_verdict.specs.declared.work.Todo.TheVariants.{Exactly}
use Rattle.wf_legal.specs.Calls.{GoesOn, IsNext, Settling, call_behind, closes_hart_call, may_go, todo_by, todo_of}
use Rattle.wf_legal.specs.Events.{flat_after}
use Rattle.wf_legal.specs.Legal.{Moment, Allows, IsLegal, after, call_after, at_rest, end_of}
use Rattle.wf_service.specs.Calling.{entered_at}
use Rattle.wf_legal.proofs.JournalLemmas.{self_inside}
use Rattle.wf_driver.specs.Stepping.{IsActing, IsToDo, HasOpenUnit, Continues}
use Rattle.wf_flat.proofs.ListLemmas.{some_and, and_some}
use Rattle.wf_driver.proofs.StepLemmas.{IsOwned, allowed_outside, ends, entry, goes_on}

-- what a hart is to do that asks not by a call is the same whoever is inside
same_todo : (deltas : List DeltaValue) (s : FlatState) (o : Option Actor) (h : ℕ) (hart : HartState) → ask_of s h hart ≢ Some Called → todo_by deltas (record s { inside = o }) h hart ≡ todo_by deltas s h hart
same_todo deltas s o h hart none = by_ask (ask_of s h hart) none
  where
    by_ask : (ask : Option Ask) → ask ≢ Some Called → unwrap_or (option_map (λ (a : Ask). todo_of deltas (record s { inside = o }) hart a) ask) [] ≡ unwrap_or (option_map (λ (a : Ask). todo_of deltas s hart a) ask) []
    by_ask None n = refl
    by_ask (Some Called) n = absurd (n refl)
    by_ask (Some (Stopped cause value)) n = refl
    by_ask (Some (Faulted access)) n = refl

-- who has something to do asks for it
asks : (deltas : List DeltaValue) (s : FlatState) (h : ℕ) (hart : HartState) (first : Todo) (todo : List Todo) → todo_by deltas s h hart ≡ first ∷ todo → ask_of s h hart ≢ None
asks deltas s h hart first todo e none = let nothing : todo_by deltas s h hart ≡ [] = rw none refl in cc

-- where no page is Ending, none is owed
owes_none : (held : Option ℕ) (pages : List PageState) → AllByRecursion (IsOwned held) pages → map (λ page. page.number) (filter may_go pages) ≡ []
owes_none held [] all = refl
owes_none held (page ∷ pages) all = rw all.0.0 (owes_none held pages all.1)

-- a hart's call has begun, and owes nothing
call_begins : (deltas : List DeltaValue) (s : FlatState) (h : ℕ) (held : Option ℕ) → IsActing s h held → after (at_rest deltas s) (Hart h) Enter ≡ entered_at deltas (entered s (Hart h))
call_begins deltas s h held t =
    ap (λ (owed : List ℕ). (let m : Moment = record { deltas = deltas; flat = entered s (Hart h); call = Some (Settling owed None) } in m)) (owes_none held s.pages t.pages)

enters : (deltas : List DeltaValue) (s : FlatState) (h : ℕ) (hart : HartState) (first : Todo) (todo : List Todo) → s.inside ≡ None → slice_get s.harts h ≡ Some hart → IsToDo s h hart (first ∷ todo) → Allows (at_rest deltas s) (Hart h) Enter
enters deltas s h hart first todo rest is t = allowed_outside (at_rest deltas s) h Enter rest (and_some (slice_get s.harts h) _ hart is (t.0, (rest, asks deltas s h hart first todo (t.2 deltas))))

-- an event moves a call on as the definitions say, is no Enter, Gone or Fetch
pub record IsPlain (h : ℕ) (e : Event) : Type 0 where
  pub moves : (m : Moment) → call_after m (Hart h) e ≡ (if is_inside m.flat.inside (Hart h) then (if closes_hart_call e then None else call_behind m.deltas m.flat (Hart h) m.call e) else m.call)

-- inside, what the call goes on with is allowed
here : (m : Moment) (h : ℕ) → m.flat.inside ≡ Some (Hart h) → is_inside m.flat.inside (Hart h) ≡ true
here m h inside = ap (λ (i : Option Actor). is_inside i (Hart h)) inside ∙ self_inside h

allowed_inside : (m : Moment) (h : ℕ) (e : Event) → m.flat.inside ≡ Some (Hart h) → GoesOn m.deltas m.flat (Hart h) m.call e → Allows m (Hart h) e
allowed_inside m h e inside goes = subst (λ (b : Bool). MatchBool b (GoesOn m.deltas m.flat (Hart h) m.call e) (MayAct m.flat (Hart h) e)) (sym (here m h inside)) goes

call_closed : (m : Moment) (h : ℕ) (e : Event) → IsPlain h e → closes_hart_call e ≡ true → m.flat.inside ≡ Some (Hart h) → call_after m (Hart h) e ≡ None
call_closed m h e plain closes inside = let is = here m h inside in plain.moves m ∙ rw (is, closes) refl

-- the first thing to do in a call that has begun
first_allowed : (deltas : List DeltaValue) (s : FlatState) (h : ℕ) (hart : HartState) (e : Event) (todo : List Todo) → slice_get s.harts h ≡ Some hart → IsToDo s h hart (Exactly e ∷ todo) → Allows (entered_at deltas (entered s (Hart h))) (Hart h) e
first_allowed deltas s h hart e todo is t =
    let next : IsNext (entered s (Hart h)) (todo_by deltas (entered s (Hart h)) h hart) e
    = subst (λ (l : List Todo). IsNext (entered s (Hart h)) l e) (sym (same_todo deltas s (Some (Hart h)) h hart t.1 ∙ t.2 deltas)) refl in
    allowed_inside (entered_at deltas (entered s (Hart h))) h e refl (inr (refl, and_some (slice_get s.harts h) (λ (hart : HartState). IsNext (entered s (Hart h)) (todo_by deltas (entered s (Hart h)) h hart) e) hart is next))

-- the entries of a call of one thing are legal, and lead to where no call is open
call_legal : (deltas : List DeltaValue) (mid : FlatState) (h : ℕ) (last : Event) → IsActing mid h None → OfHart mid h (λ hart. IsToDo mid h hart (Exactly last ∷ []))
    → IsLegal (at_rest deltas mid) (entry h Enter ∷ entry h last ∷ [])
call_legal deltas mid h last t ready =
    let w = some_and (slice_get mid.harts h) _ ready in
    let begun : after (at_rest deltas mid) (Hart h) Enter ≡ entered_at deltas (entered mid (Hart h)) = call_begins deltas mid h None t in
    (enters deltas mid h w.0 (Exactly last) [] t.no_one w.1 w.2, subst (λ (m : Moment). IsLegal m (entry h last ∷ [])) (sym begun) (first_allowed deltas mid h w.0 last [] w.1 w.2, tt))

call_reaches : (deltas : List DeltaValue) (mid new : FlatState) (h : ℕ) (last : Event) → IsActing mid h None → IsPlain h last → closes_hart_call last ≡ true
    → new ≡ flat_after deltas (flat_after deltas mid (Hart h) Enter) (Hart h) last → at_rest deltas new ≡ end_of (at_rest deltas mid) (entry h Enter ∷ entry h last ∷ [])
call_reaches deltas mid new h last t plain closes n =
    let begun : after (at_rest deltas mid) (Hart h) Enter ≡ entered_at deltas (entered mid (Hart h)) = call_begins deltas mid h None t in
    let closed : call_after (entered_at deltas (entered mid (Hart h))) (Hart h) last ≡ None = call_closed (entered_at deltas (entered mid (Hart h))) h last plain closes refl in
    let none : at_rest deltas new ≡ after (entered_at deltas (entered mid (Hart h))) (Hart h) last = rw (n, closed) refl in
    none ∙ ap (λ (m : Moment). after m (Hart h) last) (sym begun)

-- a call of one thing
pub call_made : (start : Moment) (mid new : FlatState) (before now behind : List Entry) (h : ℕ) (last : Event) → HasOpenUnit start before mid now h → IsActing mid h None → OfHart mid h (λ hart. IsToDo mid h hart (Exactly last ∷ []))
    → IsPlain h last → closes_hart_call last ≡ true → ends_unit last ≡ true
    → new ≡ flat_after start.deltas (flat_after start.deltas mid (Hart h) Enter) (Hart h) last → behind ≡ (now ++ entry h Enter ∷ []) ++ entry h last ∷ [] → Continues start before new behind (IsUnit h)
call_made start mid new before now behind h last b t ready plain closes unit n e =
    ends start mid new before now behind h (entry h Enter ∷ entry h last ∷ []) b (call_legal start.deltas mid h last t ready) (call_reaches start.deltas mid new h last t plain closes n)
    (refl, (refl, subst (λ (x : Bool). MatchBool x (the_nil ≡ []) (IsUnit h the_nil)) (sym unit) refl)) (e ∙ append_assoc now (entry h Enter ∷ []) (entry h last ∷ []))
  where
    the_nil : List Entry
    the_nil = []

-- a call that ends no unit: a page is met
pub sync_made : (start : Moment) (mid new : FlatState) (before now behind : List Entry) (h generation page : ℕ) → HasOpenUnit start before mid now h → IsActing mid h None
    → OfHart mid h (λ hart. IsToDo mid h hart (Exactly (Sync generation page) ∷ []))
    → new ≡ flat_after [] (flat_after [] mid (Hart h) Enter) (Hart h) (Sync generation page) → behind ≡ (now ++ entry h Enter ∷ []) ++ entry h (Sync generation page) ∷ [] → HasOpenUnit start before new behind h
sync_made start mid new before now behind h generation page b t ready n e =
    let last : Event = Sync generation page in
    goes_on start mid new before now behind h (entry h Enter ∷ entry h last ∷ []) b (call_legal start.deltas mid h last t ready) (call_reaches start.deltas mid new h last t (record { moves = λ m. refl }) refl n)
    ((refl, refl), ((refl, refl), tt)) (e ∙ append_assoc now (entry h Enter ∷ []) (entry h last ∷ []))
