-- Units, entry by entry from the last to the first.
use Rattle.std.proofs.Common.{◌≡◌, ◌≢◌, ℕ, List, [], ◌∷◌, Option, Some, None, Bool, true, false, refl, sym, subst, ap, ◌∙◌, map, inr}
use Rattle.std.specs.Prelude.{MatchBool, slice_get}
use Rattle.std.specs.List.{AllByRecursion, filter}
use Rattle.wf_outside.specs.Images.{DeltaValue}
use Rattle.wf_flat.specs.declared.event.Actor.{Actor}
use Rattle.wf_flat.specs.declared.event.Actor.TheVariants.{Hart}
use Rattle.wf_flat.specs.declared.event.Event.{Event}
use Rattle.wf_flat.specs.declared.event.Event.TheVariants.{Enter}
use Rattle.wf_flat.specs.declared.event.Entry.{Entry}
use Rattle.wf_flat.specs.declared.state.Life.TheVariants.{Running}
use Rattle.wf_flat.specs.State.{FlatState, HartState, PageState}
use Rattle.wf_flat.specs.Accesses.{is_ending}
use Rattle.wf_flat.specs.Changes.{entered}
use Rattle.wf_flat.specs.Follows.{IsUnit, ends_unit}
use Rattle.wf_flat.specs.Steps.{Ask, MayAct, ask_of, is_inside}
use Rattle.wf_flat.proofs.ListLemmas.{and_some}
use Rattle.wf_verdict.specs.declared.work.Todo.{Todo}
use Rattle.wf_verdict.specs.declared.work.Todo.TheVariants.{Exactly}
use Rattle.wf_legal.specs.Calls.{GoesOn, IsNext, Settling, closes_hart_call, may_go, todo_by}
use Rattle.wf_legal.specs.Calls as calls
use Rattle.wf_legal.specs.Events.{flat_after}
use Rattle.wf_legal.specs.Legal.{Allows, IsLegal, Moment, after, at_rest, call_after, end_of}
use Rattle.wf_sound.specs.Laws.{JournalsKeepSound}
use Rattle.wf_sound.specs.Sound.{IsSound}
use Rattle.wf_service.specs.Calling.{entered_at}
use Rattle.wf_service.specs.Resting.{IsSettled}
use Rattle.wf_service.proofs.FirstLemmas.{Moves, allowed_inside, here}
use Rattle.wf_service.proofs.QuietLemmas.{IsFree, rest_of}
use Rattle.wf_units.specs.Units.{IsLegalUnit, entries_by}

-- from a moment these events of a hart are legal, are the rest of a unit, and lead to a state
pub record UnitFrom (deltas : List DeltaValue) (m : Moment) (h : ℕ) (events : List Event) (new : FlatState) : Type 0 where
  pub legal : IsLegal m (entries_by h events)
  pub reached : at_rest deltas new ≡ end_of m (entries_by h events)
  pub unit : IsUnit h (entries_by h events)

abbrev the_nil : List Entry
the_nil = []

-- one that ends it
pub unit_last : (deltas : List DeltaValue) (m : Moment) (h : ℕ) (e : Event) (new : FlatState) → Allows m (Hart h) e → ends_unit e ≡ true → after m (Hart h) e ≡ at_rest deltas new → UnitFrom deltas m h (e ∷ []) new
unit_last deltas m h e new allowed ends leads =
    record { legal = (allowed, tt); reached = sym leads; unit = (refl, subst (λ (b : Bool). MatchBool b (the_nil ≡ []) (IsUnit h the_nil)) (sym ends) refl) }

-- one more before
pub unit_more : (deltas : List DeltaValue) (m n : Moment) (h : ℕ) (e : Event) (events : List Event) (new : FlatState) → Allows m (Hart h) e → ends_unit e ≡ false → after m (Hart h) e ≡ n → UnitFrom deltas n h events new → UnitFrom deltas m h (e ∷ events) new
unit_more deltas m n h e events new allowed unended leads rest =
    record {
      legal = (allowed, subst (λ (m : Moment). IsLegal m (entries_by h events)) (sym leads) rest.legal);
      reached = rest.reached ∙ ap (λ (m : Moment). end_of m (entries_by h events)) (sym leads);
      unit = (refl, subst (λ (b : Bool). MatchBool b (entries_by h events ≡ []) (IsUnit h (entries_by h events))) (sym unended) rest.unit);
    }

-- a hart that may act outside is allowed to
pub outside_allowed : (deltas : List DeltaValue) (s : FlatState) (h : ℕ) (e : Event) → s.inside ≡ None → MayAct s (Hart h) e → Allows (at_rest deltas s) (Hart h) e
outside_allowed deltas s h e inside may =
    let m : Moment = at_rest deltas s in
    subst (λ (b : Bool). MatchBool b (GoesOn m.deltas m.flat (Hart h) m.call e) (MayAct m.flat (Hart h) e)) (sym (ap (λ (i : Option Actor). is_inside i (Hart h)) inside)) may

-- an event outside leaves no call open
abbrev pub StaysOutside : Event → Type 0
StaysOutside e = (deltas : List DeltaValue) (s : FlatState) (h : ℕ) → s.inside ≡ None → call_after (at_rest deltas s) (Hart h) e ≡ None

pub leads_outside : (deltas : List DeltaValue) (s mid : FlatState) (h : ℕ) (e : Event) → s.inside ≡ None → StaysOutside e → flat_after deltas s (Hart h) e ≡ mid → after (at_rest deltas s) (Hart h) e ≡ at_rest deltas mid
leads_outside deltas s mid h e inside stays changed =
    ap (λ (call : Option calls.Call). (let m : Moment = record { deltas = deltas; flat = flat_after deltas s (Hart h) e; call = call } in m)) (stays deltas s h inside) ∙ ap (at_rest deltas) changed

-- an event outside, before what is left
pub unit_outside : (deltas : List DeltaValue) (s mid : FlatState) (h : ℕ) (e : Event) (events : List Event) (new : FlatState) → s.inside ≡ None → MayAct s (Hart h) e → ends_unit e ≡ false → StaysOutside e → flat_after deltas s (Hart h) e ≡ mid
    → UnitFrom deltas (at_rest deltas mid) h events new → UnitFrom deltas (at_rest deltas s) h (e ∷ events) new
unit_outside deltas s mid h e events new inside may unended stays changed rest =
    unit_more deltas (at_rest deltas s) (at_rest deltas mid) h e events new (outside_allowed deltas s h e inside may) unended (leads_outside deltas s mid h e inside stays changed) rest

-- nothing is owed where no page is leaving
owes_none : (pages : List PageState) → AllByRecursion IsSettled pages → map (λ page. page.number) (filter may_go pages) ≡ []
owes_none [] all = refl
owes_none (page ∷ pages) all = rw all.0.0 (owes_none pages all.1)

-- a hart asks, and what is to do is this event, which ends its call
pub record Asks (deltas : List DeltaValue) (s : FlatState) (h : ℕ) (hart : HartState) (ask : Ask) (e : Event) (mid : FlatState) : Type 0 where
  pub inside : s.inside ≡ None
  pub free : AllByRecursion IsSettled s.pages
  pub there : slice_get s.harts h ≡ Some hart
  pub runs : hart.life ≡ Running
  pub asks : ask_of s h hart ≡ Some ask
  pub todo : todo_by deltas (entered s (Hart h)) h hart ≡ Exactly e ∷ []
  pub closes : closes_hart_call e ≡ true
  pub moves : Moves h e
  pub changed : flat_after deltas (entered s (Hart h)) (Hart h) e ≡ mid

pub enter_allowed : (deltas : List DeltaValue) (s : FlatState) (h : ℕ) (hart : HartState) (ask : Ask) (e : Event) (mid : FlatState) → Asks deltas s h hart ask e mid → Allows (at_rest deltas s) (Hart h) Enter
enter_allowed deltas s h hart ask e mid a =
    let some : ask_of s h hart ≢ None = λ none. (let k : Some ask ≡ None = sym a.asks ∙ none in cc) in
    outside_allowed deltas s h Enter a.inside (and_some (slice_get s.harts h) _ hart a.there (a.runs, (a.inside, some)))

pub enter_leads : (deltas : List DeltaValue) (s : FlatState) (h : ℕ) → AllByRecursion IsSettled s.pages → after (at_rest deltas s) (Hart h) Enter ≡ entered_at deltas (entered s (Hart h))
enter_leads deltas s h free = ap (λ (owed : List ℕ). (let m : Moment = record { deltas = deltas; flat = entered s (Hart h); call = Some (Settling owed None) } in m)) (owes_none s.pages free)

pub ask_allowed : (deltas : List DeltaValue) (s : FlatState) (h : ℕ) (hart : HartState) (ask : Ask) (e : Event) (mid : FlatState) → Asks deltas s h hart ask e mid → Allows (entered_at deltas (entered s (Hart h))) (Hart h) e
ask_allowed deltas s h hart ask e mid a =
    let t : FlatState = entered s (Hart h) in
    allowed_inside (entered_at deltas t) h e refl (inr (refl, and_some (slice_get t.harts h) (λ hart. IsNext t (todo_by deltas t h hart) e) hart a.there (subst (λ (l : List Todo). IsNext t l e) (sym a.todo) refl)))

pub ask_leads : (deltas : List DeltaValue) (s : FlatState) (h : ℕ) (hart : HartState) (ask : Ask) (e : Event) (mid : FlatState) → Asks deltas s h hart ask e mid → after (entered_at deltas (entered s (Hart h))) (Hart h) e ≡ at_rest deltas mid
ask_leads deltas s h hart ask e mid a =
    let t : FlatState = entered s (Hart h) in
    let m : Moment = entered_at deltas t in
    let within = here m h refl in
    let closes = a.closes in
    let none : call_after m (Hart h) e ≡ None = a.moves m ∙ rw (within, closes) refl in
    ap (λ (call : Option calls.Call). (let n : Moment = record { deltas = deltas; flat = flat_after deltas t (Hart h) e; call = call } in n)) none ∙ ap (at_rest deltas) a.changed

-- its Enter and that event, which ends the unit or not
pub unit_stopped : (deltas : List DeltaValue) (s : FlatState) (h : ℕ) (hart : HartState) (ask : Ask) (e : Event) (mid : FlatState) → Asks deltas s h hart ask e mid → ends_unit e ≡ true → UnitFrom deltas (at_rest deltas s) h (Enter ∷ e ∷ []) mid
unit_stopped deltas s h hart ask e mid a ends =
    unit_more deltas (at_rest deltas s) (entered_at deltas (entered s (Hart h))) h Enter (e ∷ []) mid (enter_allowed deltas s h hart ask e mid a) refl (enter_leads deltas s h a.free)
    (unit_last deltas (entered_at deltas (entered s (Hart h))) h e mid (ask_allowed deltas s h hart ask e mid a) ends (ask_leads deltas s h hart ask e mid a))

pub unit_asked : (deltas : List DeltaValue) (s : FlatState) (h : ℕ) (hart : HartState) (ask : Ask) (e : Event) (mid : FlatState) (events : List Event) (new : FlatState) → Asks deltas s h hart ask e mid → ends_unit e ≡ false → UnitFrom deltas (at_rest deltas mid) h events new
    → UnitFrom deltas (at_rest deltas s) h (Enter ∷ e ∷ events) new
unit_asked deltas s h hart ask e mid events new a unended rest =
    unit_more deltas (at_rest deltas s) (entered_at deltas (entered s (Hart h))) h Enter (e ∷ events) new (enter_allowed deltas s h hart ask e mid a) refl (enter_leads deltas s h a.free)
    (unit_more deltas (entered_at deltas (entered s (Hart h))) (at_rest deltas mid) h e events new (ask_allowed deltas s h hart ask e mid a) unended (ask_leads deltas s h hart ask e mid a) rest)

-- the whole unit: its end rests
pub unit_rests : (journals : JournalsKeepSound) (deltas : List DeltaValue) (s : FlatState) (h : ℕ) (events : List Event) (new : FlatState) → IsSound (at_rest deltas s) → UnitFrom deltas (at_rest deltas s) h events new
    → new.inside ≡ None → AllByRecursion IsFree new.harts → AllByRecursion (λ page. is_ending page.stage ≡ false) new.pages → IsLegalUnit deltas s h events new
unit_rests journals deltas s h events new sound u inside free stays =
    record {
      legal = u.legal;
      reached = u.reached;
      rests = rest_of deltas new (subst IsSound (sym u.reached) (journals (at_rest deltas s) (entries_by h events) sound u.legal)) inside free stays;
      unit = u.unit;
    }
