-- Each entry that is allowed keeps the invariant.
use Rattle.std.proofs.Common.{◌≡◌, ◌≢◌, ◌≤◌, ◌++◌, ◌⊎◌, ℕ, List, [], ◌∷◌, Bool, true, false, Option, Some, None, map, refl, sym, ap, subst, inl, inr, arith}
use Rattle.std.specs.Prelude.{slice_get, IfSome, MatchBool}
use Rattle.std.specs.List.{AllByRecursion, filter}
use Rattle.std.proofs.lemmas.Bool.Decides.{nat_tests}
use Rattle.wf_outside.specs.declared.refusal.Refusal.{Refusal}
use Rattle.wf_outside.specs.Images.{DeltaValue}
use Rattle.wf_outside.specs.Lists.{IsRising}
use Rattle.wf_flat.specs.declared.event.Actor.{Actor}
use Rattle.wf_flat.specs.declared.event.Actor.TheVariants.{Hart, Kernel}
use Rattle.wf_flat.specs.declared.event.Event.{Event}
use Rattle.wf_flat.specs.declared.event.Event.TheVariants.{End, Wait, Enter, Idle, Ending, Gone, Born}
use Rattle.wf_flat.specs.declared.event.Entry.{Entry}
use Rattle.wf_flat.specs.declared.event.WaitFor.{WaitFor}
use Rattle.wf_flat.specs.declared.state.Life.TheVariants.{Running}
use Rattle.wf_flat.specs.State.{FlatState, PageState}
use Rattle.wf_flat.specs.Memory.{data_in}
use Rattle.wf_flat.specs.Accesses.{holder_is}
use Rattle.wf_flat.specs.Steps.{MayAct, OfHart, is_inside, is_same}
use Rattle.wf_flat.specs.Changes.{entered}
use Rattle.wf_flat.proofs.ListLemmas.{and_some, some_and}
use Rattle.wf_effects.proofs.OrderLemmas.{rising_kept}
use Rattle.wf_verdict.specs.declared.requests.Request.{Request}
use Rattle.wf_verdict.specs.declared.requests.Request.TheVariants.{Exits, PutsByte, Maps, Unmaps, TellsGeneration, Migrates, Quiesces, Deletes, Clones, Patches, NoCall}
use Rattle.wf_effects.specs.declared.ranges.PageRun.{PageRun}
use Rattle.wf_effects.specs.Ranges.{runs_of}
use Rattle.wf_verdict.specs.declared.work.Todo.{Todo}
use Rattle.wf_verdict.specs.declared.work.Todo.TheVariants.{Exactly, Leaves}
use Rattle.wf_verdict.specs.Requests.{IsKernelRequest}
use Rattle.wf_verdict.specs.Verdict.{delta_at, refusal_of}
use Rattle.wf_verdict.specs.Work.{done_about, map_of, refused_or}
use Rattle.wf_legal.specs.Calls.{Begins, Call, Doing, GoesOn, IsLeaving, IsNext, Settles, Settling, may_go, owed_by}
use Rattle.wf_legal.specs.Events.{flat_after}
use Rattle.wf_legal.specs.Legal.{Allows, IsLegal, Moment, after, call_after, end_of}
use Rattle.wf_sound.specs.Sound.{HasHolder, HasNoneGoing, IsDelta, IsHartWork, IsHolder, IsInHand, IsOwed, IsSettling, IsSound, IsSoundState}
use Rattle.wf_sound.proofs.AllLemmas.{all_both, all_filter, all_map, all_more, all_named}
use Rattle.wf_sound.proofs.EventLemmas.{outside_keeps}
use Rattle.wf_sound.proofs.HartLemmas.{stepped_same}
use Rattle.wf_sound.proofs.HolderLemmas.{asks_not, holds_none}
use Rattle.wf_sound.proofs.OwnerLemmas.{kernel_begins, kernel_goes_on}
use Rattle.wf_sound.proofs.RequestLemmas.{hart_begins, hart_enters_not}
use Rattle.wf_sound.proofs.StateLemmas.{IsPageAfter, page_same, paired_same, state_after}
use Rattle.wf_sound.proofs.WorkLemmas.{IsSoundWith, hart_goes_on, next_call, settles_gone}
use Rattle.wf_sound.proofs.HandLemmas.{calls_only}

-- what an actor owes at its Enter
settling_first : (s : FlatState) (actor : Actor) → IsRising (map (λ (page : PageState). page.number) s.pages) → HasNoneGoing s → IsSettling (entered s actor) (owed_by s) None
settling_first s actor up none = record {
  rising = rising_kept (λ (page : PageState). page.number) may_go s.pages up;
  each = all_map (λ page. IsOwed (entered s actor) None page.number) (IsOwed (entered s actor) None) (λ (page : PageState). page.number) (λ page owes. owes) (filter may_go s.pages)
      (all_filter may_go (λ page. data_in s.pages page.number ≡ Some page) (λ page. IsOwed (entered s actor) None page.number)
      (λ page goes found. (refl, and_some (data_in s.pages page.number) (λ page. may_go page ≡ true) page found goes)) s.pages (all_named (λ (page : PageState). page.number) s.pages up));
  none_going = none;
}

-- an actor that holds no page comes to be inside
entered_sound : (deltas : List DeltaValue) (s : FlatState) (actor : Actor) → AllByRecursion (λ page. (o : ℕ) → holder_is page.holder o ≡ true → is_inside (Some actor) (Hart o) ≡ false) s.pages → IsSoundState deltas s → IsSoundState deltas (entered s actor)
entered_sound deltas s actor apart sound =
    let t : FlatState = entered s actor in
    let paired = paired_same (IsPageAfter s t 0) s.pages (all_both (HasHolder s) (λ page. (o : ℕ) → holder_is page.holder o ≡ true → is_inside (Some actor) (Hart o) ≡ false) (λ page. IsPageAfter s t 0 page page)
    (λ page held out. page_same s t 0 page (λ was. still page page.holder out was)) s.pages sound.held apart) in
    state_after s s.pages s.harts (Some actor) 0 (λ x. x) paired deltas (stepped_same s.harts 0) (λ x known is. record {
      generation = is.generation;
      live = is.live;
      registers = is.registers;
      zero_register = is.zero_register;
      reservation = is.reservation;
      written = is.written;
    }) sound
  where
    still : (page : PageState) (o : Option ℕ) → ((k : ℕ) → holder_is o k ≡ true → is_inside (Some actor) (Hart k) ≡ false) → IfSome o (λ k. OfHart s k (IsHolder s k page.number)) → IfSome o (λ k. OfHart (entered s actor) k (IsHolder (entered s actor) k page.number))
    still page None out was = tt
    still page (Some k) out was =
        let w = some_and (slice_get s.harts k) (IsHolder s k page.number) was in
        let self : holder_is (Some k) k ≡ true = grind (arith, nat_tests) in
        and_some (slice_get s.harts k) (IsHolder (entered s actor) k page.number) w.0 w.1 (record { runs = w.2.runs; outside = out k self; access = w.2.access })

no_call : (deltas : List DeltaValue) (s : FlatState) (call : Option Call) → IsInHand deltas s None call → HasNoneGoing s
no_call deltas s None in_hand = in_hand
no_call deltas s (Some call) in_hand = absurd in_hand

calm : (deltas : List DeltaValue) (s : FlatState) (call : Option Call) → s.inside ≡ None → IsInHand deltas s s.inside call → HasNoneGoing s
calm deltas s call nobody in_hand = no_call deltas s call (subst (λ (o : Option Actor). IsInHand deltas s o call) nobody in_hand)

other_holder : (o : Option ℕ) (h k : ℕ) → holder_is o h ≡ false → holder_is o k ≡ true → is_inside (Some (Hart h)) (Hart k) ≡ false
other_holder None h k e f = absurd cc
other_holder (Some o) h k e f = grind (arith, nat_tests)

-- a hart that asks enters
hart_enters : (deltas : List DeltaValue) (s : FlatState) (h : ℕ) (call : Option Call) → IsSoundState deltas s → IsInHand deltas s s.inside call → MayAct s (Hart h) Enter → IsSoundWith deltas (entered s (Hart h)) (Some (Settling (owed_by s) None))
hart_enters deltas s h call sound in_hand may =
    let w = some_and (slice_get s.harts h) _ may in
    let none = holds_none s h w.0 sound.ordered sound.held w.1 (asks_not s h w.0 w.2.1.1) in
    record {
      state = entered_sound deltas s (Hart h) (all_more (λ page. holder_is page.holder h ≡ false) (λ page. (o : ℕ) → holder_is page.holder o ≡ true → is_inside (Some (Hart h)) (Hart o) ≡ false)
          (λ page not o holds. other_holder page.holder h o not holds) s.pages none) sound;
      hand = and_some (slice_get s.harts h) (λ hart. (hart.life ≡ Running) × IsSettling (entered s (Hart h)) (owed_by s) None) w.0 w.1
          (w.2.0, settling_first s (Hart h) sound.ordered.pages (calm deltas s call w.2.1.0 in_hand));
    }

-- the kernel's own actor enters
kernel_enters : (deltas : List DeltaValue) (s : FlatState) (call : Option Call) → IsSoundState deltas s → IsInHand deltas s s.inside call → s.inside ≡ None → IsSoundWith deltas (entered s Kernel) (Some (Settling (owed_by s) None))
kernel_enters deltas s call sound in_hand nobody = record {
  state = entered_sound deltas s Kernel (all_more (HasHolder s) (λ page. (o : ℕ) → holder_is page.holder o ≡ true → is_inside (Some Kernel) (Hart o) ≡ false) (λ page held o holds. refl) s.pages sound.held) sound;
  hand = settling_first s Kernel sound.ordered.pages (calm deltas s call nobody in_hand);
}

same_actor : (one other : Actor) → is_same one other ≡ true → one ≡ other
same_actor (Hart h) (Hart k) e = let same : h ≡ k = grind (arith, nat_tests) in rw same refl
same_actor (Hart h) Kernel e = absurd cc
same_actor Kernel (Hart k) e = absurd cc
same_actor Kernel Kernel e = refl

pub who_inside : (o : Option Actor) (actor : Actor) → is_inside o actor ≡ true → o ≡ Some actor
who_inside None actor e = absurd cc
who_inside (Some one) actor e = ap Some (same_actor one actor e)

module _ (deltas : List DeltaValue) (s : FlatState) (are : AllByRecursion IsDelta deltas) (sound : IsSoundState deltas s) where
  gone_by : (actor : Actor) (owed : List ℕ) (last : Option ℕ) (event : Event) → s.inside ≡ Some actor → IsInHand deltas s (Some actor) (Some (Settling owed last)) → Settles s owed last event
      → IsSoundWith deltas (flat_after deltas s actor event) (next_call deltas s actor (Some (Settling owed last)) event)
  gone_by (Hart h) owed last event inside in_hand goes = elim goes.is [
    | inl e ↦ subst (λ (x : Event). IsSoundWith deltas (flat_after deltas s (Hart h) x) (next_call deltas s (Hart h) (Some (Settling owed last)) x)) (sym e) (settles_gone deltas s (Hart h) owed last goes.page false sound inside in_hand goes.may goes.first)
    | inr e ↦ subst (λ (x : Event). IsSoundWith deltas (flat_after deltas s (Hart h) x) (next_call deltas s (Hart h) (Some (Settling owed last)) x)) (sym e.0) (settles_gone deltas s (Hart h) owed last goes.page true sound inside in_hand goes.may goes.first)
  ]
  gone_by Kernel owed last event inside in_hand goes = elim goes.is [
    | inl e ↦ subst (λ (x : Event). IsSoundWith deltas (flat_after deltas s Kernel x) (next_call deltas s Kernel (Some (Settling owed last)) x)) (sym e) (settles_gone deltas s Kernel owed last goes.page false sound inside in_hand goes.may goes.first)
    | inr e ↦ subst (λ (x : Event). IsSoundWith deltas (flat_after deltas s Kernel x) (next_call deltas s Kernel (Some (Settling owed last)) x)) (sym e.0) (settles_gone deltas s Kernel owed last goes.page true sound inside in_hand goes.may goes.first)
  ]

  begins_by : (actor : Actor) (owed : List ℕ) (last : Option ℕ) (event : Event) → s.inside ≡ Some actor → IsInHand deltas s (Some actor) (Some (Settling owed last)) → Begins deltas s actor event
      → IsSoundWith deltas (flat_after deltas s actor event) (next_call deltas s actor (Some (Settling owed last)) event)
  begins_by (Hart h) owed last event inside in_hand begins =
      let w = some_and (slice_get s.harts h) (λ hart. (hart.life ≡ Running) × IsSettling s owed last) in_hand in
      hart_begins deltas s h w.0 w.1 w.2.0 sound inside w.2.1.none_going owed last event begins
  begins_by Kernel owed last event inside in_hand begins = kernel_begins deltas s are sound inside in_hand.none_going owed last event begins

  -- an actor's call goes on
  goes_well : (actor : Actor) (call : Option Call) (event : Event) → s.inside ≡ Some actor → IsInHand deltas s (Some actor) call → GoesOn deltas s actor call event → IsSoundWith deltas (flat_after deltas s actor event) (next_call deltas s actor call event)
  goes_well actor None event inside in_hand goes = absurd goes
  goes_well (Hart h) (Some (Doing todo)) event inside in_hand goes = let w = calls_only s h (IsHartWork s todo) in_hand in hart_goes_on deltas s h sound inside w.0 todo event w.1 goes
  goes_well Kernel (Some (Doing todo)) event inside in_hand goes = kernel_goes_on deltas s are sound inside todo event in_hand goes
  goes_well actor (Some (Settling owed last)) event inside in_hand goes = elim goes [
    | inl settles ↦ gone_by actor owed last event inside in_hand settles
    | inr begins ↦ begins_by actor owed last event inside in_hand begins.1
  ]

  work_not : (pages : List ℕ) (next : ℕ) → IsNext s (map Leaves pages ++ Exactly (End next) ∷ []) Enter → ⊥
  work_not [] next is = cc
  work_not (n ∷ ns) next is = leaves_not (data_in s.pages n) is
    where
      by_free : (b : Bool) → MatchBool b ((Enter ≡ Gone n false) ⊎ ((Enter ≡ Gone n true) × (s.limits.last_birth ≤ s.births))) (Enter ≡ Ending n) → ⊥
      by_free true is = elim is [ inl e ↦ cc | inr e ↦ (let k : Enter ≡ Gone n true = e.0 in cc) ]
      by_free false is = cc

      leaves_not : (o : Option PageState) → IsLeaving s n o Enter → ⊥
      leaves_not None is = is
      leaves_not (Some page) is = by_free _ is

  maps_not : (patch : ℕ) (runs : List PageRun) (parent g : ℕ) → IsNext s (map (map_of patch) runs ++ Exactly (Born g parent (Some patch)) ∷ []) Enter → ⊥
  maps_not patch [] parent g is = cc
  maps_not patch (run ∷ runs) parent g is = cc

  refused_not : (o : Option Refusal) (work : List Todo) → (IsNext s work Enter → ⊥) → IsNext s (refused_or o work) Enter → ⊥
  refused_not None work none is = none is
  refused_not (Some reason) work none is = cc

  request_not : (request : Request) → IsKernelRequest deltas request → IsNext s (done_about deltas s 0 request) Enter → ⊥
  request_not (Clones generation) may is = refused_not (refusal_of deltas s 0 (Clones generation)) _ (λ e. cc) is
  request_not (Deletes generation) may is = refused_not (refusal_of deltas s 0 (Deletes generation)) _ (λ e. cc) is
  request_not (Patches patch) may is = refused_not (refusal_of deltas s 0 (Patches patch)) _ (λ e. maps_not patch (runs_of (delta_at deltas patch).shared) _ _ e) is
  request_not (Exits code) may is = may
  request_not (PutsByte byte) may is = may
  request_not (Maps va pages right) may is = may
  request_not (Unmaps va pages) may is = may
  request_not TellsGeneration may is = may
  request_not (Migrates generation) may is = may
  request_not Quiesces may is = may
  request_not (NoCall number) may is = may

  begins_not : (actor : Actor) (owed : List ℕ) (last : Option ℕ) → s.inside ≡ Some actor → IsInHand deltas s (Some actor) (Some (Settling owed last)) → Begins deltas s actor Enter → ⊥
  begins_not (Hart h) owed last inside in_hand begins =
      let w = some_and (slice_get s.harts h) (λ hart. (hart.life ≡ Running) × IsSettling s owed last) in_hand in
      hart_enters_not deltas s h w.0 w.1 w.2.0 sound inside w.2.1.none_going begins
  begins_not Kernel owed last inside in_hand begins = request_not begins.request begins.may begins.next

  -- and never with an Enter
  enters_not : (actor : Actor) (call : Option Call) → s.inside ≡ Some actor → IsInHand deltas s (Some actor) call → GoesOn deltas s actor call Enter → ⊥
  enters_not actor None inside in_hand goes = goes
  enters_not (Hart h) (Some (Doing todo)) inside in_hand goes = let w = calls_only s h (IsHartWork s todo) in_hand in work_not w.1.pages w.1.next (subst (λ (todo : List Todo). IsNext s todo Enter) w.1.is goes)
  enters_not Kernel (Some (Doing todo)) inside in_hand goes = maps_not in_hand.patch in_hand.runs in_hand.parent _ (subst (λ (todo : List Todo). IsNext s todo Enter) in_hand.is goes)
  enters_not actor (Some (Settling owed last)) inside in_hand goes = elim goes [
    | inl settles ↦ (elim settles.is [ inl e ↦ absurd (no_gone settles.page false e) | inr e ↦ absurd (no_gone settles.page true e.0) ])
    | inr begins ↦ begins_not actor owed last inside in_hand begins.1
  ]
    where
      no_gone : (page : ℕ) (worn : Bool) → Enter ≡ Gone page worn → ⊥
      no_gone page worn e = cc

-- what is in hand behind an event of the actor inside, and of another
hart_call : (m : Moment) (h : ℕ) (event : Event) → event ≢ Enter → is_inside m.flat.inside (Hart h) ≡ true → call_after m (Hart h) event ≡ next_call m.deltas m.flat (Hart h) m.call event
hart_call m h Enter not_enter e = absurd (not_enter refl)
hart_call m h event not_enter e = rw e refl

other_call : (m : Moment) (h : ℕ) (event : Event) → event ≢ Enter → is_inside m.flat.inside (Hart h) ≡ false → call_after m (Hart h) event ≡ m.call
other_call m h Enter not_enter e = absurd (not_enter refl)
other_call m h event not_enter e = rw e refl

kernel_call : (m : Moment) (event : Event) → event ≢ Enter → event ≢ Idle → is_inside m.flat.inside Kernel ≡ true → call_after m Kernel event ≡ next_call m.deltas m.flat Kernel m.call event
kernel_call m Enter not_enter not_idle e = absurd (not_enter refl)
kernel_call m Idle not_enter not_idle e = absurd (not_idle refl)
kernel_call m event not_enter not_idle e = rw e refl

sound_after : (m : Moment) (actor : Actor) (event : Event) (call : Option Call) → IsSound m → call_after m actor event ≡ call → IsSoundWith m.deltas (flat_after m.deltas m.flat actor event) call → IsSound (after m actor event)
sound_after m actor event call sound e is = record {
  few_deltas = sound.few_deltas;
  deltas = sound.deltas;
  state = is.state;
  call = subst (λ (c : Option Call). IsInHand m.deltas (flat_after m.deltas m.flat actor event) (flat_after m.deltas m.flat actor event).inside c) (sym e) is.hand;
}

goes_of : (m : Moment) (actor : Actor) (event : Event) → IsSound m → is_inside m.flat.inside actor ≡ true → GoesOn m.deltas m.flat actor m.call event → IsSoundWith m.deltas (flat_after m.deltas m.flat actor event) (next_call m.deltas m.flat actor m.call event)
goes_of m actor event sound e goes =
    let inside : m.flat.inside ≡ Some actor = who_inside m.flat.inside actor e in
    goes_well m.deltas m.flat sound.deltas sound.state actor m.call event inside (subst (λ (o : Option Actor). IsInHand m.deltas m.flat o m.call) inside sound.call) goes

never_enters : (m : Moment) (actor : Actor) → IsSound m → is_inside m.flat.inside actor ≡ true → GoesOn m.deltas m.flat actor m.call Enter → ⊥
never_enters m actor sound e goes =
    let inside : m.flat.inside ≡ Some actor = who_inside m.flat.inside actor e in
    enters_not m.deltas m.flat sound.deltas sound.state actor m.call inside (subst (λ (o : Option Actor). IsInHand m.deltas m.flat o m.call) inside sound.call) goes

hart_entry : (m : Moment) (h : ℕ) (event : Event) (b : Bool) → event ≢ Enter → is_inside m.flat.inside (Hart h) ≡ b → IsSound m → MatchBool b (GoesOn m.deltas m.flat (Hart h) m.call event) (MayAct m.flat (Hart h) event) → IsSound (after m (Hart h) event)
hart_entry m h event true not_enter e sound goes = sound_after m (Hart h) event (next_call m.deltas m.flat (Hart h) m.call event) sound (hart_call m h event not_enter e) (goes_of m (Hart h) event sound e goes)
hart_entry m h event false not_enter e sound may =
    let kept = outside_keeps m.deltas m.flat h event not_enter sound.state e may in
    let t : FlatState = flat_after m.deltas m.flat (Hart h) event in
    sound_after m (Hart h) event m.call sound (other_call m h event not_enter e)
    (record { state = kept.state; hand = subst (λ (o : Option Actor). IsInHand m.deltas t o m.call) (sym kept.inside) (kept.hand m.call sound.call) })

hart_enter : (m : Moment) (h : ℕ) (b : Bool) → is_inside m.flat.inside (Hart h) ≡ b → IsSound m → MatchBool b (GoesOn m.deltas m.flat (Hart h) m.call Enter) (MayAct m.flat (Hart h) Enter) → IsSound (after m (Hart h) Enter)
hart_enter m h true e sound goes = absurd (never_enters m (Hart h) sound e goes)
hart_enter m h false e sound may = sound_after m (Hart h) Enter (Some (Settling (owed_by m.flat) None)) sound refl (hart_enters m.deltas m.flat h m.call sound.state sound.call may)

kernel_entry : (m : Moment) (event : Event) (b : Bool) → event ≢ Enter → event ≢ Idle → (MayAct m.flat Kernel event → ⊥) → is_inside m.flat.inside Kernel ≡ b → IsSound m → MatchBool b (GoesOn m.deltas m.flat Kernel m.call event) (MayAct m.flat Kernel event) → IsSound (after m Kernel event)
kernel_entry m event true not_enter not_idle never e sound goes = sound_after m Kernel event (next_call m.deltas m.flat Kernel m.call event) sound (kernel_call m event not_enter not_idle e) (goes_of m Kernel event sound e goes)
kernel_entry m event false not_enter not_idle never e sound may = absurd (never may)

kernel_enter : (m : Moment) (b : Bool) → is_inside m.flat.inside Kernel ≡ b → IsSound m → MatchBool b (GoesOn m.deltas m.flat Kernel m.call Enter) (MayAct m.flat Kernel Enter) → IsSound (after m Kernel Enter)
kernel_enter m true e sound goes = absurd (never_enters m Kernel sound e goes)
kernel_enter m false e sound may = sound_after m Kernel Enter (Some (Settling (owed_by m.flat) None)) sound refl (kernel_enters m.deltas m.flat m.call sound.state sound.call may)

kernel_wait : (m : Moment) (on : WaitFor) (b : Bool) → is_inside m.flat.inside Kernel ≡ b → IsSound m → MatchBool b (GoesOn m.deltas m.flat Kernel m.call (Wait on)) (MayAct m.flat Kernel (Wait on)) → IsSound (after m Kernel (Wait on))
kernel_wait m on true e sound goes = sound_after m Kernel (Wait on) (next_call m.deltas m.flat Kernel m.call (Wait on)) sound (rw e refl) (goes_of m Kernel (Wait on) sound e goes)
kernel_wait m on false e sound may = sound_after m Kernel (Wait on) m.call sound (rw e refl) (record { state = sound.state; hand = sound.call })

-- an entry that is allowed keeps the invariant
pub entry_keeps : (m : Moment) (actor : Actor) (event : Event) → IsSound m → Allows m actor event → IsSound (after m actor event)
entry_keeps m (Hart h) Enter sound allowed = hart_enter m h (is_inside m.flat.inside (Hart h)) refl sound allowed
entry_keeps m (Hart h) event sound allowed = hart_entry m h event (is_inside m.flat.inside (Hart h)) (λ e. cc) refl sound allowed
entry_keeps m Kernel Idle sound allowed = record { few_deltas = sound.few_deltas; deltas = sound.deltas; state = sound.state; call = sound.call }
entry_keeps m Kernel Enter sound allowed = kernel_enter m (is_inside m.flat.inside Kernel) refl sound allowed
entry_keeps m Kernel (Wait on) sound allowed = kernel_wait m on (is_inside m.flat.inside Kernel) refl sound allowed
entry_keeps m Kernel event sound allowed = kernel_entry m event (is_inside m.flat.inside Kernel) (λ e. cc) (λ e. cc) (λ may. may) refl sound allowed

-- so does a legal journal
pub journal_keeps : (m : Moment) (entries : List Entry) → IsSound m → IsLegal m entries → IsSound (end_of m entries)
journal_keeps m [] sound legal = sound
journal_keeps m (entry ∷ entries) sound legal = journal_keeps (after m entry.actor entry.event) entries (entry_keeps m entry.actor entry.event sound legal.0) legal.1
