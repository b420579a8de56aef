-- Between a load-reserved and the store-conditional that writes for it, nobody writes in their page.
use Rattle.std.proofs.Common.{◌≡◌, ◌≢◌, ◌≤◌, ◌<◌, ◌⊎◌, inl, inr, ℕ, zero, suc, ◌+◌, List, [], ◌∷◌, ◌++◌, append_assoc, Option, Some, None, Bool, true, false, ◌&&◌, ◌==◌, refl, sym, subst, ap, arith}
use Rattle.std.specs.Prelude.{IsSomeAnd, nat_lt, slice_get, if◌then◌else◌, is_some}
use Rattle.std.specs.Option.{option_map, IfSome}
use Rattle.std.specs.List.{AllByRecursion}
use Rattle.std.proofs.lemmas.Bool.{and_parts, cases_eq}
use Rattle.std.proofs.lemmas.Bool.Decides.{nat_tests}
use Rattle.std.proofs.lemmas.Option.{IfSome_then}
use Rattle.wf_outside.specs.Images.{DeltaValue}
use Rattle.wf_outside.specs.Pages.{page_of}
use Rattle.wf_flat.specs.declared.event.Actor.{Actor}
use Rattle.wf_flat.specs.declared.event.Actor.TheVariants.{Hart, Kernel}
use Rattle.wf_flat.specs.declared.event.Event.{Event}
use Rattle.wf_flat.specs.declared.event.Event.TheVariants.{Fetch, Look, Take, Put, Miss, Enter, Sync, Idle, Ending, Gone}
use Rattle.wf_flat.specs.declared.event.Entry.{Entry}
use Rattle.wf_flat.specs.declared.state.Reservation.{Reservation}
use Rattle.wf_flat.specs.State.{FlatState, HartState, PageState}
use Rattle.wf_flat.specs.Memory.{data_in}
use Rattle.wf_flat.specs.Accesses.{Access, accessed_data, is_free, has_reserved, stands}
use Rattle.wf_flat.specs.Steps.{want_in, access_in, is_conditional}
use Rattle.wf_flat.specs.Changes.{looked_with, written_by, reserves, reservation_of}
use Rattle.wf_flat.proofs.ListLemmas.{some_and, and_some}
use Rattle.wf_legal.specs.Events.{flat_after}
use Rattle.wf_legal.specs.Legal.{Moment, Allows, IsLegal, after, end_of, at_rest}
use Rattle.wf_next.proofs.ActLemmas.{conditional_stands, stands_reserved, taking}
use Rattle.wf_next.proofs.QuietLemmas.{fetch_access}
use Rattle.wf_laws.specs.Conditionals.{ConditionalsAreAlone, HasNoReservation, HasNoReserve, HoldsNone, IsConditional, IsReserving, Writes}
use Rattle.wf_laws.proofs.CallLemmas.{IsLateCall, acts_outside}
use Rattle.wf_laws.proofs.CarryLemmas.{carried}
use Rattle.wf_laws.proofs.BareLemmas.{bare, bare_at, bare_own, if_own, kernel_after, limits_kept, other_after}
use Rattle.wf_laws.proofs.HolderLemmas.{IsHeld, entry_of, free_page, one_page}
use Rattle.wf_laws.proofs.GripLemmas.{IsGripped, IsSettled, grip_access, gripped_none, gripped_start, held_before, settled_after, unheld}
use Rattle.wf_laws.proofs.GrownLemmas.{AreOld, IsDirty, IsGrown, Mark, dirty_after, grown_after, old_after, old_start, written}
use Rattle.wf_legal.proofs.JournalLemmas.{legal_back, legal_front}

low_kept : (deltas : List DeltaValue) (s : FlatState) (actor : Actor) (e : Event) (writes : ℕ) → writes < s.limits.last_writes → writes < (flat_after deltas s actor e).limits.last_writes
low_kept deltas s actor e writes low = rw (limits_kept deltas s actor e) low

-- the reservation of a hart is gone, or is still this
abbrev IsLeft : Option Reservation → HartState → Type 0
IsLeft o hart = (hart.reservation ≡ None) ⊎ (hart.reservation ≡ o)

-- of an access of a store-conditional that is to write, whose page the hart holds, this holds
abbrev IsSet : FlatState → ℕ → (Access → Type 0) → HartState → Type 0
IsSet s h X hart = (a : Access) → access_in hart ≡ Some a → is_conditional (want_in hart) ≡ true → hart.looked ≡ None → IsHeld s h (page_of a.va) → X a

record Since (s : FlatState) (h : ℕ) (o : Option Reservation) (X : Access → Type 0) : Type 0 where
  left : IfSome (bare_at s.harts h) (IsLeft o)
  set : IfSome (bare_at s.harts h) (IsSet s h X)

-- where such an access may take its page, this holds of it
abbrev Gives : FlatState → Option Reservation → (Access → Type 0) → Type 0
Gives s o X = (r : Option Reservation) (a : Access) (page : PageState) → (r ≡ None) ⊎ (r ≡ o) → accessed_data s a ≡ Some page → is_free page ≡ true → stands r a page ≡ true → X a

-- no Look of the hart that is that of a load-reserved
abbrev pub IsNoReserve : Moment → ℕ → Actor → Event → Type 0
IsNoReserve m h actor e = (va width value : ℕ) → entry_of actor e ≡ entry_of (Hart h) (Look va width value) → IsReserving m h → ⊥

left_looked : (s : FlatState) (va width value : ℕ) (o : Option Reservation) (hart : HartState) → (reserves (want_in hart) ≡ true → ⊥) → IsLeft o hart → IsLeft o (looked_with s va width value hart)
left_looked s va width value o hart unreserved left = by_test (reserves (want_in hart)) refl
  where
    by_test : (b : Bool) → reserves (want_in hart) ≡ b
        → ((if b then reservation_of s va width (data_in s.pages (page_of va)) else hart.reservation) ≡ None) ⊎ ((if b then reservation_of s va width (data_in s.pages (page_of va)) else hart.reservation) ≡ o)
    by_test true t = absurd (unreserved t)
    by_test false t = left

left_written : (o : Option Reservation) (hart : HartState) → IsLeft o hart → IsLeft o (written_by hart)
left_written o hart left = by_test (is_conditional (want_in hart))
  where
    by_test : (b : Bool) → ((if b then None else hart.reservation) ≡ None) ⊎ ((if b then None else hart.reservation) ≡ o)
    by_test true = inl refl
    by_test false = left

left_own : (m : Moment) (h : ℕ) (o : Option Reservation) (e : Event) → IsLateCall m.call → Allows m (Hart h) e → IsNoReserve m h (Hart h) e → IfSome (bare_at m.flat.harts h) (IsLeft o)
    → IfSome (bare_at (flat_after m.deltas m.flat (Hart h) e).harts h) (IsLeft o)
left_own m h o (Look va width value) late a unreserved left =
    let w = some_and (slice_get m.flat.harts h) _ (acts_outside m h (Look va width value) refl late a) in
    let before : IsLeft o w.0 = subst (λ (x : Option HartState). IfSome (option_map bare x) (IsLeft o)) w.1 left in
    let behind : IsLeft o (looked_with m.flat va width value w.0)
    = left_looked m.flat va width value o w.0 (λ t. unreserved va width value refl (and_some (slice_get m.flat.harts h) (λ (hart : HartState). reserves (want_in hart) ≡ true) w.0 w.1 t)) before in
    subst (λ (x : Option HartState). IfSome x (IsLeft o)) (sym (bare_own m.deltas m.flat h (Look va width value) w.0 w.1)) behind
left_own m h o (Put va width value) late a unreserved left = if_own (IsLeft o) (IsLeft o) m.deltas m.flat h (Put va width value) (λ x p. left_written o x p) left
left_own m h o (Miss va) late a unreserved left = if_own (IsLeft o) (IsLeft o) m.deltas m.flat h (Miss va) (λ x p. inl refl) left
left_own m h o e late a unreserved left = if_own (IsLeft o) (IsLeft o) m.deltas m.flat h e (λ x p. p) left

-- a store-conditional is set where it takes its page
set_taken : (m : Moment) (h : ℕ) (o : Option Reservation) (X : Access → Type 0) (page : ℕ) → IsLateCall m.call → Allows m (Hart h) (Take page) → Gives m.flat o X → IfSome (bare_at m.flat.harts h) (IsLeft o)
    → IfSome (bare_at (flat_after m.deltas m.flat (Hart h) (Take page)).harts h) (IsSet (flat_after m.deltas m.flat (Hart h) (Take page)) h X)
set_taken m h o X page late a gives left =
    let w = some_and (slice_get m.flat.harts h) _ (acts_outside m h (Take page) refl late a) in
    let t = taking m.flat w.0 page w.2.1 in
    let before : IsLeft o w.0 = subst (λ (x : Option HartState). IfSome (option_map bare x) (IsLeft o)) w.1 left in
    let now : IsSet (flat_after m.deltas m.flat (Hart h) (Take page)) h X (bare w.0) = λ a e c none held. subst X (let own : access_in w.0 ≡ Some t.access = t.is_access in let its : access_in w.0 ≡ Some a = e in cc)
    (gives w.0.reservation t.access t.page before t.is_page t.takes.0 (conditional_stands (want_in w.0) m.flat w.0 t.access t.page c t.takes.2)) in
    subst (λ (x : Option HartState). IfSome x (IsSet (flat_after m.deltas m.flat (Hart h) (Take page)) h X)) (sym (bare_own m.deltas m.flat h (Take page) w.0 w.1)) now

-- who takes nothing held its page before
set_kept : (m : Moment) (h : ℕ) (X : Access → Type 0) (e : Event) (hart : HartState) → ((page : ℕ) → e ≢ Take page) → IsSet m.flat h X hart → IsSet (flat_after m.deltas m.flat (Hart h) e) h X hart
set_kept m h X e hart untaken set a is c none held = set a is c none (held_before m.deltas m.flat (Hart h) e h (page_of a.va) (λ same taken. untaken (page_of a.va) taken) held)

set_own : (m : Moment) (h : ℕ) (o : Option Reservation) (X : Access → Type 0) (e : Event) → IsSettled m → Allows m (Hart h) e → Gives m.flat o X
    → IfSome (bare_at m.flat.harts h) (IsLeft o) → IfSome (bare_at m.flat.harts h) (IsSet m.flat h X) → IfSome (bare_at (flat_after m.deltas m.flat (Hart h) e).harts h) (IsSet (flat_after m.deltas m.flat (Hart h) e) h X)
set_own m h o X (Fetch pc word) settled a gives left set =
    let w = some_and (slice_get m.flat.harts h) _ (acts_outside m h (Fetch pc word) refl settled.0 a) in
    if_own (IsSet m.flat h X) (IsSet (flat_after m.deltas m.flat (Hart h) (Fetch pc word)) h X) m.deltas m.flat h (Fetch pc word)
    (λ x p a e c none held. absurd (let g = settled.1 h (page_of a.va) held in fetch_access w.0 g.access w.2.1.0 (grip_access m.flat h (page_of a.va) w.0 g w.1))) set
set_own m h o X (Take page) settled a gives left set = set_taken m h o X page settled.0 a gives left
set_own m h o X Enter settled a gives left set = if_own (IsSet m.flat h X) (IsSet (flat_after m.deltas m.flat (Hart h) Enter) h X) m.deltas m.flat h Enter (λ x p. set_kept m h X Enter (bare x) (λ page is. cc) p) set
set_own m h o X Idle settled a gives left set = if_own (IsSet m.flat h X) (IsSet (flat_after m.deltas m.flat (Hart h) Idle) h X) m.deltas m.flat h Idle (λ x p. set_kept m h X Idle (bare x) (λ page is. cc) p) set
set_own m h o X (Sync generation page) settled a gives left set =
    if_own (IsSet m.flat h X) (IsSet (flat_after m.deltas m.flat (Hart h) (Sync generation page)) h X) m.deltas m.flat h (Sync generation page) (λ x p. set_kept m h X (Sync generation page) (bare x) (λ page is. cc) p) set
set_own m h o X (Ending page) settled a gives left set =
    if_own (IsSet m.flat h X) (IsSet (flat_after m.deltas m.flat (Hart h) (Ending page)) h X) m.deltas m.flat h (Ending page) (λ x p. set_kept m h X (Ending page) (bare x) (λ page is. cc) p) set
set_own m h o X (Gone page worn) settled a gives left set =
    if_own (IsSet m.flat h X) (IsSet (flat_after m.deltas m.flat (Hart h) (Gone page worn)) h X) m.deltas m.flat h (Gone page worn) (λ x p. set_kept m h X (Gone page worn) (bare x) (λ page is. cc) p) set
set_own m h o X e settled a gives left set = if_own (IsSet m.flat h X) (IsSet (flat_after m.deltas m.flat (Hart h) e) h X) m.deltas m.flat h e (λ x p a e c none held. absurd (cc)) set

-- each entry keeps it
since_after : (m : Moment) (h : ℕ) (o : Option Reservation) (X : Access → Type 0) (actor : Actor) (e : Event) → IsSettled m → Allows m actor e → Gives m.flat o X → IsNoReserve m h actor e
    → Since m.flat h o X → Since (flat_after m.deltas m.flat actor e) h o X
since_after m h o X (Hart k) e settled a gives unreserved since = elim (cases_eq h k) [
  | inl same ↦ (
      let a' : Allows m (Hart h) e = subst (λ (x : ℕ). Allows m (Hart x) e) (sym same) a in
      let unreserved' : IsNoReserve m h (Hart h) e = subst (λ (x : ℕ). IsNoReserve m h (Hart x) e) (sym same) unreserved in
      let own : Since (flat_after m.deltas m.flat (Hart h) e) h o X = record { left = left_own m h o e settled.0 a' unreserved' since.left; set = set_own m h o X e settled a' gives since.left since.set } in
      subst (λ (x : ℕ). Since (flat_after m.deltas m.flat (Hart x) e) h o X) same own)
  | inr apart ↦ record {
    left = subst (λ (x : Option HartState). IfSome x (IsLeft o)) (sym (other_after m.deltas m.flat k h e apart)) since.left;
    set = subst (λ (x : Option HartState). IfSome x (IsSet (flat_after m.deltas m.flat (Hart k) e) h X)) (sym (other_after m.deltas m.flat k h e apart))
        (IfSome_then (bare_at m.flat.harts h) since.set (λ x p a e' c none held. p a e' c none (held_before m.deltas m.flat (Hart k) e h (page_of a.va) (λ is _. apart (cc)) held)));
  }
]
since_after m h o X Kernel e settled a gives unreserved since = record {
  left = subst (λ (x : Option HartState). IfSome x (IsLeft o)) (sym (kernel_after m.deltas m.flat e h)) since.left;
  set = subst (λ (x : Option HartState). IfSome x (IsSet (flat_after m.deltas m.flat Kernel e) h X)) (sym (kernel_after m.deltas m.flat e h))
      (IfSome_then (bare_at m.flat.harts h) since.set (λ x p a e' c none held. p a e' c none (held_before m.deltas m.flat Kernel e h (page_of a.va) (λ is _. cc) held)));
}

-- what holds between the load-reserved and the store-conditional
record Runs (m : Moment) (h : ℕ) (o : Option Reservation) (X : Access → Type 0) : Type 0 where
  settled : IsSettled m
  since : Since m.flat h o X

runs_after : (m : Moment) (h : ℕ) (o : Option Reservation) (X : Access → Type 0) (actor : Actor) (e : Event) → Gives m.flat o X → Runs m h o X → Allows m actor e
    → IsNoReserve m h actor e → Runs (after m actor e) h o X
runs_after m h o X actor e gives runs a unreserved = record {
  settled = settled_after m actor e runs.settled a;
  since = since_after m h o X actor e runs.settled a gives unreserved runs.since;
}

-- at the write of the store-conditional
at_put : (m : Moment) (h : ℕ) (o : Option Reservation) (X : Access → Type 0) (va width value : ℕ) → Runs m h o X → Allows m (Hart h) (Put va width value)
    → IsConditional m h → X (record { va = va; width = width; write = true })
at_put m h o X va width value runs a conditional =
    let w = some_and (slice_get m.flat.harts h) _ (acts_outside m h (Put va width value) refl runs.settled.0 a) in
    let set : IsSet m.flat h X (bare w.0) = subst (λ (x : Option HartState). IfSome (option_map bare x) (IsSet m.flat h X)) w.1 runs.since.set in
    let c : is_conditional (want_in w.0) ≡ true = subst (λ (x : Option HartState). IsSomeAnd x (λ (hart : HartState). is_conditional (want_in hart) ≡ true)) w.1 conditional in
    set (record { va = va; width = width; write = true }) w.2.1.0 c w.2.1.2 w.2.1.1

-- its reservation is for its address and width
abbrev IsFor : Option Reservation → Access → Type 0
IsFor o a = has_reserved o a.va a.width ≡ true

gives_for : (s : FlatState) (o : Option Reservation) → Gives s o (IsFor o)
gives_for s o r a page (inl none) is free stand = absurd (let no : stands r a page ≡ false = ap (λ (r : Option Reservation). stands r a page) none in cc)
gives_for s o r a page (inr same) is free stand = subst (λ (r : Option Reservation). has_reserved r a.va a.width ≡ true) same (stands_reserved r a page stand)

reserved_va : (r : Reservation) (va width : ℕ) → has_reserved (Some r) va width ≡ true → (va ≡ r.va) × (width ≡ r.width)
reserved_va r va width e =
    let parts = and_parts (r.va == va) (r.width == width) e in
    let one : (r.va == va) ≡ true = parts.0 in
    let other : (r.width == width) ≡ true = parts.1 in
    (grind (arith, nat_tests), grind (arith, nat_tests))

-- and where the page was written since, it does not stand
record Standing (r : Reservation) (a : Access) (page : PageState) : Type 0 where
  va : a.va ≡ r.va
  birth : page.birth ≡ r.birth
  writes : r.writes ≡ page.writes

stands_at : (r : Reservation) (a : Access) (page : PageState) → stands (Some r) a page ≡ true → Standing r a page
stands_at r a page e =
    let both = and_parts (has_reserved (Some r) a.va a.width && (r.birth == page.birth)) (r.writes == page.writes) e in
    let writes : (r.writes == page.writes) ≡ true = both.1 in
    let births : (r.birth == page.birth) ≡ true = (and_parts (has_reserved (Some r) a.va a.width) (r.birth == page.birth) both.0).1 in
    record { va = (reserved_va r a.va a.width (stands_reserved (Some r) a page e)).0; birth = grind (arith, nat_tests); writes = grind (arith, nat_tests) }

gives_none : (s : FlatState) (r : Reservation) → IsDirty s (page_of r.va) r.birth r.writes → Gives s (Some r) (λ a. ⊥)
gives_none s r dirty o a page (inl none) is free stand = let never : stands o a page ≡ false = ap (λ (o : Option Reservation). stands o a page) none in cc
gives_none s r dirty o a page (inr same) is free stand =
    let w = stands_at r a page (subst (λ (o : Option Reservation). stands o a page ≡ true) same stand) in
    let there : data_in s.pages (page_of r.va) ≡ Some page = subst (λ (va : ℕ). data_in s.pages (page_of va) ≡ Some page) w.va is in
    elim dirty [
      | inl more ↦ (
          let low : r.writes + 1 ≤ page.writes = subst (λ (o : Option PageState). IfSome o (λ (page : PageState). page.birth ≡ r.birth → r.writes + 1 ≤ page.writes)) there more.grown w.birth in
          let equal = w.writes in
          absurd (omega arith))
      | inr mark ↦ free_page (data_in s.pages (page_of r.va)) mark.by page there free mark.held
    ]

-- once its page is marked, no store-conditional of the hart is set
marked_runs : (m : Moment) (h : ℕ) (r : Reservation) → Runs m h (Some r) (IsFor (Some r)) → Mark m.flat (page_of r.va) → Runs m h (Some r) (λ a. ⊥)
marked_runs m h r runs mark = record { settled = runs.settled; since = record { left = runs.since.left; set = by_hart (bare_at m.flat.harts h) refl runs.since.set } }
  where
    by_hart : (o : Option HartState) → bare_at m.flat.harts h ≡ o → IfSome o (IsSet m.flat h (IsFor (Some r))) → IfSome o (IsSet m.flat h (λ a. ⊥))
    by_hart None is set = tt
    by_hart (Some x) is set = λ a e c none held.
        let va : a.va ≡ r.va = (reserved_va r a.va a.width (set a e c none held)).0 in
        let here : IsHeld m.flat h (page_of r.va) = subst (λ (va : ℕ). IsHeld m.flat h (page_of va)) va held in
        let same : mark.by ≡ h = one_page (data_in m.flat.pages (page_of r.va)) h mark.by here mark.held in
        let marked : bare_at m.flat.harts h ≡ Some mark.hart = subst (λ (g : ℕ). bare_at m.flat.harts g ≡ Some mark.hart) same mark.is_hart in
        let one : mark.hart ≡ x = cc in
        let looked : is_some x.looked ≡ true = subst (λ (x : HartState). is_some x.looked ≡ true) one mark.looked in
        let never : is_some x.looked ≡ false = rw none refl in
        cc

-- a reservation's mapping and count of writes, which is below the last
record Counts (s : FlatState) (r : Reservation) : Type 0 where
  grown : IsGrown s (page_of r.va) r.birth r.writes
  low : r.writes < s.limits.last_writes

counts_after : (deltas : List DeltaValue) (s : FlatState) (actor : Actor) (e : Event) (r : Reservation) → Counts s r → Counts (flat_after deltas s actor e) r
counts_after deltas s actor e r c = record { grown = grown_after deltas s actor e (page_of r.va) r.birth r.writes c.grown; low = low_kept deltas s actor e r.writes c.low }

-- then it does not write
marked_end : (m : Moment) (middle back : List Entry) (h : ℕ) (r : Reservation) (va width value : ℕ) → Runs m h (Some r) (λ a. ⊥) → Counts m.flat r
    → IsDirty m.flat (page_of r.va) r.birth r.writes → HasNoReserve m h middle → IsLegal m (middle ++ record { actor = Hart h; event = Put va width value } ∷ back) → IsConditional (end_of m middle) h → ⊥
marked_end m [] back h r va width value runs there dirty unreserved l conditional = at_put m h (Some r) (λ a. ⊥) va width value runs l.0 conditional
marked_end m (entry ∷ middle) back h r va width value runs there dirty unreserved l conditional =
    marked_end (after m entry.actor entry.event) middle back h r va width value (runs_after m h (Some r) (λ a. ⊥) entry.actor entry.event (gives_none m.flat r dirty) runs l.0 unreserved.0)
    (counts_after m.deltas m.flat entry.actor entry.event r there)
    (dirty_after m (page_of r.va) r.birth r.writes entry.actor entry.event runs.settled l.0 there.grown there.low dirty) unreserved.1 l.1 conditional

-- where it does write, its reservation was for it, and no entry wrote in its page
reserved_end : (m : Moment) (middle back : List Entry) (h : ℕ) (o : Option Reservation) (va width value : ℕ) → Runs m h o (IsFor o) → HasNoReserve m h middle
    → IsLegal m (middle ++ record { actor = Hart h; event = Put va width value } ∷ back) → IsConditional (end_of m middle) h → has_reserved o va width ≡ true
reserved_end m [] back h o va width value runs unreserved l conditional = at_put m h o (IsFor o) va width value runs l.0 conditional
reserved_end m (entry ∷ middle) back h o va width value runs unreserved l conditional =
    reserved_end (after m entry.actor entry.event) middle back h o va width value (runs_after m h o (IsFor o) entry.actor entry.event (gives_for m.flat o) runs l.0 unreserved.0) unreserved.1 l.1 conditional

unwritten : (m : Moment) (middle back : List Entry) (h : ℕ) (r : Reservation) (va width value : ℕ) → Runs m h (Some r) (IsFor (Some r)) → Counts m.flat r
    → HasNoReserve m h middle → IsLegal m (middle ++ record { actor = Hart h; event = Put va width value } ∷ back) → IsConditional (end_of m middle) h
    → AllByRecursion (λ (entry : Entry). Writes (page_of r.va) entry.event → ⊥) middle
unwritten m [] back h r va width value runs there unreserved l conditional = tt
unwritten m (entry ∷ middle) back h r va width value runs there unreserved l conditional =
    let next : Moment = after m entry.actor entry.event in
    let runs' : Runs next h (Some r) (IsFor (Some r)) = runs_after m h (Some r) (IsFor (Some r)) entry.actor entry.event (gives_for m.flat (Some r)) runs l.0 unreserved.0 in
    let there' : Counts next.flat r = counts_after m.deltas m.flat entry.actor entry.event r there in (
      λ writes. (
          let mark : Mark next.flat (page_of r.va) = written m (page_of r.va) entry.actor entry.event runs.settled.0 l.0 writes in
          marked_end next middle back h r va width value (marked_runs next h r runs' mark) there' (inr mark) unreserved.1 l.1 conditional),
      unwritten next middle back h r va width value runs' there' unreserved.1 l.1 conditional,
    )

-- behind the load-reserved, the hart has the reservation that it leaves
runs_start : (m : Moment) (h va width value : ℕ) (X : Access → Type 0) → IsSettled m → Allows m (Hart h) (Look va width value) → IsReserving m h
    → Runs (after m (Hart h) (Look va width value)) h (reservation_of m.flat va width (data_in m.flat.pages (page_of va))) X
runs_start m h va width value X settled a reserving =
    let o : Option Reservation = reservation_of m.flat va width (data_in m.flat.pages (page_of va)) in
    let flat : FlatState = flat_after m.deltas m.flat (Hart h) (Look va width value) in
    let w = some_and (slice_get m.flat.harts h) _ (acts_outside m h (Look va width value) refl settled.0 a) in
    let t : reserves (want_in w.0) ≡ true = subst (λ (x : Option HartState). IsSomeAnd x (λ (hart : HartState). reserves (want_in hart) ≡ true)) w.1 reserving in
    let left : (looked_with m.flat va width value w.0).reservation ≡ o = ap (λ (b : Bool). if b then o else w.0.reservation) t in
    let set : IsSet flat h X (bare (looked_with m.flat va width value w.0)) = λ a e c none held. absurd (cc) in
    let is : bare_at flat.harts h ≡ Some (bare (looked_with m.flat va width value w.0)) = bare_own m.deltas m.flat h (Look va width value) w.0 w.1 in
    record {
      settled = settled_after m (Hart h) (Look va width value) settled a;
      since = record {
        left = subst (λ (x : Option HartState). IfSome x (IsLeft o)) (sym is) (inr left);
        set = subst (λ (x : Option HartState). IfSome x (IsSet flat h X)) (sym is) set;
      };
    }

-- that is none, or one at the writes of the page, which are below the last
record Reserved (s : FlatState) (va width : ℕ) (o : Option PageState) : Type 0 where
  page : PageState
  is_page : o ≡ Some page
  low : page.writes < s.limits.last_writes
  is : reservation_of s va width o ≡ Some (record { va = va; width = width; birth = page.birth; writes = page.writes })

reserved : (s : FlatState) (va width : ℕ) (o : Option PageState) → (reservation_of s va width o ≡ None) ⊎ Reserved s va width o
reserved s va width None = inl refl
reserved s va width (Some page) = by_test (nat_lt page.writes s.limits.last_writes) refl
  where
    by_test : (b : Bool) → nat_lt page.writes s.limits.last_writes ≡ b → (reservation_of s va width (Some page) ≡ None) ⊎ Reserved s va width (Some page)
    by_test true t = inr (record { page = page; is_page = refl; low = grind (arith, nat_tests); is = rw t refl })
    by_test false t = inl (rw t refl)

-- what a store-conditional that writes finds of its load-reserved
record Paired (m : Moment) (h va width value va' width' : ℕ) : Type 0 where
  page : PageState
  is_page : data_in m.flat.pages (page_of va) ≡ Some page
  low : page.writes < m.flat.limits.last_writes
  same_va : va' ≡ va
  same_width : width' ≡ width
  runs : let r : Reservation = record { va = va; width = width; birth = page.birth; writes = page.writes } in Runs (after m (Hart h) (Look va width value)) h (Some r) (IsFor (Some r))

paired : (m : Moment) (middle back : List Entry) (h va width value va' width' value' : ℕ) →
    let behind : Moment = after m (Hart h) (Look va width value) in
    IsSettled m → Allows m (Hart h) (Look va width value) → IsLegal behind (middle ++ record { actor = Hart h; event = Put va' width' value' } ∷ back)
    → IsReserving m h → HasNoReserve behind h middle → IsConditional (end_of behind middle) h → Paired m h va width value va' width'
paired m middle back h va width value va' width' value' settled a l reserving unreserved conditional =
    let behind : Moment = after m (Hart h) (Look va width value) in
    let o : Option Reservation = reservation_of m.flat va width (data_in m.flat.pages (page_of va)) in
    let runs : Runs behind h o (IsFor o) = runs_start m h va width value (IsFor o) settled a reserving in
    let for : has_reserved o va' width' ≡ true = reserved_end behind middle back h o va' width' value' runs unreserved l conditional in
    elim (reserved m.flat va width (data_in m.flat.pages (page_of va))) [
      | inl lost ↦ absurd (let unfit : has_reserved o va' width' ≡ false = ap (λ (o : Option Reservation). has_reserved o va' width') lost in cc)
      | inr kept ↦ (
          let reservation : Reservation = record { va = va; width = width; birth = kept.page.birth; writes = kept.page.writes } in
          let same = reserved_va reservation va' width' (subst (λ (o : Option Reservation). has_reserved o va' width' ≡ true) kept.is for) in
          record {
            page = kept.page;
            is_page = kept.is_page;
            low = kept.low;
            same_va = same.0;
            same_width = same.1;
            runs = subst (λ (o : Option Reservation). Runs behind h o (IsFor o)) kept.is runs;
          })
    ]

-- a journal with a load-reserved and a store-conditional
split : (m : Moment) (front : List Entry) (reads : Entry) (middle : List Entry) (writes : Entry) (back : List Entry) → IsLegal m (front ++ reads ∷ middle ++ writes ∷ back) → IsLegal m (front ++ (reads ∷ middle ++ writes ∷ back))
split m front reads middle writes back l = subst (IsLegal m) (append_assoc front (reads ∷ middle) (writes ∷ back)) l

settled_at : (deltas : List DeltaValue) (s : FlatState) (front : List Entry) → IsGripped s → IsLegal (at_rest deltas s) front → IsSettled (end_of (at_rest deltas s) front)
settled_at deltas s front none l = carried IsSettled settled_after (at_rest deltas s) front (tt, none) l

pub same_place : (deltas : List DeltaValue) (s : FlatState) (front middle back : List Entry) (h va width value va' width' value' : ℕ) →
    let reads : Entry = record { actor = Hart h; event = Look va width value } in
    let writes : Entry = record { actor = Hart h; event = Put va' width' value' } in
    let before : Moment = end_of (at_rest deltas s) front in
    let behind : Moment = after before (Hart h) (Look va width value) in
    IsGripped s → IsLegal (at_rest deltas s) (front ++ reads ∷ middle ++ writes ∷ back) → IsReserving before h → HasNoReserve behind h middle → IsConditional (end_of behind middle) h → (va' ≡ va) × (width' ≡ width)
same_place deltas s front middle back h va width value va' width' value' none l reserving unreserved conditional =
    let start : Moment = at_rest deltas s in
    let reads : Entry = record { actor = Hart h; event = Look va width value } in
    let writes : Entry = record { actor = Hart h; event = Put va' width' value' } in
    let l' = split start front reads middle writes back l in
    let rest = legal_back start front (reads ∷ middle ++ writes ∷ back) l' in
    let p = paired (end_of start front) middle back h va width value va' width' value' (settled_at deltas s front none (legal_front start front (reads ∷ middle ++ writes ∷ back) l')) rest.0 rest.1 reserving unreserved conditional in
    (p.same_va, p.same_width)

pub between : ConditionalsAreAlone
between deltas s front middle back h va width value va' width' value' none old l reserving unreserved conditional =
    let start : Moment = at_rest deltas s in
    let before : Moment = end_of start front in
    let reads : Entry = record { actor = Hart h; event = Look va width value } in
    let writes : Entry = record { actor = Hart h; event = Put va' width' value' } in
    let l' = split start front reads middle writes back l in
    let at_front = legal_front start front (reads ∷ middle ++ writes ∷ back) l' in
    let rest = legal_back start front (reads ∷ middle ++ writes ∷ back) l' in
    let p = paired before middle back h va width value va' width' value' (settled_at deltas s front (gripped_start s none) at_front) rest.0 rest.1 reserving unreserved conditional in
    let r : Reservation = record { va = va; width = width; birth = p.page.birth; writes = p.page.writes } in
    let births = carried (λ (m : Moment). AreOld m.flat) (λ m actor e k a. old_after m.deltas m.flat actor e k) start front (old_start s old) at_front in
    let born : p.page.birth < before.flat.births = subst (λ (o : Option PageState). IfSome o (λ (page : PageState). page.birth < before.flat.births)) p.is_page (births (page_of va)) in
    let grown : IsGrown before.flat (page_of va) p.page.birth p.page.writes = record {
      old = born;
      grown = subst (λ (o : Option PageState). IfSome o (λ (page : PageState). page.birth ≡ p.page.birth → p.page.writes ≤ page.writes)) (sym p.is_page) (λ same. omega arith);
    } in
    let counts : Counts (flat_after before.deltas before.flat (Hart h) (Look va width value)) r = counts_after before.deltas before.flat (Hart h) (Look va width value) r (record { grown = grown; low = p.low }) in
    (p.same_va, p.same_width, unwritten (after before (Hart h) (Look va width value)) middle back h r va' width' value' p.runs counts unreserved rest.1 conditional)

-- where no hart has a reservation, none has one to lose
no_reservation : (harts : List HartState) (h : ℕ) → AllByRecursion (λ (hart : HartState). hart.reservation ≡ None) harts → IfSome (bare_at harts h) (IsLeft None)
no_reservation [] h none = tt
no_reservation (x ∷ xs) zero none = inl none.0
no_reservation (x ∷ xs) (suc h) none = no_reservation xs h none.1

-- and where nobody holds a page either, no store-conditional is set
runs_rest : (deltas : List DeltaValue) (s : FlatState) (h : ℕ) (X : Access → Type 0) → HoldsNone s → HasNoReservation s → Runs (at_rest deltas s) h None X
runs_rest deltas s h X free none = record {
  settled = (tt, gripped_none s free);
  since = record { left = no_reservation s.harts h none; set = by_hart (bare_at s.harts h) };
}
  where
    by_hart : (o : Option HartState) → IfSome o (IsSet s h X)
    by_hart None = tt
    by_hart (Some x) = λ a e c looked held. absurd (unheld s h (page_of a.va) free held)

-- from there on, a store-conditional does not write before a load-reserved has read
pub unreserved_end : (deltas : List DeltaValue) (s : FlatState) (front back : List Entry) (h va width value : ℕ) → HoldsNone s → HasNoReservation s → HasNoReserve (at_rest deltas s) h front
    → IsLegal (at_rest deltas s) (front ++ record { actor = Hart h; event = Put va width value } ∷ back) → IsConditional (end_of (at_rest deltas s) front) h → ⊥
unreserved_end deltas s front back h va width value free none unreserved l conditional =
    let for : has_reserved None va width ≡ true = reserved_end (at_rest deltas s) front back h None va width value (runs_rest deltas s h (IsFor None) free none) unreserved l conditional in
    cc
