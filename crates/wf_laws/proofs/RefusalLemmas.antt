-- What a hart's call is refused for, and where a hart moves.
use Rattle.std.proofs.Common.{◌≡◌, ◌⊎◌, inl, inr, ℕ, List, [], ◌∷◌, ◌++◌, Option, Some, None, Bool, true, false, if◌then◌else◌, map, refl, sym, subst, ap}
use Rattle.std.specs.Prelude.{slice_get}
use Rattle.std.specs.List.{list_any}
use Rattle.rv_inst.specs.Meanings.{next_pc}
use Rattle.wf_outside.specs.declared.refusal.Refusal.{Refusal}
use Rattle.wf_outside.specs.declared.refusal.Refusal.TheVariants.{Inside, NoView}
use Rattle.wf_outside.specs.Images.{DeltaValue}
use Rattle.wf_outside.specs.Lists.{first_of}
use Rattle.wf_flat.specs.declared.event.Actor.TheVariants.{Hart}
use Rattle.wf_flat.specs.declared.event.Event.{Event}
use Rattle.wf_flat.specs.declared.event.Event.TheVariants.{Born, Dead, Move, Refused}
use Rattle.wf_flat.specs.State.{FlatState, HartState}
use Rattle.wf_flat.specs.Steps.{OfHart}
use Rattle.wf_flat.proofs.ListLemmas.{and_some, some_and}
use Rattle.wf_effects.specs.declared.ranges.PageRun.{PageRun}
use Rattle.wf_effects.specs.Generations.{is_live, jumps_in, newest}
use Rattle.wf_effects.specs.Ranges.{runs_of}
use Rattle.wf_verdict.specs.declared.requests.Request.{Request}
use Rattle.wf_verdict.specs.declared.requests.Request.TheVariants.{Exits, PutsByte, Maps, Unmaps, TellsGeneration, Migrates, Quiesces, Deletes, Clones, Patches, NoCall}
use Rattle.wf_verdict.specs.declared.work.Todo.TheVariants.{Exactly}
use Rattle.wf_verdict.specs.Requests.{requested_by}
use Rattle.wf_verdict.specs.Verdict.{delta_at, inside_jump, is_in_jump, no_view, refusal_of}
use Rattle.wf_verdict.specs.Work.{map_of, work_of}
use Rattle.wf_legal.specs.Calls.{IsNext}
use Rattle.wf_legal.specs.Legal.{Moment, Allows, at_rest, end_of}
use Rattle.wf_laws.specs.Refusals.{MigratesAreRefusedInside, MovesAreOutside, QuiescesAreRefusedInside, RefusalsAreOfTable, goes_inside}
use Rattle.wf_laws.proofs.CallLemmas.{IsLateCall, first_begins}
use Rattle.wf_laws.proofs.CarryLemmas.{at, kept_deltas, late_end}
use Rattle.wf_laws.proofs.RequestLemmas.{Requested, refused, requested, unrefused}

-- the hart that asks, with what is requested
pub record Asking (m : Moment) (h : ℕ) (e : Event) : Type 0 where
  pub hart : HartState
  pub is_hart : slice_get m.flat.harts h ≡ Some hart
  pub by : Requested m.deltas m.flat (Hart h) e
  pub next : by.next ≡ next_pc hart.arch.pc
  pub request : by.request ≡ requested_by hart

pub asking : (m : Moment) (h : ℕ) (e : Event) → Requested m.deltas m.flat (Hart h) e → Asking m h e
asking m h e r =
    let w = some_and (slice_get m.flat.harts h) _ r.asked in
    record { hart = w.0; is_hart = w.1; by = r; next = w.2.1; request = w.2.2 }

refuses : (m : Moment) (h : ℕ) (reason : Refusal) → IsLateCall m.call → Allows m (Hart h) (Refused reason) → OfHart m.flat h (λ hart. refusal_of m.deltas m.flat (next_pc hart.arch.pc) (requested_by hart) ≡ Some reason)
refuses m h reason late a =
    let r = requested m.deltas m.flat (Hart h) (Refused reason) refl (first_begins m (Hart h) (Refused reason) refl refl (λ leave. leave) late a) in
    let w = asking m h (Refused reason) r in
    let table : refusal_of m.deltas m.flat w.by.next w.by.request ≡ Some reason = refused m.deltas m.flat (Hart h) reason w.by in
    let own : refusal_of m.deltas m.flat (next_pc w.hart.arch.pc) (requested_by w.hart) ≡ Some reason =
    subst (λ (next : ℕ). refusal_of m.deltas m.flat next (requested_by w.hart) ≡ Some reason) w.next (subst (λ (request : Request). refusal_of m.deltas m.flat w.by.next request ≡ Some reason) w.request table) in
    and_some (slice_get m.flat.harts h) _ w.hart w.is_hart own

pub of_table : RefusalsAreOfTable
of_table deltas s front back h reason l =
    let start : Moment = at_rest deltas s in
    let before : Moment = end_of start front in
    let w = at start front (record { actor = Hart h; event = Refused reason }) back l in
    subst (λ (deltas : List DeltaValue). OfHart before.flat h (λ hart. refusal_of deltas before.flat (next_pc hart.arch.pc) (requested_by hart) ≡ Some reason)) (kept_deltas start front)
    (refuses before h reason (late_end start front tt w.legal) w.allowed)

-- an address inside a jump is refused for that
inside_by : (b : Bool) (at : ℕ) (reason : Refusal) → (if b then Some (Inside at) else None) ≡ Some reason → (reason ≡ Inside at) × (b ≡ true)
inside_by true at reason e = (let same : Inside at ≡ reason = cc in sym same, refl)
inside_by false at reason e = absurd (cc)

pub last_of_two : (one two : Option Refusal) (o : Option Refusal) → one ≡ None → first_of (one ∷ two ∷ []) ≡ o → two ≡ o
last_of_two None None o none e = e
last_of_two None (Some reason) o none e = e
last_of_two (Some reason) two o none e = absurd (cc)

one_of : (one : Option Refusal) (o : Option Refusal) → first_of (one ∷ []) ≡ o → one ≡ o
one_of None o e = e
one_of (Some reason) o e = e

live_view : (s : FlatState) (generation : ℕ) → is_live s generation ≡ true → no_view s generation ≡ None
live_view s generation live = rw live refl

migrate_inside : (deltas : List DeltaValue) (s : FlatState) (next generation : ℕ) (o : Option Refusal) → is_live s generation ≡ true → refusal_of deltas s next (Migrates generation) ≡ o → inside_jump s generation next ≡ o
migrate_inside deltas s next generation o live e = last_of_two (no_view s generation) (inside_jump s generation next) o (live_view s generation live) e

quiesce_inside : (deltas : List DeltaValue) (s : FlatState) (next : ℕ) (o : Option Refusal) → refusal_of deltas s next Quiesces ≡ o → inside_jump s (newest s) next ≡ o
quiesce_inside deltas s next o e = one_of (inside_jump s (newest s) next) o e

pub migrates : MigratesAreRefusedInside
migrates deltas s front back h generation reason l live =
    let before : Moment = end_of (at_rest deltas s) front in
    let w = some_and (slice_get before.flat.harts h) _ (of_table deltas s front back h reason l) in
    and_some (slice_get before.flat.harts h) _ w.0 w.1 (λ is.
    let next : ℕ = next_pc w.0.arch.pc in
    let table : refusal_of deltas before.flat next (Migrates generation) ≡ Some reason = subst (λ (request : Request). refusal_of deltas before.flat next request ≡ Some reason) is w.2 in
    inside_by (list_any (is_in_jump next) (jumps_in before.flat generation)) next reason (migrate_inside deltas before.flat next generation (Some reason) live table))

pub quiesces : QuiescesAreRefusedInside
quiesces deltas s front back h reason l =
    let before : Moment = end_of (at_rest deltas s) front in
    let w = some_and (slice_get before.flat.harts h) _ (of_table deltas s front back h reason l) in
    and_some (slice_get before.flat.harts h) _ w.0 w.1 (λ is.
    let next : ℕ = next_pc w.0.arch.pc in
    let table : refusal_of deltas before.flat next Quiesces ≡ Some reason = subst (λ (request : Request). refusal_of deltas before.flat next request ≡ Some reason) is w.2 in
    inside_by (list_any (is_in_jump next) (jumps_in before.flat (newest before.flat))) next reason (quiesce_inside deltas before.flat next (Some reason) table))

-- which request an event tells
abbrev is_move : Event → Bool
is_move (Move generation) = true
is_move event = false

unmoved : (event : Event) (generation : ℕ) → is_move event ≡ false → Move generation ≡ event → ⊥
unmoved event generation u p = let same = ap is_move p in cc

patch_unmoved : (s : FlatState) (patch : ℕ) (runs : List PageRun) (born parent : ℕ) (by : Option ℕ) (generation : ℕ) → IsNext s (map (map_of patch) runs ++ Exactly (Born born parent by) ∷ []) (Move generation) → ⊥
patch_unmoved s patch [] born parent by generation p = unmoved _ generation refl p
patch_unmoved s patch (run ∷ runs) born parent by generation p = unmoved _ generation refl p

pub move_work : (deltas : List DeltaValue) (s : FlatState) (request : Request) (generation : ℕ) → IsNext s (work_of deltas s request) (Move generation) → (request ≡ Migrates generation) ⊎ ((request ≡ Quiesces) × (generation ≡ newest s))
move_work deltas s (Exits code) generation p = absurd (unmoved _ generation refl p)
move_work deltas s (PutsByte byte) generation p = absurd (unmoved _ generation refl p)
move_work deltas s (Maps va pages right) generation p = absurd (unmoved _ generation refl p)
move_work deltas s (Unmaps va pages) generation p = absurd (unmoved _ generation refl p)
move_work deltas s TellsGeneration generation p = absurd p
move_work deltas s (Migrates to) generation p = inl (let same : generation ≡ to = cc in ap Migrates (sym same))
move_work deltas s Quiesces generation p = inr (refl, cc)
move_work deltas s (Deletes other) generation p = absurd (unmoved _ generation refl p)
move_work deltas s (Clones other) generation p = absurd (unmoved _ generation refl p)
move_work deltas s (Patches patch) generation p = absurd (patch_unmoved s patch (runs_of (delta_at deltas patch).shared) _ _ _ generation p)
move_work deltas s (NoCall number) generation p = absurd p

abbrev is_dead : Event → Bool
is_dead (Dead generation) = true
is_dead event = false

undead : (event : Event) (generation : ℕ) → is_dead event ≡ false → Dead generation ≡ event → ⊥
undead event generation u p = let same = ap is_dead p in cc

patch_undead : (s : FlatState) (patch : ℕ) (runs : List PageRun) (born parent : ℕ) (by : Option ℕ) (generation : ℕ) → IsNext s (map (map_of patch) runs ++ Exactly (Born born parent by) ∷ []) (Dead generation) → ⊥
patch_undead s patch [] born parent by generation p = undead _ generation refl p
patch_undead s patch (run ∷ runs) born parent by generation p = undead _ generation refl p

pub dead_work : (deltas : List DeltaValue) (s : FlatState) (request : Request) (generation : ℕ) → IsNext s (work_of deltas s request) (Dead generation) → request ≡ Deletes generation
dead_work deltas s (Exits code) generation p = absurd (undead _ generation refl p)
dead_work deltas s (PutsByte byte) generation p = absurd (undead _ generation refl p)
dead_work deltas s (Maps va pages right) generation p = absurd (undead _ generation refl p)
dead_work deltas s (Unmaps va pages) generation p = absurd (undead _ generation refl p)
dead_work deltas s TellsGeneration generation p = absurd p
dead_work deltas s (Migrates to) generation p = absurd (undead _ generation refl p)
dead_work deltas s Quiesces generation p = absurd (undead _ generation refl p)
dead_work deltas s (Deletes other) generation p = (let same : generation ≡ other = cc in ap Deletes (sym same))
dead_work deltas s (Clones other) generation p = absurd (undead _ generation refl p)
dead_work deltas s (Patches patch) generation p = absurd (patch_undead s patch (runs_of (delta_at deltas patch).shared) _ _ _ generation p)
dead_work deltas s (NoCall number) generation p = absurd p

-- a hart that moves: its migrate or quiesce is not refused
pub record Moving (m : Moment) (h generation : ℕ) : Type 0 where
  pub hart : HartState
  pub is_hart : slice_get m.flat.harts h ≡ Some hart
  pub which : (is_live m.flat generation ≡ true) ⊎ (generation ≡ newest m.flat)
  pub outside : inside_jump m.flat generation (next_pc hart.arch.pc) ≡ None

pub none_live : (s : FlatState) (generation : ℕ) → no_view s generation ≡ None → is_live s generation ≡ true
none_live s generation e = by_test (is_live s generation) e
  where
    by_test : (b : Bool) → (if b then None else Some (NoView generation)) ≡ None → b ≡ true
    by_test true e = refl
    by_test false e = absurd (cc)

pub first_none : (one two : Option Refusal) → first_of (one ∷ two ∷ []) ≡ None → one ≡ None
first_none None two e = refl
first_none (Some reason) two e = absurd (cc)

pub moving : (m : Moment) (h generation : ℕ) → IsLateCall m.call → Allows m (Hart h) (Move generation) → Moving m h generation
moving m h generation late a =
    let r = requested m.deltas m.flat (Hart h) (Move generation) refl (first_begins m (Hart h) (Move generation) refl refl (λ leave. leave) late a) in
    let w = asking m h (Move generation) r in
    let u = unrefused m.deltas m.flat (Hart h) (Move generation) w.by refl in
    let none : refusal_of m.deltas m.flat (next_pc w.hart.arch.pc) w.by.request ≡ None = subst (λ (next : ℕ). refusal_of m.deltas m.flat next w.by.request ≡ None) w.next u.0 in
    elim (move_work m.deltas m.flat w.by.request generation u.1) [
      | inl migrate ↦ (
          let next : ℕ = next_pc w.hart.arch.pc in
          let table : refusal_of m.deltas m.flat next (Migrates generation) ≡ None = subst (λ (request : Request). refusal_of m.deltas m.flat next request ≡ None) migrate none in
          let live = none_live m.flat generation (first_none (no_view m.flat generation) (inside_jump m.flat generation next) table) in
          record { hart = w.hart; is_hart = w.is_hart; which = inl live; outside = migrate_inside m.deltas m.flat next generation None live table })
      | inr quiesce ↦ (
          let next : ℕ = next_pc w.hart.arch.pc in
          let table : refusal_of m.deltas m.flat next Quiesces ≡ None = subst (λ (request : Request). refusal_of m.deltas m.flat next request ≡ None) quiesce.0 none in
          record { hart = w.hart; is_hart = w.is_hart; which = inr quiesce.1; outside = subst (λ (g : ℕ). inside_jump m.flat g next ≡ None) (sym quiesce.1) (quiesce_inside m.deltas m.flat next None table) })
    ]

none_inside : (b : Bool) (at : ℕ) → (if b then Some (Inside at) else None) ≡ None → b ≡ false
none_inside true at e = absurd (cc)
none_inside false at e = refl

pub moves : MovesAreOutside
moves deltas s front back h generation l =
    let start : Moment = at_rest deltas s in
    let before : Moment = end_of start front in
    let w = at start front (record { actor = Hart h; event = Move generation }) back l in
    let m = moving before h generation (late_end start front tt w.legal) w.allowed in
    and_some (slice_get before.flat.harts h) _ m.hart m.is_hart (none_inside (goes_inside before.flat generation m.hart) (next_pc m.hart.arch.pc) m.outside)
