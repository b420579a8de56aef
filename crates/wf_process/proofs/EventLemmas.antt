-- What each entry that touches no page makes of a body.
use Rattle.std.proofs.Common.{◌≡◌, ℕ, Option, Some, None, Bool, true, false, refl, sym, subst, ap, ◌∙◌, if◌then◌else◌}
use Rattle.std.specs.Prelude.{MatchBool, slice_get}
use Rattle.wf_outside.specs.Pages.{page_of}
use Rattle.wf_outside.specs.declared.refusal.Refusal.{Refusal}
use Rattle.rv_inst.specs.Arch.{ArchState}
use Rattle.wf_flat.specs.declared.event.Actor.{Actor}
use Rattle.wf_flat.specs.declared.event.Actor.TheVariants.{Hart, Kernel}
use Rattle.wf_flat.specs.declared.event.Event.{Event}
use Rattle.wf_flat.specs.declared.event.Event.TheVariants.{Again, End, Enter, Fetch, Idle, Look, Miss, Out, Refused, Wait}
use Rattle.wf_flat.specs.declared.event.WaitFor.{WaitFor}
use Rattle.wf_flat.specs.declared.state.Life.TheVariants.{Running}
use Rattle.wf_flat.specs.declared.state.Reservation.{Reservation}
use Rattle.wf_homes.specs.Kept.{KeepsReservation}
use Rattle.wf_flat.specs.Accesses.{Access, holds}
use Rattle.wf_flat.specs.Changes.{answered, change_page, ended, fetched_with, give_back, give_back_by, give_back_of, given_back, leave_hart, looked_with, missed, note_page, reserves, tried, without}
use Rattle.wf_flat.specs.Refusals.{refused_answer}
use Rattle.wf_flat.specs.Serving.{held_by}
use Rattle.wf_flat.specs.State.{FlatState, HartState}
use Rattle.wf_flat.specs.Steps.{MayAct, OfHart, OfRunning, access_in, arch_after, is_inside, want_in}
use Rattle.wf_flat.proofs.ListLemmas.{some_and}
use Rattle.wf_homes.proofs.FoundLemmas.{at_some, some_more}
use Rattle.wf_legal.specs.Calls.{Call, Doing, GoesOn, Settling}
use Rattle.wf_legal.specs.Legal.{Allows, Moment, after}
use Rattle.wf_sound.specs.Sound.{IsInHand, IsSound}
use Rattle.wf_sound.proofs.SoundLemmas.{who_inside}
use Rattle.wf_process.specs.Harts.{kept_answered, kept_ended, kept_fetched, kept_missed, kept_tried}
use Rattle.wf_process.specs.Bodies.{BodyValue, IsBodyOf, with_kept, with_left, with_left_kept}
use Rattle.wf_process.proofs.BodyLemmas.{KeepsHart, hart_changes, hart_leaves, inside_changes}

-- a hart runs that is inside the kernel
inside_runs : (m : Moment) (h : ℕ) (o : Option Call) → IsInHand m.deltas m.flat (Some (Hart h)) o → OfRunning m.flat h (λ hart. Unit {0})
inside_runs m h None in_hand = absurd in_hand
inside_runs m h (Some (Settling owed last)) in_hand = some_more (slice_get m.flat.harts h) _ (λ (hart : HartState). (hart.life ≡ Running) × Unit {0}) (λ hart e is. (is.0, tt)) in_hand
inside_runs m h (Some (Doing todo)) in_hand = some_more (slice_get m.flat.harts h) _ (λ (hart : HartState). (hart.life ≡ Running) × Unit {0}) (λ hart e is. (is.0, tt)) in_hand

-- a hart is so that may do something, where it is so outside, and where it runs
pub allowed_so : (P : Type 0) (m : Moment) (h : ℕ) (event : Event) → IsSound m → (OfRunning m.flat h (λ hart. Unit {0}) → P) → (MayAct m.flat (Hart h) event → P) → Allows m (Hart h) event → P
allowed_so P m h event sound inside outside may = by_inside (is_inside m.flat.inside (Hart h)) refl may
  where
    by_inside : (b : Bool) → is_inside m.flat.inside (Hart h) ≡ b → MatchBool b (GoesOn m.deltas m.flat (Hart h) m.call event) (MayAct m.flat (Hart h) event) → P
    by_inside true e goes = inside (inside_runs m h m.call (subst (λ (o : Option Actor). IsInHand m.deltas m.flat o m.call) (who_inside m.flat.inside (Hart h) e) sound.call))
    by_inside false e acts = outside acts

-- an answer is kept
keeps_answer : (s : FlatState) (h answer : ℕ) → KeepsHart s h (answered answer) (kept_answered answer)
keeps_answer s h answer words homes hart k e kept = record { told = record { generation = kept.told.generation; arch = kept.told.arch; fetched = kept.told.fetched; looked = refl; put = kept.told.put; life = kept.told.life }; reservation = kept.reservation }

-- so is that of a load, which leaves the reservation
keeps_look : (s : FlatState) (h va width value : ℕ) → OfHart s h (λ hart. reserves (want_in hart) ≡ false) → KeepsHart s h (looked_with s va width value) (kept_answered value)
keeps_look s h va width value plain words homes hart k e kept =
    let no : reserves (want_in hart) ≡ false = at_some (slice_get s.harts h) (λ x. reserves (want_in x) ≡ false) hart e plain in
    let stays : hart.reservation ≡ (looked_with s va width value hart).reservation = rw no refl in
    record {
      told = record { generation = kept.told.generation; arch = kept.told.arch; fetched = kept.told.fetched; looked = refl; put = kept.told.put; life = kept.told.life };
      reservation = subst (λ (o : Option Reservation). KeepsReservation words homes s o k.reservation) stays kept.reservation;
    }

-- a try that came to nothing is kept
keeps_tried : (s : FlatState) (h : ℕ) → KeepsHart s h tried kept_tried
keeps_tried s h words homes hart k e kept = record { told = record { generation = kept.told.generation; arch = kept.told.arch; fetched = refl; looked = kept.told.looked; put = kept.told.put; life = kept.told.life }; reservation = kept.reservation }

-- nothing is given back where nothing is held
given_of : (s : FlatState) (h : ℕ) (hart : HartState) (o : Option Access) → held_by s h o ≡ None → give_back_of s h hart o ≡ s
given_of s h hart None e = refl
given_of s h hart (Some access) e = by_held (holds s h access) e
  where
    by_held : (b : Bool) → (let found : Option ℕ = if b then Some (page_of access.va) else None in found ≡ None)
        → (if b then note_page (change_page s (page_of access.va) (given_back s.limits.last_writes hart.put)) h (page_of access.va) else s) ≡ s
    by_held true e = absurd cc
    by_held false e = refl

given_none : (s : FlatState) (h : ℕ) → OfHart s h (λ hart. held_by s h (access_in hart) ≡ None) → give_back s h ≡ s
given_none s h free = let w = some_and (slice_get s.harts h) (λ hart. held_by s h (access_in hart) ≡ None) free in ap (give_back_by s h) w.1 ∙ given_of s h w.0 (access_in w.0) w.2

-- an instruction that ended is kept, with the registers after it
keeps_end : (s : FlatState) (h : ℕ) (next : ArchState) → OfHart s h (λ hart. next ≡ arch_after hart) → KeepsHart s h ended (kept_ended next)
keeps_end s h next is words homes hart k e kept = record { told = record { generation = kept.told.generation; arch = at_some (slice_get s.harts h) (λ x. next ≡ arch_after x) hart e is; fetched = refl; looked = kept.told.looked; put = kept.told.put; life = kept.told.life }; reservation = kept.reservation }

module _ (m : Moment) (b : BodyValue) (is : IsBodyOf m.flat b) where
  pub idles : (actor : Actor) → IsBodyOf (after m actor Idle).flat b
  idles actor = is

  pub enters : (actor : Actor) → IsBodyOf (after m actor Enter).flat (record b { inside = Some actor })
  enters actor = inside_changes m.flat b (Some actor) is

  pub kernel_refused : (reason : Refusal) → IsBodyOf (after m Kernel (Refused reason)).flat (with_left b Kernel)
  kernel_refused reason = let e = is.inside in subst (λ (o : Option Actor). IsBodyOf (record m.flat { inside = without m.flat.inside Kernel }) (record b { inside = without o Kernel })) (sym e) (inside_changes m.flat b (without m.flat.inside Kernel) is)

  module _ (h : ℕ) where
    pub fetches : (pc word : ℕ) → IsBodyOf (after m (Hart h) (Fetch pc word)).flat (with_kept b h (kept_fetched word))
    fetches pc word =
        hart_changes m.flat b h (fetched_with word) (kept_fetched word) (record { generation = λ x. refl; life = λ x. refl })
        (λ words homes hart k e kept. record { told = record { generation = kept.told.generation; arch = kept.told.arch; fetched = refl; looked = refl; put = refl; life = kept.told.life }; reservation = kept.reservation }) is

    pub outs : (byte : ℕ) → IsBodyOf (after m (Hart h) (Out byte)).flat (with_kept b h (kept_answered 0))
    outs byte = hart_changes m.flat b h (answered 0) (kept_answered 0) (record { generation = λ x. refl; life = λ x. refl }) (keeps_answer m.flat h 0) is

    pub refused : (reason : Refusal) → IsBodyOf (after m (Hart h) (Refused reason)).flat (with_kept b h (kept_answered (refused_answer reason)))
    refused reason = hart_changes m.flat b h (answered (refused_answer reason)) (kept_answered (refused_answer reason)) (record { generation = λ x. refl; life = λ x. refl }) (keeps_answer m.flat h (refused_answer reason)) is

    pub misses : (va : ℕ) → IsBodyOf (after m (Hart h) (Miss va)).flat (with_kept b h kept_missed)
    misses va =
        hart_changes m.flat b h missed kept_missed (record { generation = λ x. refl; life = λ x. refl })
        (λ words homes hart k e kept. record { told = record { generation = kept.told.generation; arch = kept.told.arch; fetched = kept.told.fetched; looked = refl; put = kept.told.put; life = kept.told.life }; reservation = tt }) is

    pub waits : (on : WaitFor) → IsBodyOf (after m (Hart h) (Wait on)).flat (with_kept b h kept_tried)
    waits on = hart_changes m.flat b h tried kept_tried (record { generation = λ x. refl; life = λ x. refl }) (keeps_tried m.flat h) is

    pub tries_again : (page : ℕ) → IsBodyOf (after m (Hart h) (Again page)).flat (with_left_kept b h kept_tried)
    tries_again page = hart_leaves m.flat b h tried kept_tried (record { generation = λ x. refl; life = λ x. refl }) (keeps_tried m.flat h) is

    pub ends : (pc : ℕ) (next : ArchState) → OfHart m.flat h (λ hart. next ≡ arch_after hart) → OfHart m.flat h (λ hart. held_by m.flat h (access_in hart) ≡ None)
        → IsBodyOf (after m (Hart h) (End pc)).flat (with_left_kept b h (kept_ended next))
    ends pc next after_it free =
        subst (λ (s : FlatState). IsBodyOf (leave_hart s h ended) (with_left_kept b h (kept_ended next))) (sym (given_none m.flat h free))
        (hart_leaves m.flat b h ended (kept_ended next) (record { generation = λ x. refl; life = λ x. refl }) (keeps_end m.flat h next after_it) is)

    pub looks : (va width value : ℕ) → OfHart m.flat h (λ hart. reserves (want_in hart) ≡ false) → IsBodyOf (after m (Hart h) (Look va width value)).flat (with_kept b h (kept_answered value))
    looks va width value plain = hart_changes m.flat b h (looked_with m.flat va width value) (kept_answered value) (record { generation = λ x. refl; life = λ x. refl }) (keeps_look m.flat h va width value plain) is
