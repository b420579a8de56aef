-- Harts and reservations after whole accesses, each of which ends the try of its hart.
use Rattle.std.proofs.Common.{◌≡◌, ◌≢◌, ◌∙◌, ℕ, List, Bool, true, false, Option, Some, None, length, refl, sym, subst, ap, inl, inr, if◌then◌else◌}
use Rattle.std.specs.Prelude.{slice_get}
use Rattle.std.specs.Option.{option_map}
use Rattle.wf_flat.specs.declared.event.Actor.{Actor}
use Rattle.wf_flat.specs.declared.event.Actor.TheVariants.{Hart}
use Rattle.wf_flat.specs.declared.state.Reservation.{Reservation}
use Rattle.wf_flat.specs.Changes.{ended, noted, without}
use Rattle.wf_flat.specs.Lists.{changed_at, others_changed}
use Rattle.wf_flat.specs.State.{FlatState, HartState}
use Rattle.wf_flat.proofs.HartLemmas.{get-changed_at}
use Rattle.wf_flat.proofs.ListLemmas.{length_changed}
use Rattle.wf_homes.specs.Kept.{KeepsReservation}
use Rattle.wf_homes.specs.Stands.{StandsFor}
use Rattle.wf_homes.proofs.ListLemmas.{one_or_two}
use Rattle.wf_access.specs.Laws.{HaveSameMappings}
use Rattle.wf_access.proofs.HartLemmas.{other_harts}
use Rattle.wf_access.proofs.ReservationLemmas.{reservations_stay_for}
use Rattle.wf_process.specs.declared.hart.KeptHart.{KeptHart}
use Rattle.wf_process.specs.Bodies.{AreKeptHarts, BodyValue, IsBodyOf, IsKeptHart}
use Rattle.wf_process.proofs.BodyLemmas.{changed_from, changed_other, from_some}
use Rattle.wf_process.proofs.MeetingLemmas.{IsSame, length_others, same_noted, was_other}

same_if : (k : KeptHart) (page : ℕ) (x y : HartState) (b : Bool) → y ≡ (if b then noted page x else x) → IsSame k x y
same_if k page x y true e = subst (λ (z : HartState). IsSame k x z) (sym e) (same_noted k page x)
same_if k page x y false e = subst (λ (z : HartState). IsSame k x z) (sym e) (record { told = λ t. t; reservation = refl })

-- a hart is told as one was that stood at a place
record WasNoted (xs : List HartState) (i : ℕ) (k : KeptHart) (y : HartState) : Type 0 where
  pub before : HartState
  pub there : slice_get xs i ≡ Some before
  pub same : IsSame k before y

-- the harts after a whole access of one of them: the others noted the page when it was taken, and
-- when it was given back
abbrev pub harts_then : List HartState → ℕ → ℕ → (HartState → HartState) → List HartState
harts_then xs h n answer = changed_at (others_changed (changed_at (others_changed xs h (noted n)) h answer) h (noted n)) h ended

module _ (xs : List HartState) (h n : ℕ) (answer : HartState → HartState) where
  abbrev first : List HartState
  first = others_changed xs h (noted n)

  abbrev second : List HartState
  second = changed_at first h answer

  abbrev third : List HartState
  third = others_changed second h (noted n)

  other_then : (i : ℕ) → i ≢ h → (k : KeptHart) (y : HartState) → slice_get (harts_then xs h n answer) i ≡ Some y → WasNoted xs i k y
  other_then i apart k y e =
      let w = was_other second h (noted n) i y (sym (changed_other ended third h i apart) ∙ e) in
      let v = was_other xs h (noted n) i w.before (sym (changed_other answer first h i apart) ∙ w.there) in
      let one = same_if k n v.before w.before v.changes v.is in
      let two = same_if k n w.before y w.changes w.is in
      record { before = v.before; there = v.there; same = record { told = λ t. two.told (one.told t); reservation = two.reservation ∙ one.reservation } }

  own_then : slice_get (harts_then xs h n answer) h ≡ option_map ended (option_map answer (slice_get xs h))
  own_then =
      get-changed_at third h ended
      ∙ ap (option_map ended) (other_harts (noted n) second h ∙ get-changed_at first h answer ∙ ap (option_map answer) (other_harts (noted n) xs h))

  length_then : length (harts_then xs h n answer) ≡ length xs
  length_then = length_changed ended third h ∙ length_others second h (noted n) ∙ length_changed answer first h ∙ length_others xs h (noted n)

module _ (s t : FlatState) (b new : BodyValue) (h n : ℕ) (answer : HartState → HartState) (c : KeptHart → KeptHart) (is : IsBodyOf s b) (harts : t.harts ≡ harts_then s.harts h n answer) (same : HaveSameMappings b.words new.words s t)
    (one : (hart : HartState) (k : KeptHart) → slice_get s.harts h ≡ Some hart → IsKeptHart b.words is.homes s hart k → IsKeptHart new.words is.homes t (ended (answer hart)) (c k)) where
  own : (y : HartState) (k : KeptHart) → slice_get t.harts h ≡ Some y → slice_get (changed_at b.harts h c) h ≡ Some k → IsKeptHart new.words is.homes t y k
  own y k e d = by_hart (slice_get s.harts h) refl (sym (ap (λ (hs : List HartState). slice_get hs h) harts ∙ own_then s.harts h n answer) ∙ e)
    where
      by_hart : (o : Option HartState) → slice_get s.harts h ≡ o → option_map ended (option_map answer o) ≡ Some y → IsKeptHart new.words is.homes t y k
      by_hart None a f = absurd cc
      by_hart (Some hart) a f =
          let x = changed_from (slice_get b.harts h) c k (sym (get-changed_at b.harts h c) ∙ d) in
          let y_is : ended (answer hart) ≡ y = from_some (ended (answer hart)) y f in
          subst (λ (z : HartState). IsKeptHart new.words is.homes t z k) y_is
          (subst (λ (z : KeptHart). IsKeptHart new.words is.homes t (ended (answer hart)) z) (sym x.is) (one hart x.before a (is.harts.each h hart x.before a x.there)))

  other : (i : ℕ) → i ≢ h → (y : HartState) (k : KeptHart) → slice_get t.harts i ≡ Some y → slice_get (changed_at b.harts h c) i ≡ Some k → IsKeptHart new.words is.homes t y k
  other i apart y k e d =
      let w = other_then s.harts h n answer i apart k y (sym (ap (λ (hs : List HartState). slice_get hs i) harts) ∙ e) in
      let kept = is.harts.each i w.before k w.there (sym (changed_other c b.harts h i apart) ∙ d) in
      record {
        told = w.same.told kept.told;
        reservation = subst (λ (o : Option Reservation). KeepsReservation new.words is.homes t o k.reservation) (sym w.same.reservation) (reservations_stay_for b.words new.words is.homes s t w.before.reservation k.reservation same kept.reservation);
      }

  each : (i : ℕ) (y : HartState) (k : KeptHart) → slice_get t.harts i ≡ Some y → slice_get (changed_at b.harts h c) i ≡ Some k → IsKeptHart new.words is.homes t y k
  each i y k e d = elim (one_or_two i h) [
    | inl at ↦ own y k (subst (λ (j : ℕ). slice_get t.harts j ≡ Some y) at e) (subst (λ (j : ℕ). slice_get (changed_at b.harts h c) j ≡ Some k) at d)
    | inr apart ↦ other i apart y k e d
  ]

  -- a body stands for the state after a whole access
  pub whole_body : StandsFor new.words new.records is.homes t → t.inside ≡ without s.inside (Hart h) → new.harts ≡ changed_at b.harts h c → new.inside ≡ without b.inside (Hart h) → IsBodyOf t new
  whole_body stands left are gone = record {
    homes = is.homes;
    stands = stands;
    harts = subst (AreKeptHarts new.words is.homes t) (sym are) (record { count = length_changed c b.harts h ∙ is.harts.count ∙ sym (ap length harts ∙ length_then s.harts h n answer); each = each });
    inside = gone ∙ ap (λ (o : Option Actor). without o (Hart h)) is.inside ∙ sym left;
  }
