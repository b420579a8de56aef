-- A store-conditional that writes follows a load-reserved of its hart of the same address and width.
use Rattle.std.proofs.Common.{◌≡◌, ◌⊎◌, inl, inr, ℕ, List, [], ◌∷◌, ◌++◌, Option, Some, None, Bool, true, false, refl, sym, subst, ap}
use Rattle.std.specs.Prelude.{IsSomeAnd, slice_get}
use Rattle.std.proofs.lemmas.Bool.{cases_eq}
use Rattle.wf_flat.specs.declared.event.Actor.{Actor}
use Rattle.wf_flat.specs.declared.event.Actor.TheVariants.{Hart}
use Rattle.wf_flat.specs.declared.event.Event.{Event}
use Rattle.wf_flat.specs.declared.event.Event.TheVariants.{Look, Put}
use Rattle.wf_flat.specs.declared.event.Entry.{Entry}
use Rattle.wf_flat.specs.State.{HartState}
use Rattle.wf_flat.specs.Steps.{want_in}
use Rattle.wf_flat.specs.Changes.{reserves}
use Rattle.wf_legal.specs.Legal.{Moment, IsLegal, after, end_of, at_rest}
use Rattle.wf_laws.specs.Conditionals.{ConditionalsFollow, HasReserved, HasNoReserve, IsConditional, IsReserving}
use Rattle.wf_laws.proofs.HolderLemmas.{entry_of}
use Rattle.wf_laws.proofs.GripLemmas.{gripped_none}
use Rattle.wf_laws.proofs.ReservationLemmas.{IsNoReserve, same_place, unreserved_end}
use Rattle.wf_legal.proofs.JournalLemmas.{end_of-append}

-- a hart is in a try of a load-reserved, or is not
reserving_or_not : (o : Option HartState) → (IsSomeAnd o (λ hart. reserves (want_in hart) ≡ true) → ⊥) ⊎ IsSomeAnd o (λ hart. reserves (want_in hart) ≡ true)
reserving_or_not None = inl (λ e. e)
reserving_or_not (Some hart) = by_test (reserves (want_in hart)) refl
  where
    by_test : (b : Bool) → reserves (want_in hart) ≡ b → (reserves (want_in hart) ≡ true → ⊥) ⊎ (reserves (want_in hart) ≡ true)
    by_test true t = inr t
    by_test false t = inl (λ e. cc)

-- an entry is the Look of a load-reserved of the hart
record IsReserve (m : Moment) (h : ℕ) (actor : Actor) (e : Event) : Type 0 where
  va : ℕ
  width : ℕ
  value : ℕ
  is : entry_of actor e ≡ entry_of (Hart h) (Look va width value)
  reserving : IsReserving m h

reserve_or_not : (m : Moment) (h : ℕ) (actor : Actor) (e : Event) → IsNoReserve m h actor e ⊎ IsReserve m h actor e
reserve_or_not m h (Hart k) (Look va width value) = elim (cases_eq h k) [
  | inl same ↦ elim (reserving_or_not (slice_get m.flat.harts h)) [
    | inl unreserving ↦ inl (λ va' width' value' is reserving. unreserving reserving)
    | inr reserving ↦ inr (record { va = va; width = width; value = value; is = ap (λ (k : ℕ). entry_of (Hart k) (Look va width value)) (sym same); reserving = reserving })
  ]
  | inr apart ↦ inl (λ va' width' value' is reserving. apart (let actors : Hart k ≡ Hart h = ap (λ (entry : Entry). entry.actor) is in cc))
]
reserve_or_not m h actor e = inl (λ va width value is reserving.
    let actors : actor ≡ Hart h = ap (λ (entry : Entry). entry.actor) is in
    let events : e ≡ Look va width value = ap (λ (entry : Entry). entry.event) is in
    cc)

-- entries have a latest load-reserved of the hart, or none
record Latest (m : Moment) (h : ℕ) (entries : List Entry) : Type 0 where
  va : ℕ
  width : ℕ
  reserved : HasReserved m h va width entries

latest : (m : Moment) (h : ℕ) (entries : List Entry) → HasNoReserve m h entries ⊎ Latest m h entries
latest m h [] = inl tt
latest m h (entry ∷ entries) = elim (latest (after m entry.actor entry.event) h entries) [
  | inr later ↦ inr (record {
    va = later.va;
    width = later.width;
    reserved = record {
      front = entry ∷ later.reserved.front;
      value = later.reserved.value;
      back = later.reserved.back;
      joined = ap (λ (es : List Entry). entry ∷ es) later.reserved.joined;
      reserving = later.reserved.reserving;
      latest = later.reserved.latest;
    };
  })
  | inl none ↦ elim (reserve_or_not m h entry.actor entry.event) [
    | inl other ↦ inl (other, none)
    | inr it ↦ inr (record {
      va = it.va;
      width = it.width;
      reserved = record {
        front = [];
        value = it.value;
        back = entries;
        joined = ap (λ (entry : Entry). entry ∷ entries) it.is;
        reserving = it.reserving;
        latest = subst (λ (entry : Entry). HasNoReserve (after m entry.actor entry.event) h entries) it.is none;
      };
    })
  ]
]

pub follows : ConditionalsFollow
follows deltas s front back h va width value free none l conditional = elim (latest (at_rest deltas s) h front) [
  | inl unreserved ↦ absurd (unreserved_end deltas s front back h va width value free none unreserved l conditional)
  | inr it ↦ (
      let start : Moment = at_rest deltas s in
      let r = it.reserved in
      let reads : Entry = record { actor = Hart h; event = Look it.va it.width r.value } in
      let writes : Entry = record { actor = Hart h; event = Put va width value } in
      let behind : Moment = after (end_of start r.front) (Hart h) (Look it.va it.width r.value) in
      let legal : IsLegal start (r.front ++ reads ∷ r.back ++ writes ∷ back) = subst (λ (es : List Entry). IsLegal start (es ++ writes ∷ back)) r.joined l in
      let there : IsConditional (end_of start (r.front ++ reads ∷ r.back)) h = subst (λ (es : List Entry). IsConditional (end_of start es) h) r.joined conditional in
      let now : IsConditional (end_of behind r.back) h = subst (λ (m : Moment). IsConditional m h) (end_of-append start r.front (reads ∷ r.back)) there in
      let same = same_place deltas s r.front r.back back h it.va it.width r.value va width value (gripped_none s free) legal r.reserving r.latest now in
      subst (λ (w : ℕ). HasReserved start h va w front) (sym same.1) (subst (λ (a : ℕ). HasReserved start h a it.width front) (sym same.0) r))
]
