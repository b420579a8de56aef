-- Load-reserved and store-conditional.
use Rattle.std.specs.Prelude.{ℕ, List, [], true, ◌++◌, ◌∷◌, ◌≡◌, None, ◌<◌}
use Rattle.std.specs.List.{AllByRecursion}
use Rattle.wf_outside.specs.Images.{DeltaValue}
use Rattle.wf_outside.specs.Pages.{page_of}
use Rattle.wf_flat.specs.declared.event.Actor.TheVariants.{Hart}
use Rattle.wf_flat.specs.declared.event.Event.{Event}
use Rattle.wf_flat.specs.declared.event.Event.TheVariants.{Look, Put, Swap}
use Rattle.wf_flat.specs.declared.event.Entry.{Entry}
use Rattle.wf_flat.specs.State.{FlatState}
use Rattle.wf_flat.specs.Steps.{OfHart, is_conditional, want_in}
use Rattle.wf_flat.specs.Changes.{reserves}
use Rattle.wf_legal.specs.Legal.{Moment, IsLegal, after, at_rest, end_of}
use Rattle.wf_laws.specs.Holders.{HoldersTry}

-- the hart is in a try of a load-reserved
abbrev pub IsReserving : Moment → ℕ → Type 0
IsReserving m h = OfHart m.flat h (λ hart. reserves (want_in hart) ≡ true)

-- the hart is in a try of a store-conditional
abbrev pub IsConditional : Moment → ℕ → Type 0
IsConditional m h = OfHart m.flat h (λ hart. is_conditional (want_in hart) ≡ true)

-- the event writes in the page
abbrev pub Writes : ℕ → Event → Type 0
Writes page (Put va width value) = page ≡ page_of va
Writes page (Swap va width old new) = page ≡ page_of va
Writes page event = ⊥

-- from a moment on, no Look of the hart among the entries is that of a load-reserved
abbrev pub HasNoReserve : Moment → ℕ → List Entry → Type 0
HasNoReserve m h [] = Unit {0}
HasNoReserve m h (entry ∷ entries) =
    ((va width value : ℕ) → entry ≡ record { actor = Hart h; event = Look va width value }
    → IsReserving m h → ⊥)
    × HasNoReserve (after m entry.actor entry.event) h entries

-- each page of data was born before the next birth
abbrev pub HasOldBirths : FlatState → Type 0
HasOldBirths s = AllByRecursion (λ page. page.birth < s.births) s.pages

-- Where a store-conditional of a hart writes, the hart's latest load-reserved read as many bytes at
-- the same address, and no entry between the two writes in their page.
abbrev pub ConditionalsAreAlone : Type 0
ConditionalsAreAlone =
    (deltas : List DeltaValue) (s : FlatState) (front middle back : List Entry)
    (h va width value va' width' value' : ℕ) →
    let reads : Entry = record { actor = Hart h; event = Look va width value } in
    let writes : Entry = record { actor = Hart h; event = Put va' width' value' } in
    let before : Moment = end_of (at_rest deltas s) front in
    let behind : Moment = after before (Hart h) (Look va width value) in
    HoldersTry s → HasOldBirths s
    → IsLegal (at_rest deltas s) (front ++ reads ∷ middle ++ writes ∷ back)
    → IsReserving before h → HasNoReserve behind h middle → IsConditional (end_of behind middle) h
    → (va' ≡ va) × (width' ≡ width)
    × AllByRecursion (λ entry. Writes (page_of va) entry.event → ⊥) middle

-- nobody holds a page
abbrev pub HoldsNone : FlatState → Type 0
HoldsNone s = AllByRecursion (λ page. page.holder ≡ None) s.pages

-- no hart has a reservation
abbrev pub HasNoReservation : FlatState → Type 0
HasNoReservation s = AllByRecursion (λ hart. hart.reservation ≡ None) s.harts

-- entries, the latest load-reserved of a hart among which read so many bytes at this address
pub record HasReserved (m : Moment) (h va width : ℕ) (entries : List Entry) : Type 0 where
  pub front : List Entry
  pub value : ℕ
  pub back : List Entry
  pub joined : entries ≡ front ++ record { actor = Hart h; event = Look va width value } ∷ back
  pub reserving : IsReserving (end_of m front) h
  pub latest : HasNoReserve (after (end_of m front) (Hart h) (Look va width value)) h back

-- A store-conditional that writes follows a load-reserved of its hart of the same address and
-- width.
abbrev pub ConditionalsFollow : Type 0
ConditionalsFollow =
    (deltas : List DeltaValue) (s : FlatState) (front back : List Entry) (h va width value : ℕ) →
    let start : Moment = at_rest deltas s in
    HoldsNone s → HasNoReservation s
    → IsLegal start (front ++ record { actor = Hart h; event = Put va width value } ∷ back)
    → IsConditional (end_of start front) h → HasReserved start h va width front
