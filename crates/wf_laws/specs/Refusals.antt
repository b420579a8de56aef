-- What calls are refused for.
use Rattle.std.specs.Prelude.{ℕ, List, true, false, ◌∷◌, ◌++◌, ◌≡◌, Some, Bool}
use Rattle.std.specs.List.{list_any}
use Rattle.rv_inst.specs.Meanings.{next_pc}
use Rattle.wf_outside.specs.declared.refusal.Refusal.{Refusal}
use Rattle.wf_outside.specs.declared.refusal.Refusal.TheVariants.{Inside}
use Rattle.wf_outside.specs.Images.{DeltaValue}
use Rattle.wf_flat.specs.declared.event.Actor.TheVariants.{Hart}
use Rattle.wf_flat.specs.declared.event.Event.TheVariants.{Move, Refused}
use Rattle.wf_flat.specs.declared.event.Entry.{Entry}
use Rattle.wf_flat.specs.State.{FlatState, HartState}
use Rattle.wf_flat.specs.Steps.{OfHart}
use Rattle.wf_effects.specs.Generations.{is_live, jumps_in, newest}
use Rattle.wf_verdict.specs.declared.requests.Request.TheVariants.{Migrates, Quiesces}
use Rattle.wf_verdict.specs.Requests.{requested_by}
use Rattle.wf_verdict.specs.Verdict.{is_in_jump, refusal_of}
use Rattle.wf_legal.specs.Legal.{Moment, IsLegal, at_rest, end_of}

-- A Refused of a hart gives the first refusal of the table that applies to what the hart requests.
abbrev pub RefusalsAreOfTable : Type 0
RefusalsAreOfTable =
    (deltas : List DeltaValue) (s : FlatState) (front back : List Entry) (h : ℕ)
    (reason : Refusal) →
    let start : Moment = at_rest deltas s in
    let before : Moment = end_of start front in
    IsLegal start (front ++ record { actor = Hart h; event = Refused reason } ∷ back)
    → OfHart before.flat h
    (λ hart.
    refusal_of deltas before.flat (next_pc hart.arch.pc) (requested_by hart) ≡ Some reason)

-- the address at which a hart goes on is inside a jump of the generation's text; this depends on
-- the hart's pc and on those jumps alone
abbrev pub goes_inside : FlatState → ℕ → HartState → Bool
goes_inside s generation hart =
    list_any (is_in_jump (next_pc hart.arch.pc)) (jumps_in s generation)

-- A hart whose migrate to a generation that lives is refused would go on inside a jump there, and
-- that is the reason.
abbrev pub MigratesAreRefusedInside : Type 0
MigratesAreRefusedInside =
    (deltas : List DeltaValue) (s : FlatState) (front back : List Entry) (h generation : ℕ)
    (reason : Refusal) →
    let start : Moment = at_rest deltas s in
    let before : Moment = end_of start front in
    IsLegal start (front ++ record { actor = Hart h; event = Refused reason } ∷ back)
    → is_live before.flat generation ≡ true
    → OfHart before.flat h
    (λ hart.
    requested_by hart ≡ Migrates generation
    → (reason ≡ Inside (next_pc hart.arch.pc))
    × (goes_inside before.flat generation hart ≡ true))

-- A hart whose quiesce is refused would go on inside a jump of the newest generation, and that is
-- the reason.
abbrev pub QuiescesAreRefusedInside : Type 0
QuiescesAreRefusedInside =
    (deltas : List DeltaValue) (s : FlatState) (front back : List Entry) (h : ℕ)
    (reason : Refusal) →
    let start : Moment = at_rest deltas s in
    let before : Moment = end_of start front in
    IsLegal start (front ++ record { actor = Hart h; event = Refused reason } ∷ back)
    → OfHart before.flat h
    (λ hart.
    requested_by hart ≡ Quiesces
    → (reason ≡ Inside (next_pc hart.arch.pc))
    × (goes_inside before.flat (newest before.flat) hart ≡ true))

-- A hart that moves to a generation goes on inside no jump there.
abbrev pub MovesAreOutside : Type 0
MovesAreOutside =
    (deltas : List DeltaValue) (s : FlatState) (front back : List Entry) (h generation : ℕ) →
    let start : Moment = at_rest deltas s in
    let before : Moment = end_of start front in
    IsLegal start (front ++ record { actor = Hart h; event = Move generation } ∷ back)
    → OfHart before.flat h (λ hart. goes_inside before.flat generation hart ≡ false)
