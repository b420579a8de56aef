-- Generations that are dead.
use Rattle.std.specs.Prelude.{ℕ, List, true, ◌∷◌, ◌++◌, ◌≡◌, ◌≢◌, Some, slice_get}
use Rattle.std.specs.List.{AllByRecursion}
use Rattle.wf_outside.specs.Images.{DeltaValue}
use Rattle.wf_flat.specs.declared.event.Actor.{Actor}
use Rattle.wf_flat.specs.declared.event.Actor.TheVariants.{Hart}
use Rattle.wf_flat.specs.declared.event.Event.TheVariants.{Fetch, Dead}
use Rattle.wf_flat.specs.declared.event.Entry.{Entry}
use Rattle.wf_flat.specs.declared.state.Life.TheVariants.{Running}
use Rattle.wf_flat.specs.State.{FlatState, GenState}
use Rattle.wf_flat.specs.Steps.{OfHart}
use Rattle.wf_effects.specs.Generations.{is_live}
use Rattle.wf_legal.specs.Legal.{Moment, IsLegal, at_rest, end_of}

-- At a Dead of a generation no running hart is in it.
abbrev pub DeadAreEmpty : Type 0
DeadAreEmpty =
    (deltas : List DeltaValue) (s : FlatState) (front back : List Entry) (actor : Actor)
    (generation : ℕ) →
    let start : Moment = at_rest deltas s in
    IsLegal start (front ++ record { actor = actor; event = Dead generation } ∷ back)
    → AllByRecursion (λ hart. hart.life ≡ Running → hart.generation ≢ generation)
    (end_of start front).flat.harts

-- each generation stands at the place of its number
abbrev pub StandsByNumber : FlatState → Type 0
StandsByNumber s =
    (g : ℕ) (gen : GenState) → slice_get s.gens g ≡ Some gen → gen.number ≡ g

-- each running hart is in a generation that lives
abbrev pub RunsInLive : FlatState → Type 0
RunsInLive s =
    AllByRecursion (λ hart. hart.life ≡ Running → is_live s hart.generation ≡ true) s.harts

-- From a Dead of a generation on no hart fetches its text.
abbrev pub DeadAreNotFetched : Type 0
DeadAreNotFetched =
    (deltas : List DeltaValue) (s : FlatState) (front middle back : List Entry) (actor : Actor)
    (generation h pc word : ℕ) →
    let start : Moment = at_rest deltas s in
    let dies : Entry = record { actor = actor; event = Dead generation } in
    let fetches : Entry = record { actor = Hart h; event = Fetch pc word } in
    let before : Moment = end_of start (front ++ dies ∷ middle) in
    StandsByNumber s → RunsInLive s
    → IsLegal start (front ++ dies ∷ middle ++ fetches ∷ back)
    → OfHart before.flat h (λ hart. hart.generation ≢ generation)
