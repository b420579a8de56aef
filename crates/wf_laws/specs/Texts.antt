-- The texts of generations.
use Rattle.std.specs.Prelude.{ℕ, List, [], ◌∷◌, ◌++◌, ◌≡◌, ◌⊎◌, ◌<◌, ◌==◌, Option, Some, if◌then◌else◌, length}
use Rattle.wf_outside.specs.Images.{DeltaValue}
use Rattle.wf_flat.specs.declared.event.Actor.{Actor}
use Rattle.wf_flat.specs.declared.event.Actor.TheVariants.{Hart}
use Rattle.wf_flat.specs.declared.event.Event.{Event}
use Rattle.wf_flat.specs.declared.event.Event.TheVariants.{Fetch, Born, Move}
use Rattle.wf_flat.specs.declared.event.Entry.{Entry}
use Rattle.wf_flat.specs.State.{FlatState}
use Rattle.wf_flat.specs.Memory.{word_at}
use Rattle.wf_flat.specs.Steps.{OfHart, generation_text}
use Rattle.wf_effects.specs.Effects.{born_text, delta_of}
use Rattle.wf_legal.specs.Legal.{Moment, IsLegal, at_rest, end_of}

-- No entry changes the text of a generation.
abbrev pub TextsStay : Type 0
TextsStay =
    (m : Moment) (entries : List Entry) (generation : ℕ) → IsLegal m entries
    → generation < length m.flat.gens
    → generation_text (end_of m entries).flat generation ≡ generation_text m.flat generation

-- A generation that is born has the next number, and from then on its parent's text, or that
-- spliced with the patch that its Born names.
abbrev pub TextsAreTold : Type 0
TextsAreTold =
    (deltas : List DeltaValue) (s : FlatState) (front back : List Entry) (actor : Actor)
    (generation parent : ℕ) (patch : Option ℕ) →
    let start : Moment = at_rest deltas s in
    let born : Entry = record { actor = actor; event = Born generation parent patch } in
    let before : Moment = end_of start front in
    IsLegal start (front ++ born ∷ back)
    → (generation ≡ length before.flat.gens)
    × (generation_text (end_of start (front ++ born ∷ back)).flat generation
    ≡ born_text before.flat parent (delta_of deltas patch))

-- an entry of the journal bears the generation of the number
pub record WasBorn (entries : List Entry) (generation : ℕ) : Type 0 where
  pub front : List Entry
  pub actor : Actor
  pub parent : ℕ
  pub patch : Option ℕ
  pub back : List Entry
  pub joined : entries
      ≡ front ++ record { actor = actor; event = Born generation parent patch } ∷ back

-- A generation that there is was there at the start, or an entry bore it.
abbrev pub GenerationsAreBorn : Type 0
GenerationsAreBorn =
    (deltas : List DeltaValue) (s : FlatState) (entries : List Entry) (generation : ℕ)
    → IsLegal (at_rest deltas s) entries
    → generation < length (end_of (at_rest deltas s) entries).flat.gens
    → (generation < length s.gens) ⊎ WasBorn entries generation

-- the generation of a hart after an event of an actor, where it was this before
abbrev pub generation_after : ℕ → ℕ → Actor → Event → ℕ
generation_after h generation (Hart mover) (Move to) = if mover == h then to else generation
generation_after h generation actor event = generation

-- the generation of a hart's last Move, and where it makes none, this
abbrev pub last_move : ℕ → ℕ → List Entry → ℕ
last_move h generation [] = generation
last_move h generation (entry ∷ entries) =
    last_move h (generation_after h generation entry.actor entry.event) entries

-- Each Fetch of a hart gives the four bytes at its pc of the text of the generation of the hart's
-- last Move, and where it made none, of its generation at the start.
abbrev pub FetchesAreText : Type 0
FetchesAreText =
    (deltas : List DeltaValue) (s : FlatState) (front back : List Entry) (h pc word : ℕ) →
    let start : Moment = at_rest deltas s in
    IsLegal start (front ++ record { actor = Hart h; event = Fetch pc word } ∷ back)
    → OfHart s h
    (λ hart.
    word_at (generation_text (end_of start front).flat (last_move h hart.generation front)) pc
    ≡ Some word)
