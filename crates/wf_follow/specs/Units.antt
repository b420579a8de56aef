-- Units: what `step` and `run` make.
use Rattle.std.specs.Prelude.{ℕ, zero, suc, List, [], ◌∷◌, ◌++◌, Option, Some, None, ◌≡◌, ◌+◌, ◌&&◌, if◌then◌else◌, nat_le}
use Rattle.std.specs.Option.{option_or}
use Rattle.wf_flat.specs.declared.event.Actor.{Actor}
use Rattle.wf_flat.specs.declared.event.Actor.TheVariants.{Hart}
use Rattle.wf_flat.specs.declared.event.Event.{Event}
use Rattle.wf_flat.specs.declared.event.Event.TheVariants.{Idle}
use Rattle.wf_flat.specs.declared.event.Entry.{Entry}
use Rattle.wf_flat.specs.State.{HartState}
use Rattle.wf_flat.specs.Follows.{IsUnit}
use Rattle.wf_effects.specs.Generations.{is_running}
use Rattle.wf_follow.specs.Places.{Place, behind, paced}

-- one way leads to a place, and another from there on
pub record Leads (First Next : Place → List Entry → Place → Type 0) (p : Place)
    (entries : List Entry) (q : Place) : Type 0 where
  pub mid : Place
  pub front : List Entry
  pub back : List Entry
  pub joined : entries ≡ front ++ back
  pub first : First p front mid
  pub next : Next mid back q

-- no entry leads from a place to itself
abbrev pub Stays : Place → List Entry → Place → Type 0
Stays p entries q = (entries ≡ []) × (q ≡ p)

-- so many of one way, one after another
abbrev pub Times : ℕ → (Place → List Entry → Place → Type 0) → Place → List Entry → Place → Type 0
Times zero One p entries q = Stays p entries q
Times (suc n) One p entries q = Leads One (Times n One) p entries q

-- a unit of a hart: its entries, up to and with the first that ends its try, stops it or idles
abbrev pub IsUnitOf : ℕ → Place → List Entry → Place → Type 0
IsUnitOf h p entries q = IsUnit h entries × (q ≡ paced h 0 (behind p entries))

-- the lowest hart that runs, from this number on; the harts are numbered from another on
abbrev pub lowest_running : ℕ → ℕ → List HartState → Option ℕ
lowest_running least h [] = None
lowest_running least h (hart ∷ harts) =
    if nat_le least h && is_running hart.life then Some h
    else lowest_running least (suc h) harts

-- the number behind that of a hart, or the first where there is none
abbrev pub number_behind : Option ℕ → ℕ
number_behind None = 0
number_behind (Some h) = h + 1

-- whose turn it is: of the hart that runs next behind the one that `run` stepped last, in the order
-- of their numbers and round again
abbrev pub hart_in_turn : Place → Option ℕ
hart_in_turn p =
    option_or (lowest_running (number_behind p.last) 0 p.moment.flat.harts)
    (lowest_running 0 0 p.moment.flat.harts)

-- an entry of an actor, alone
abbrev pub only : Actor → Event → List Entry
only actor event = record { actor = actor; event = event } ∷ []

-- the unit of the hart whose turn it is; where none runs, h0 idles
abbrev pub IsTurnOf : Option ℕ → Place → List Entry → Place → Type 0
IsTurnOf None p entries q =
    (entries ≡ only (Hart 0) Idle) × (q ≡ paced 0 0 (behind p entries))
IsTurnOf (Some h) p entries q =
    IsUnit h entries × (q ≡ record (paced h 0 (behind p entries)) { last = Some h })

-- a turn of `run`
abbrev pub IsTurn : Place → List Entry → Place → Type 0
IsTurn p entries q = IsTurnOf (hart_in_turn p) p entries q
