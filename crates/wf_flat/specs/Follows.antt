-- How a journal follows a script: in units, each a whole try of a hart.
use Rattle.std.specs.Prelude.{ℕ, List, [], ◌∷◌, Bool, true, false, ◌≡◌, MatchBool}
use Rattle.wf_flat.specs.declared.event.Actor.TheVariants.{Hart}
use Rattle.wf_flat.specs.declared.event.Event.{Event}
use Rattle.wf_flat.specs.declared.event.Event.TheVariants.{End, Trap, Exit, Again, Wait, Idle}
use Rattle.wf_flat.specs.declared.event.Entry.{Entry}

-- a unit ends with such an event
abbrev pub ends_unit : Event → Bool
ends_unit (End pc) = true
ends_unit (Trap cause value) = true
ends_unit (Exit code) = true
ends_unit (Again page) = true
ends_unit (Wait on) = true
ends_unit Idle = true
ends_unit event = false

-- entries of one hart, up to and with the first that ends a unit
abbrev pub IsUnit : ℕ → List Entry → Type 0
IsUnit h [] = ⊥
IsUnit h (entry ∷ entries) =
    (entry.actor ≡ Hart h) × MatchBool (ends_unit entry.event) (entries ≡ []) (IsUnit h entries)
