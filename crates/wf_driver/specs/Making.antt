-- What a machine makes between two places of a run.
use Rattle.std.specs.Prelude.{ℕ, List, [], ◌∷◌, ◌++◌, ◌≡◌, length}
use Rattle.wf_flat.specs.declared.event.Entry.{Entry}
use Rattle.wf_legal.specs.Legal.{IsLegal, end_of}
use Rattle.wf_follow.specs.Places.{Place}
use Rattle.wf_driver.specs.Machines.{LeadsOn, MachineValue, moment_of}

-- A machine made legal entries that lead to its new state, and no listing. They lead in this way
-- from its old place to its new one.
pub record HasMade (Way : Place → List Entry → Place → Type 0) (old new : MachineValue)
    : Type 0 where
  pub made : List Entry
  pub entries : new.entries ≡ old.entries ++ made
  pub listings : new.listings ≡ old.listings
  pub legal : IsLegal (moment_of old) made
  pub reached : moment_of new ≡ end_of (moment_of old) made
  pub fits : LeadsOn (λ p q. Way p made q) old new

-- a machine with one more listing, of these lines, at the place where it stands
abbrev pub with_listing : List ℕ → MachineValue → MachineValue
with_listing lines machine = record machine {
  listings = machine.listings ++ record { place = length machine.entries; lines = lines } ∷ [];
}
