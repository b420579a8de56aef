-- The homes of a machine, which its code brings up to date where they are asked for.
use Rattle.std.specs.Prelude.{ℕ, List, false, Option, Some, None, ◌≡◌, ◌≤◌, drop, length, map}
use Rattle.wf_flat.specs.declared.event.Entry.{Entry}
use Rattle.wf_flat.specs.State.{FlatState}
use Rattle.wf_homes.specs.Homes.{Homes, homes_after}
use Rattle.wf_tables.specs.Settled.{change_tenants}

-- the homes now, in a state to which entries led: these homes were those before all but so many of
-- the entries
abbrev pub homes_now : Homes → ℕ → List Entry → FlatState → Homes
homes_now homes accounted entries s =
    homes_after homes (map (λ entry. entry.event) (drop accounted entries)) s

-- the homes now, if there are some
abbrev pub own_homes : Option Homes → ℕ → List Entry → FlatState → Option Homes
own_homes None accounted entries s = None
own_homes (Some homes) accounted entries s = Some (homes_now homes accounted entries s)

-- Homes account for so many of the entries: so many there are, and where none of the others changes
-- what lies in frames, the homes are those now.
pub record AreHomesOf (homes : Homes) (accounted : ℕ) (entries : List Entry) (s : FlatState)
    : Type 0 where
  pub low : accounted ≤ length entries
  pub stay : change_tenants (drop accounted entries) ≡ false
      → homes_now homes accounted entries s ≡ homes

-- so do the homes of a machine, if it has some
abbrev pub AreOwnHomesOf : Option Homes → ℕ → List Entry → FlatState → Type 0
AreOwnHomesOf None accounted entries s = Unit {0}
AreOwnHomesOf (Some homes) accounted entries s = AreHomesOf homes accounted entries s
