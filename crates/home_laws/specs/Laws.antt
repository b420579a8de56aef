-- What holds of homes in journals.
use Rattle.std.specs.Prelude.{List, false, ◌≡◌, map}
use Rattle.wf_flat.specs.declared.event.Entry.{Entry}
use Rattle.wf_flat.specs.State.{FlatState}
use Rattle.wf_legal.specs.Legal.{Moment, end_of}
use Rattle.wf_homes.specs.Homes.{Homes, homes_after, homes_in}
use Rattle.wf_tables.specs.Settled.{AreSettled, change_tenants}

-- where homes were made for a state, they are settled in it
abbrev pub HomesSettle : Type 0
HomesSettle = (homes : Homes) (s : FlatState) → AreSettled (homes_in homes s) s

-- homes that are settled stay as they are behind entries that change nothing of what lies in frames
abbrev pub HomesStay : Type 0
HomesStay =
    (homes : Homes) (m : Moment) (entries : List Entry) → AreSettled homes m.flat
    → change_tenants entries ≡ false
    → homes_after homes (map (λ entry. entry.event) entries) (end_of m entries).flat ≡ homes
