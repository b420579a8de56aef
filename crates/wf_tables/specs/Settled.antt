-- Homes that are settled, and the events that unsettle them.
use Rattle.std.specs.Prelude.{List, Bool, true, false, ◌≡◌}
use Rattle.std.specs.List.{list_any}
use Rattle.wf_flat.specs.declared.event.Event.{Event}
use Rattle.wf_flat.specs.declared.event.Event.TheVariants.{Fetch, Look, Take, Put, Swap, Miss, End, Again, Wait, Enter, Sync, Trap, Exit, Out, Idle, Map, Going, Ending, Gone, Born, Move, Dead, Refused}
use Rattle.wf_flat.specs.declared.event.Entry.{Entry}
use Rattle.wf_flat.specs.State.{FlatState}
use Rattle.wf_homes.specs.Homes.{Homes, homes_in}

-- homes are settled in a state: nothing that has one left, and nothing is new for which there is a
-- frame
abbrev pub AreSettled : Homes → FlatState → Type 0
AreSettled homes s = homes_in homes s ≡ homes

-- the event changes what lies in frames: a page comes or is gone, or a generation is born or dead
abbrev pub changes_tenants : Event → Bool
changes_tenants (Map page n write patch) = true
changes_tenants (Gone page worn) = true
changes_tenants (Born generation parent patch) = true
changes_tenants (Dead generation) = true
changes_tenants (Fetch pc word) = false
changes_tenants (Look va width value) = false
changes_tenants (Take page) = false
changes_tenants (Put va width value) = false
changes_tenants (Swap va width old new) = false
changes_tenants (Miss va) = false
changes_tenants (End pc) = false
changes_tenants (Again page) = false
changes_tenants (Wait on) = false
changes_tenants Enter = false
changes_tenants (Sync generation page) = false
changes_tenants (Trap cause value) = false
changes_tenants (Exit code) = false
changes_tenants (Out byte) = false
changes_tenants Idle = false
changes_tenants (Going page n) = false
changes_tenants (Ending page) = false
changes_tenants (Move generation) = false
changes_tenants (Refused reason) = false

-- one of the entries changes what lies in frames
abbrev pub change_tenants : List Entry → Bool
change_tenants entries = list_any (λ entry. changes_tenants entry.event) entries
