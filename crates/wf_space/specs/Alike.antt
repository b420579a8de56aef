-- What words and records stand for does not depend on much of the harts.
use Rattle.std.specs.Prelude.{ℕ, List, Option, ◌↔◌}
use Rattle.wf_frames.specs.Layout.{WordsValue}
use Rattle.wf_views.specs.declared.records.Records.{Records}
use Rattle.wf_flat.specs.declared.event.Actor.{Actor}
use Rattle.wf_flat.specs.State.{FlatState, HartState}
use Rattle.wf_homes.specs.Homes.{Homes}
use Rattle.wf_homes.specs.Kept.{IsResident}
use Rattle.wf_homes.specs.Stands.{StandsFor}

-- a state with these harts, and this actor inside the kernel
abbrev pub with_harts : FlatState → List HartState → Option Actor → FlatState
with_harts s harts inside = record s { harts = harts; inside = inside }

-- the same harts run in each generation
abbrev pub SameResidents : FlatState → FlatState → Type 0
SameResidents s t = (generation h : ℕ) → IsResident s generation h ↔ IsResident t generation h

-- Whatever words and records stand for, they stand for any state that differs from it in the harts
-- and in who is inside the kernel alone, where the same harts run in each generation.
abbrev pub HartsStand : Type 0
HartsStand =
    (words : WordsValue) (r : Records) (homes : Homes) (s : FlatState) (harts : List HartState)
    (inside : Option Actor)
    → StandsFor words r homes s → SameResidents s (with_harts s harts inside)
    → StandsFor words r homes (with_harts s harts inside)
