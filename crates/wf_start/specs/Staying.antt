-- Homes stay, but for those that are given up.
use Rattle.std.specs.Prelude.{ℕ, List, [], ◌∷◌, Bool, ◌≡◌}
use Rattle.wf_frames.specs.Layout.{WordsValue}
use Rattle.wf_views.specs.declared.records.Records.{Records}
use Rattle.wf_flat.specs.declared.event.Event.{Event}
use Rattle.wf_flat.specs.declared.event.Event.TheVariants.{Gone}
use Rattle.wf_flat.specs.State.{FlatState}
use Rattle.wf_homes.specs.Homes.{AreHomes, Homes, homes_after, homes_in, without_page}
use Rattle.wf_homes.specs.Stands.{StandsFor}
use Rattle.wf_space.specs.Unmapping.{homes_left, wears}

-- where whatever is there has a home, and nothing else has, all homes stay
abbrev pub HomesStay : Type 0
HomesStay = (homes : Homes) (s : FlatState) → AreHomes homes s → homes_in homes s ≡ homes

-- the entries of pages that leave, one after another: each is gone, and worn exactly where its home
-- wears out, since the frame is in its last incarnation
abbrev pub gone_events : WordsValue → ℕ → Homes → List ℕ → List Event
gone_events words last homes [] = []
gone_events words last homes (page ∷ pages) =
    let worn : Bool = wears words last homes page in
    Gone page worn ∷ gone_events words last (without_page homes page worn) pages

-- The homes after an unmap are those that are made from the homes before by the entries of its
-- pages, whatever words and records stand for the state after it.
abbrev pub HomesAfterUnmap : Type 0
HomesAfterUnmap =
    (words new : WordsValue) (q : Records) (homes : Homes) (s : FlatState) (last : ℕ)
    (pages : List ℕ)
    → StandsFor new q (homes_left words last homes pages) s
    → homes_after homes (gone_events words last homes pages) s
    ≡ homes_left words last homes pages
