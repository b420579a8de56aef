-- The homes after an unmap are those that its entries make.
use Rattle.std.proofs.Common.{◌≡◌, ℕ, List, [], ◌∷◌, refl, ap, ◌∙◌}
use Rattle.std.specs.List.{fold}
use Rattle.wf_frames.specs.Layout.{WordsValue}
use Rattle.wf_homes.specs.Homes.{Homes, homes_behind, homes_in, without_page}
use Rattle.wf_start.proofs.StayLemmas.{homes_kept}
use Rattle.wf_space.specs.Unmapping.{homes_left, wears}
use Rattle.wf_start.specs.Staying.{HomesAfterUnmap, gone_events}

-- entry by entry the homes are given up
given_up : (words : WordsValue) (last : ℕ) (homes : Homes) (pages : List ℕ) → fold homes_behind homes (gone_events words last homes pages) ≡ homes_left words last homes pages
given_up words last homes [] = refl
given_up words last homes (page ∷ pages) = given_up words last (without_page homes page (wears words last homes page)) pages

pub homes_after_pages : HomesAfterUnmap
homes_after_pages words new q homes s last pages st =
    ap (λ (h : Homes). homes_in h s) (given_up words last homes pages) ∙ homes_kept (homes_left words last homes pages) s st.housed
