-- What the tables of a machine and the texts of its generations keep.
use Rattle.std.specs.Prelude.{ℕ, List, map, ◌≡◌}
use Rattle.wf_outside.specs.Pages.{PageValue}
use Rattle.wf_outside.specs.Images.{text_numbers}
use Rattle.wf_flat.specs.State.{FlatState, PageState}
use Rattle.wf_outside.specs.Lists.{IsRising}
use Rattle.wf_flat.specs.Memory.{met_key, with_met}

-- the numbers of pages of data
abbrev pub page_numbers : List PageState → List ℕ
page_numbers pages = map (λ page. page.number) pages

-- data pages stand by rising number, and what was met by rising generation and page
pub record IsOrdered (s : FlatState) : Type 0 where
  pub pages : IsRising (page_numbers s.pages)
  pub met : IsRising (map met_key s.met)

-- what a generation keeps: its pages of text stand by rising number, and so do the places of its
-- pages
pub record IsGen (text : List PageValue) (reach : List ℕ) : Type 0 where
  pub rising : IsRising (text_numbers text)
  pub reach_rising : IsRising reach

-- what was met, with one page that one generation has met now
pub record HasOneMore (old new : List (ℕ × ℕ)) : Type 0 where
  pub generation : ℕ
  pub page : ℕ
  pub is : new ≡ with_met old generation page
