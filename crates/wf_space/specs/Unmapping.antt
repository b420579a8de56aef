-- What an unmap does with memory: the pieces and changes of its plan, and what words and records
-- stand for after it.
use Rattle.std.specs.Prelude.{ℕ, List, [], ◌∷◌, ◌++◌, Bool, false, Option, Some, None, ◌≡◌, ◌<◌, if◌then◌else◌, map, nat_lt, not, unwrap_or, IsSomeAnd}
use Rattle.std.specs.Option.{option_map}
use Rattle.std.specs.List.{AllByRecursion, flat_map}
use Rattle.wf_outside.specs.declared.sizes.TheConstants.{ADDRESS_PAGES}
use Rattle.wf_outside.specs.Lists.{IsRising}
use Rattle.wf_frames.specs.Layout.{WordsValue}
use Rattle.wf_views.specs.declared.plan.Change.{Change}
use Rattle.wf_views.specs.declared.plan.Change.TheVariants as change
use Rattle.wf_views.specs.declared.plan.Piece.{Piece}
use Rattle.wf_views.specs.declared.plan.Piece.TheVariants.{Leave, Pte}
use Rattle.wf_views.specs.declared.records.Records.{Records}
use Rattle.wf_views.specs.Lists.{has_number}
use Rattle.wf_views.specs.Views.{ViewValue, generation_number}
use Rattle.wf_flat.specs.Accesses.{is_ending}
use Rattle.wf_flat.specs.Changes.{change_page}
use Rattle.wf_flat.specs.Memory.{data_in}
use Rattle.wf_flat.specs.State.{FlatState, PageState}
use Rattle.wf_effects.specs.Effects.{page_gone}
use Rattle.wf_homes.specs.Homes.{DataOf, Homes, TextOf, has_tenant, home_frame, without_page}
use Rattle.wf_homes.specs.Kept.{fields_at}
use Rattle.wf_homes.specs.Stands.{StandsFor}
use Rattle.wf_space.specs.Changes.{MayNote, with_changes}
use Rattle.wf_space.specs.Leaves.{leaf_place, node_for}
use Rattle.wf_space.specs.Leaving.{going}
use Rattle.wf_space.specs.Pieces.{ArePerformed, MayPerformAll}

-- the leaf of a page is cleared in the node in a frame, of so many frames, if it is there
abbrev pub cleared_at : ℕ → ℕ → Option ℕ → List Piece
cleared_at frames page None = []
cleared_at frames page (Some node) = Pte (leaf_place frames node page) 0 ∷ []

-- the leaf of a page is cleared in a view, if the view has met the page
abbrev pub leaf_cleared : ℕ → ℕ → ViewValue → List Piece
leaf_cleared frames page view =
    if has_number view.met.items page then cleared_at frames page (node_for view page) else []

-- the leaves of a page are cleared in views, in their order
abbrev pub leaves_cleared : ℕ → List ViewValue → ℕ → List Piece
leaves_cleared frames views page = flat_map (leaf_cleared frames page) views

-- the pieces of an unmap: leaves are cleared by page, and then by generation; and then each page
-- leaves
abbrev pub unmap_pieces : Records → List ℕ → List Piece
unmap_pieces r pages =
    flat_map (leaves_cleared r.limits.frames r.views.views) pages ++ map Leave pages

-- the changes of an unmap: each page is going
abbrev pub unmap_changes : List ℕ → List Change
unmap_changes pages = map change.Going pages

-- something is done for each page, one after another
abbrev pub each_done : {S : Type 0} → (ℕ → S → S) → List ℕ → S → S
each_done f [] s = s
each_done f (page ∷ pages) s = each_done f pages (f page s)

-- one page more is Going
abbrev pub page_going : ℕ → FlatState → FlatState
page_going page s = change_page s page going

-- the home of a page of data wears out where it is given up: by these words, its frame is in its
-- last incarnation
abbrev pub wears : WordsValue → ℕ → Homes → ℕ → Bool
wears words last homes page =
    unwrap_or
    (option_map (λ frame. not (nat_lt (fields_at words frame).inc last))
    (home_frame homes (DataOf page)))
    false

-- the homes after pages are gone, one after another; the words are those before
abbrev pub homes_left : WordsValue → ℕ → Homes → List ℕ → Homes
homes_left words last homes [] = homes
homes_left words last homes (page ∷ pages) =
    homes_left words last (without_page homes page (wears words last homes page)) pages

-- the state after pages are gone, one after another; the words and the homes are those before
abbrev pub state_left : WordsValue → Homes → FlatState → List ℕ → FlatState
state_left words homes s [] = s
state_left words homes s (page ∷ pages) =
    let worn : Bool = wears words s.limits.last_birth homes page in
    state_left words (without_page homes page worn) (page_gone s page worn) pages

-- a page of data can be unmapped at once: it is not Ending, and no hart holds it
pub record IsUnheld (page : PageState) : Type 0 where
  pub lasts : is_ending page.stage ≡ false
  pub free : page.holder ≡ None

-- In a state pages may be unmapped at once: each is a page of data that no hart holds, and no text;
-- and pages, and those that generations have met, are those of addresses.
pub record MayUnmap (s : FlatState) (pages : List ℕ) : Type 0 where
  pub there : AllByRecursion (λ page. IsSomeAnd (data_in s.pages page) IsUnheld) pages
  pub no_text : AllByRecursion
      (λ page. (generation : ℕ) → has_tenant s (TextOf generation page) ≡ false) pages
  pub pages_low : AllByRecursion (λ page. page.number < ADDRESS_PAGES) s.pages
  pub met_low : AllByRecursion (λ pair. pair.1 < ADDRESS_PAGES) s.met

-- An unmap of pages that no hart holds: where its changes are made and its pieces performed, words
-- and records stand for the state in which the pages were Going and are gone.
abbrev pub UnmapStands : Type 0
UnmapStands =
    (words new : WordsValue) (r q : Records) (homes : Homes) (s : FlatState) (pages : List ℕ)
    → StandsFor words r homes s → MayUnmap s pages → IsRising pages
    → IsRising (map generation_number r.views.views)
    → ArePerformed words (with_changes r (unmap_changes pages)) (unmap_pieces r pages) new q
    → StandsFor new q (homes_left words s.limits.last_birth homes pages)
    (state_left words homes (each_done page_going pages s) pages)

-- an unmap can be carried out: its changes can be made, and its pieces performed after them
pub record CanUnmap (words : WordsValue) (r : Records) (pages : List ℕ) : Type 0 where
  pub changes : MayNote r (unmap_changes pages)
  pub pieces : MayPerformAll words (with_changes r (unmap_changes pages)) (unmap_pieces r pages)

-- An unmap of pages that no hart holds can be carried out.
abbrev pub UnmapsCanBeCarriedOut : Type 0
UnmapsCanBeCarriedOut =
    (words : WordsValue) (r : Records) (homes : Homes) (s : FlatState) (pages : List ℕ)
    → StandsFor words r homes s → MayUnmap s pages → IsRising pages
    → IsRising (map generation_number r.views.views) → CanUnmap words r pages
