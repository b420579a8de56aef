-- Leaves of pages of data, as the kernel plans them.
use Rattle.std.specs.Prelude.{ℕ, List, [], ◌∷◌, Option, Some, None, ◌/◌, ◌%◌}
use Rattle.wf_outside.specs.declared.sizes.TheConstants.{PAGE_WORDS}
use Rattle.wf_frames.specs.Layout.{word_place}
use Rattle.wf_sv39.specs.Entries.{pte_leaf}
use Rattle.wf_views.specs.declared.pages.PageAt.{PageAt}
use Rattle.wf_views.specs.declared.plan.Piece.{Piece}
use Rattle.wf_views.specs.declared.plan.Piece.TheVariants.{Pte}
use Rattle.wf_views.specs.Views.{ViewValue}
use Rattle.wf_homes.specs.Entries.{right_leaf}
use Rattle.wf_homes.specs.Kept.{node_frame}

-- the place of a page's leaf in the node at level 0 in a frame, of so many frames
abbrev pub leaf_place : ℕ → ℕ → ℕ → ℕ
leaf_place frames node page = word_place frames node (page % PAGE_WORDS)

-- the frame of a view's node for the leaf of a page, if it has one
abbrev pub node_for : ViewValue → ℕ → Option ℕ
node_for view page = node_frame view 0 (page / PAGE_WORDS)

-- the leaf of a page of data, with its right
abbrev pub leaf_for : PageAt → ℕ
leaf_for page = pte_leaf page.frame (right_leaf page.write)

-- the leaf of a page of data is stored in the node in a frame, if both are there
abbrev pub leaf_stored : ℕ → Option PageAt → Option ℕ → List Piece
leaf_stored frames (Some page) (Some node) =
    Pte (leaf_place frames node page.page) (leaf_for page) ∷ []
leaf_stored frames (Some page) None = []
leaf_stored frames None _ = []
