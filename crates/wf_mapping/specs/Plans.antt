-- The plan of a mapping: its pieces and its changes.
use Rattle.std.specs.Prelude.{ℕ, List, [], ◌∷◌, ◌++◌, Bool, true, false, Option, Some, None, ◌≡◌, ◌+◌, ◌/◌, ◌%◌, ◌==◌, ◌&&◌, if◌then◌else◌, map, option_and_then, slice_set}
use Rattle.std.specs.List.{flat_map, fold}
use Rattle.wf_outside.specs.declared.sizes.TheConstants.{PAGE_WORDS}
use Rattle.wf_frames.specs.Layout.{word_place}
use Rattle.wf_sv39.specs.Entries.{pte_node}
use Rattle.wf_views.specs.declared.pages.PageAt.{PageAt}
use Rattle.wf_views.specs.declared.plan.Change.{Change}
use Rattle.wf_views.specs.declared.plan.Change.TheVariants.{Birth, Mark, Node, Page, Reach}
use Rattle.wf_views.specs.declared.plan.Piece.{Piece}
use Rattle.wf_views.specs.declared.plan.Piece.TheVariants.{Fill, Live, Pte}
use Rattle.wf_views.specs.declared.plan.Plan.{Plan}
use Rattle.wf_views.specs.declared.records.Records.{Records}
use Rattle.wf_views.specs.Views.{view_of}
use Rattle.wf_homes.specs.Kept.{node_frame}
use Rattle.wf_mapping.specs.declared.layout.Mapping.{Mapping}
use Rattle.wf_mapping.specs.declared.nodes.NewNode.{NewNode}
use Rattle.wf_mapping.specs.Blanks.{blank}
use Rattle.wf_mapping.specs.Layout.{new_nodes, new_pages}

-- the frame of a page of data is filled with zeros
abbrev pub page_filled : PageAt → Piece
page_filled page = Fill page.frame blank

-- a node is one of those that another of the same page table points to
abbrev pub is_below : NewNode → NewNode → Bool
is_below above below =
    (above.generation == below.generation) && (above.node.level == below.node.level + 1)
    && (above.node.prefix == below.node.prefix / PAGE_WORDS)

-- the words of a node, with the pointer to another, if that is below it
abbrev pub with_pointer : NewNode → List ℕ → NewNode → List ℕ
with_pointer above words below =
    if is_below above below
    then slice_set words (below.node.prefix % PAGE_WORDS) (pte_node below.node.frame) else words

-- the words of a new node: the pointers to those of the new nodes that are below it, and else zeros
abbrev pub words_of_node : List NewNode → NewNode → List ℕ
words_of_node nodes above = fold (with_pointer above) blank nodes

-- the frame of a new node is filled with its words
abbrev pub node_filled : List NewNode → NewNode → Piece
node_filled nodes new = Fill new.node.frame (words_of_node nodes new)

-- the frame of a page of data is live
abbrev pub page_live : PageAt → Piece
page_live page = Live page.frame

-- the frame of the node above a new one, if that stood there before
abbrev pub node_above : Records → NewNode → Option ℕ
node_above r new =
    option_and_then
    (λ view. node_frame view (new.node.level + 1) (new.node.prefix / PAGE_WORDS))
    (view_of r.views new.generation)

-- the place of the pointer to a node of this prefix, in the node in this frame, of so many frames
abbrev pub pointer_place : ℕ → ℕ → ℕ → ℕ
pointer_place frames above prefix = word_place frames above (prefix % PAGE_WORDS)

-- the pointer to a new node is stored in the node in this frame, if there is one
abbrev pub pointer_in : ℕ → NewNode → Option ℕ → List Piece
pointer_in frames new None = []
pointer_in frames new (Some above) =
    Pte (pointer_place frames above new.node.prefix) (pte_node new.node.frame) ∷ []

-- the pointer to a new node is stored in the node above it, if that stood there before
abbrev pub pointer_stored : Records → NewNode → List Piece
pointer_stored r new = pointer_in r.limits.frames new (node_above r new)

-- the pieces of pages and nodes that are new: their frames are filled; then those of the pages are
-- live; then the nodes that stood there before point to new ones
abbrev pub pieces_for : Records → List PageAt → List NewNode → List Piece
pieces_for r pages nodes =
    map page_filled pages ++ map (node_filled nodes) nodes ++ map page_live pages
    ++ flat_map (pointer_stored r) nodes

-- the pieces of a mapping
abbrev pub map_pieces : Records → Mapping → List Piece
map_pieces r mapping = pieces_for r (new_pages r mapping) (new_nodes r mapping)

-- the frame of a page of data is taken, in its next incarnation
abbrev pub page_marked : PageAt → Change
page_marked page = Mark page.frame true

-- the frame of a new node is taken
abbrev pub node_marked : NewNode → Change
node_marked new = Mark new.node.frame false

-- the place of 512 pages that a view reaches by a new node, if that is at level 0
abbrev pub place_reached : NewNode → List Change
place_reached new =
    if new.node.level == 0 then Reach new.generation new.node.prefix ∷ [] else []

-- a view has a new node, and reaches its place
abbrev pub node_noted : NewNode → List Change
node_noted new = Node new.generation new.node ∷ place_reached new

-- the changes of so many pages and of nodes that are new: their frames are taken; the pages are
-- recorded, and so many were born; the nodes are recorded, and what views reach by them
abbrev pub changes_for : ℕ → List PageAt → List NewNode → List Change
changes_for n pages nodes =
    map page_marked pages ++ map node_marked nodes ++ map Page pages ++ Birth n ∷ []
    ++ flat_map node_noted nodes

-- the changes of a mapping
abbrev pub map_changes : Records → Mapping → List Change
map_changes r mapping = changes_for mapping.pages (new_pages r mapping) (new_nodes r mapping)

-- a plan is that of a mapping
pub record IsMapPlan (r : Records) (mapping : Mapping) (plan : Plan) : Type 0 where
  pub pieces : plan.pieces.items ≡ map_pieces r mapping
  pub changes : plan.changes.items ≡ map_changes r mapping
