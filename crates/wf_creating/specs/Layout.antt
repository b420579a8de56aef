-- Where the text and the page table of a generation lie that is born: each page and node in the
-- lowest free frame, the text first.
use Rattle.std.specs.Prelude.{ℕ, List, [], ◌∷◌, Some, ◌≡◌, ◌+◌, drop, length, map}
use Rattle.wf_views.specs.declared.records.Records.{Records}
use Rattle.wf_views.specs.declared.view.TextAt.{TextAt}
use Rattle.wf_views.specs.Lists.{RoomyValue}
use Rattle.wf_views.specs.Views.{ViewValue}
use Rattle.wf_homes.specs.Homes.{tree_nodes}
use Rattle.wf_mapping.specs.declared.nodes.MissingNode.{MissingNode}
use Rattle.wf_mapping.specs.declared.nodes.NewNode.{NewNode}
use Rattle.wf_mapping.specs.Layout.{free_in}
use Rattle.wf_mapping.specs.Nodes.{missing_node, nodes_placed}
use Rattle.wf_creating.specs.declared.layout.Birth.{Birth}
use Rattle.wf_creating.specs.Parents.{parent_jumps, parent_patches, parent_text, reach_at_birth, text_numbers_of}

-- the number of the generation that is born next
abbrev pub number_at_birth : Records → ℕ
number_at_birth r = length r.born.items

-- pages of text lie in frames, each in the next one
abbrev pub texts_placed : List ℕ → List ℕ → List TextAt
texts_placed [] frames = []
texts_placed (page ∷ pages) [] = []
texts_placed (page ∷ pages) (frame ∷ frames) =
    record { page = page; frame = frame } ∷ texts_placed pages frames

-- the pages of text of a generation that is born, in the lowest free frames
abbrev pub text_at_birth : Records → ℕ → List TextAt
text_at_birth r parent = texts_placed (text_numbers_of r parent) (free_in r)

-- the nodes that the page table of a generation needs that is born
abbrev pub nodes_needed : Records → ℕ → List MissingNode
nodes_needed r parent =
    map (missing_node (number_at_birth r)) (tree_nodes (reach_at_birth r parent))

-- the nodes of a generation that is born, in the lowest frames that are free beside those of its
-- text
abbrev pub nodes_at_birth : Records → ℕ → List NewNode
nodes_at_birth r parent =
    nodes_placed (nodes_needed r parent) (drop (length (parent_text r parent)) (free_in r))

-- the frame of the first of these nodes
abbrev pub root_of : List NewNode → ℕ
root_of [] = 0
root_of (new ∷ nodes) = new.node.frame

-- a list that has no room for more
abbrev pub full : {A : Type 0} → List A → RoomyValue A
full items = record { items = items; room = 0 }

-- the view of a generation that is born of this parent: it has met no page, and no hart is in it
abbrev pub view_at_birth : Records → ℕ → ViewValue
view_at_birth r parent =
    record {
      generation = number_at_birth r;
      parent = Some parent;
      root = root_of (nodes_at_birth r parent);
      nodes = full (map (λ new. new.node) (nodes_at_birth r parent));
      text = text_at_birth r parent;
      jumps = parent_jumps r parent;
      patches = parent_patches r parent;
      reach = full (reach_at_birth r parent);
      met = full [];
      residents = full [];
    }

-- how many frames a birth needs: one for each page of text, and one for each node
abbrev pub need_at_birth : Records → ℕ → ℕ
need_at_birth r parent = length (parent_text r parent) + length (nodes_needed r parent)

-- this is the layout of the generation that is born of this parent
pub record IsBirthOf (r : Records) (parent : ℕ) (birth : Birth) : Type 0 where
  pub need : birth.need ≡ need_at_birth r parent
  pub nodes : birth.nodes ≡ nodes_at_birth r parent
  pub view : birth.view ≡ view_at_birth r parent
