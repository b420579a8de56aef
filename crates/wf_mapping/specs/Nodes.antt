-- The nodes that the page tables of live generations get, so that pages can have leaves there.
use Rattle.std.specs.Prelude.{ℕ, List, [], ◌∷◌, Bool, is_some, map, not}
use Rattle.std.specs.List.{filter, flat_map}
use Rattle.wf_views.specs.Views.{ViewValue}
use Rattle.wf_flat.specs.Boot.{places_with}
use Rattle.wf_homes.specs.Homes.{tree_nodes}
use Rattle.wf_homes.specs.Kept.{node_frame}
use Rattle.wf_mapping.specs.declared.nodes.MissingNode.{MissingNode}
use Rattle.wf_mapping.specs.declared.nodes.NewNode.{NewNode}

-- the nodes of a page table that has leaves for these pages alone, each by its level and prefix
abbrev pub nodes_for : List ℕ → List (ℕ × ℕ)
nodes_for pages = tree_nodes (places_with [] pages)

-- a view has no node of this level and prefix
abbrev pub lacks_node : ViewValue → ℕ × ℕ → Bool
lacks_node view node = not (is_some (node_frame view node.0 node.1))

-- a node that is missing in the page table of a generation
abbrev pub missing_node : ℕ → ℕ × ℕ → MissingNode
missing_node generation node =
    record { generation = generation; level = node.0; prefix = node.1 }

-- those of these nodes that a view has not, in their order
abbrev pub missing_in : List (ℕ × ℕ) → ViewValue → List MissingNode
missing_in nodes view =
    map (missing_node view.generation) (filter (lacks_node view) nodes)

-- those of these nodes that views have not, view by view
abbrev pub missing_from : List (ℕ × ℕ) → List ViewValue → List MissingNode
missing_from nodes views = flat_map (missing_in nodes) views

-- a node that was missing lies in a frame
abbrev pub node_placed : MissingNode → ℕ → NewNode
node_placed missing frame =
    record {
      generation = missing.generation;
      node = record { level = missing.level; prefix = missing.prefix; frame = frame };
    }

-- nodes that were missing lie in frames, each in the next one
abbrev pub nodes_placed : List MissingNode → List ℕ → List NewNode
nodes_placed [] frames = []
nodes_placed (missing ∷ more) [] = []
nodes_placed (missing ∷ more) (frame ∷ frames) =
    node_placed missing frame ∷ nodes_placed more frames
