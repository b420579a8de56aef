-- Where all lies that comes with a patch: the text of a generation that is born, the shared pages,
-- and the nodes that live generations and the new one need; each in the lowest free frame, in this
-- order.
use Rattle.std.specs.Prelude.{ℕ, List, [], ◌∷◌, Some, ◌≡◌, ◌+◌, drop, length, map}
use Rattle.wf_outside.specs.Images.{DeltaValue, data_numbers}
use Rattle.wf_outside.specs.Pages.{DataPageValue}
use Rattle.wf_views.specs.declared.pages.PageAt.{PageAt}
use Rattle.wf_views.specs.declared.records.Records.{Records}
use Rattle.wf_views.specs.declared.view.TextAt.{TextAt}
use Rattle.wf_views.specs.Views.{ViewValue}
use Rattle.wf_homes.specs.Homes.{tree_nodes}
use Rattle.wf_mapping.specs.declared.nodes.MissingNode.{MissingNode}
use Rattle.wf_mapping.specs.declared.nodes.NewNode.{NewNode}
use Rattle.wf_mapping.specs.Layout.{free_in, page_placed}
use Rattle.wf_mapping.specs.Nodes.{missing_from, missing_node, nodes_for, nodes_placed}
use Rattle.wf_creating.specs.Layout.{full, number_at_birth, root_of, texts_placed}
use Rattle.wf_patching.specs.declared.layout.Patched.{Patched}
use Rattle.wf_patching.specs.Brought.{patched_jumps, patched_numbers, patched_reach}

-- shared pages lie in frames, each in the next one
abbrev pub shared_placed : List DataPageValue → List ℕ → List PageAt
shared_placed [] frames = []
shared_placed (page ∷ pages) [] = []
shared_placed (page ∷ pages) (frame ∷ frames) =
    page_placed page.write page.number frame ∷ shared_placed pages frames

-- the nodes that the shared pages need, and that live generations have not, by generation
abbrev pub lacked_nodes : Records → DeltaValue → List MissingNode
lacked_nodes r delta = missing_from (nodes_for (data_numbers delta.shared)) r.views.views

-- the nodes that the page table of the new generation needs
abbrev pub patched_nodes : Records → ℕ → DeltaValue → List MissingNode
patched_nodes r parent delta =
    map (missing_node (number_at_birth r)) (tree_nodes (patched_reach r parent delta))

-- the frames that are free beside those of the text
abbrev pub behind_text : Records → ℕ → DeltaValue → List ℕ
behind_text r parent delta = drop (length (patched_numbers r parent delta)) (free_in r)

-- the frames that are free beside those of the text and of the shared pages
abbrev pub behind_shared : Records → ℕ → DeltaValue → List ℕ
behind_shared r parent delta = drop (length delta.shared) (behind_text r parent delta)

-- the frames that are free beside those of the text, of the shared pages, and of the nodes of live
-- generations
abbrev pub behind_lacked : Records → ℕ → DeltaValue → List ℕ
behind_lacked r parent delta =
    drop (length (lacked_nodes r delta)) (behind_shared r parent delta)

-- the text of the new generation, in the lowest free frames
abbrev pub text_with_patch : Records → ℕ → DeltaValue → List TextAt
text_with_patch r parent delta = texts_placed (patched_numbers r parent delta) (free_in r)

-- the shared pages, in the lowest of the frames that are left
abbrev pub shared_with_patch : Records → ℕ → DeltaValue → List PageAt
shared_with_patch r parent delta = shared_placed delta.shared (behind_text r parent delta)

-- the nodes that live generations get, in the lowest of the frames that are left
abbrev pub nodes_with_patch : Records → ℕ → DeltaValue → List NewNode
nodes_with_patch r parent delta =
    nodes_placed (lacked_nodes r delta) (behind_shared r parent delta)

-- the nodes of the new generation, in the lowest of the frames that are left
abbrev pub table_with_patch : Records → ℕ → DeltaValue → List NewNode
table_with_patch r parent delta =
    nodes_placed (patched_nodes r parent delta) (behind_lacked r parent delta)

-- the view of a generation that is born of this parent with the patch of a number: it has met no
-- page, and no hart is in it
abbrev pub view_with_patch : Records → ℕ → DeltaValue → ℕ → ViewValue
view_with_patch r parent delta patch =
    record {
      generation = number_at_birth r;
      parent = Some parent;
      root = root_of (table_with_patch r parent delta);
      nodes = full (map (λ new. new.node) (table_with_patch r parent delta));
      text = text_with_patch r parent delta;
      jumps = patched_jumps r parent delta;
      patches = patch + 1;
      reach = full (patched_reach r parent delta);
      met = full [];
      residents = full [];
    }

-- how many frames a patch needs: one for each page of text, each shared page, and each node
abbrev pub need_with_patch : Records → ℕ → DeltaValue → ℕ
need_with_patch r parent delta =
    length (patched_numbers r parent delta) + length delta.shared
    + length (lacked_nodes r delta) + length (patched_nodes r parent delta)

-- this is the layout of all that comes with the patch of a number
pub record IsPatchedWith (r : Records) (parent : ℕ) (delta : DeltaValue) (patch : ℕ)
    (made : Patched) : Type 0 where
  pub need : made.need ≡ need_with_patch r parent delta
  pub shared : made.shared ≡ shared_with_patch r parent delta
  pub nodes : made.nodes ≡ nodes_with_patch r parent delta
  pub table : made.table ≡ table_with_patch r parent delta
  pub view : made.view ≡ view_with_patch r parent delta patch
