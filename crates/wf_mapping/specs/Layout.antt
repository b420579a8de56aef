-- Where pages that are mapped lie, and the nodes that they take: each in the lowest free frame, the
-- pages first.
use Rattle.std.specs.Prelude.{ℕ, List, [], ◌∷◌, Bool, false, ◌≡◌, ◌+◌, drop, length, take}
use Rattle.wf_outside.specs.Pages.{page_of}
use Rattle.wf_frames.specs.Frames.{free_numbers}
use Rattle.wf_views.specs.declared.pages.PageAt.{PageAt}
use Rattle.wf_views.specs.declared.records.Records.{Records}
use Rattle.wf_verdict.specs.Verdict.{pages_from}
use Rattle.wf_mapping.specs.declared.layout.Layout.{Layout}
use Rattle.wf_mapping.specs.declared.layout.Mapping.{Mapping}
use Rattle.wf_mapping.specs.declared.nodes.MissingNode.{MissingNode}
use Rattle.wf_mapping.specs.declared.nodes.NewNode.{NewNode}
use Rattle.wf_mapping.specs.Nodes.{missing_from, nodes_for, nodes_placed}

-- the numbers of the pages of a mapping
abbrev pub numbers_of : Mapping → List ℕ
numbers_of mapping = pages_from mapping.va mapping.pages

-- the frames that are free, rising
abbrev pub free_in : Records → List ℕ
free_in r = free_numbers r.frames.frames

-- the record of a page of data that is here, and lies in a frame
abbrev pub page_placed : Bool → ℕ → ℕ → PageAt
page_placed write page frame =
    record { page = page; write = write; frame = frame; going = false; ending = false }

-- pages from one on, which are here, lie in these frames, each in the next one
abbrev pub pages_placed : Bool → ℕ → List ℕ → List PageAt
pages_placed write page [] = []
pages_placed write page (frame ∷ frames) =
    page_placed write page frame ∷ pages_placed write (page + 1) frames

-- the pages of a mapping, in the lowest free frames
abbrev pub new_pages : Records → Mapping → List PageAt
new_pages r mapping =
    pages_placed mapping.write (page_of mapping.va) (take mapping.pages (free_in r))

-- the nodes that the pages of a mapping need, and that live generations have not, by generation
abbrev pub missing_for : Records → Mapping → List MissingNode
missing_for r mapping = missing_from (nodes_for (numbers_of mapping)) r.views.views

-- the new nodes of a mapping, in the lowest frames that are free beside those of its pages
abbrev pub new_nodes : Records → Mapping → List NewNode
new_nodes r mapping = nodes_placed (missing_for r mapping) (drop mapping.pages (free_in r))

-- how many frames a mapping needs: one for each page, and one for each node that is missing
abbrev pub need_of : Records → Mapping → ℕ
need_of r mapping = mapping.pages + length (missing_for r mapping)

-- this is the layout of a mapping
pub record IsLayoutOf (r : Records) (mapping : Mapping) (layout : Layout) : Type 0 where
  pub need : layout.need ≡ need_of r mapping
  pub pages : layout.pages ≡ new_pages r mapping
  pub nodes : layout.nodes ≡ new_nodes r mapping
