-- The room that a mapping takes, in its plan and in the records.
use Rattle.std.specs.Prelude.{ℕ, ◌≡◌, ◌≤◌, ◌+◌, ◌*◌, length, map}
use Rattle.wf_outside.specs.declared.sizes.TheConstants.{ADDRESS_PAGES}
use Rattle.wf_outside.specs.Pages.{page_of}
use Rattle.wf_views.specs.declared.plan.Plan.{Plan}
use Rattle.wf_views.specs.declared.records.Records.{Records}
use Rattle.wf_views.specs.Lists.{RoomyValue, roomier}
use Rattle.wf_views.specs.Views.{ViewValue, with_node_room, with_reach_room}
use Rattle.wf_space.specs.Jobs.{IsEmpty}
use Rattle.wf_mapping.specs.declared.layout.Mapping.{Mapping}
use Rattle.wf_mapping.specs.declared.room.MapRoom.{MapRoom}
use Rattle.wf_mapping.specs.Layout.{IsLayoutOf, numbers_of}
use Rattle.wf_mapping.specs.Nodes.{nodes_for}

-- what a mapping asks of its numbers: its pages are those of addresses
abbrev pub CanMap : Mapping → Type 0
CanMap mapping = page_of mapping.va + mapping.pages ≤ ADDRESS_PAGES

-- there is room for pages and nodes that are new, so many, in a plan: a page takes two pieces and
-- two changes, a node two pieces and three changes, and births one change more
pub record HasRoom (pages nodes : ℕ) (plan : Plan) : Type 0 where
  pub pieces : 2 * pages + 2 * nodes ≤ plan.pieces.room
  pub changes : 2 * pages + 3 * nodes + 1 ≤ plan.changes.room

-- Room was made for a mapping: it has its layout, an empty plan with room for it, and a blank page
-- for each frame.
pub record IsRoomFor (r : Records) (mapping : Mapping) (made : MapRoom) : Type 0 where
  pub layout : IsLayoutOf r mapping made.layout
  pub empty : IsEmpty made.plan
  pub plan : HasRoom (length made.layout.pages) (length made.layout.nodes) made.plan
  pub blanks : length made.layout.pages + length made.layout.nodes ≤ made.blanks

-- a view has room for so many more nodes, and for as many places
abbrev pub with_view_room : ℕ → ViewValue → ViewValue
with_view_room n view = with_reach_room n (with_node_room n view)

-- the records with the room that a mapping takes in them: for its pages, and in each view for each
-- node that it may lack
abbrev pub with_map_room : Records → Mapping → Records
with_map_room r mapping =
    record r {
      pages = roomier mapping.pages r.pages;
      views = record r.views {
        views = map (with_view_room (length (nodes_for (numbers_of mapping)))) r.views.views;
      };
    }

-- a list has no room
abbrev pub roomless : {A : Type 0} → RoomyValue A → RoomyValue A
roomless l = record l { room = 0 }

-- a view has no room for nodes and places
abbrev pub roomless_view : ViewValue → ViewValue
roomless_view view =
    record view { nodes = roomless view.nodes; reach = roomless view.reach }

-- records have no room for pages, nor views for nodes and places
abbrev pub without_room : Records → Records
without_room r =
    record r {
      pages = roomless r.pages;
      views = record r.views { views = map roomless_view r.views.views };
    }

-- records differ in the room for pages, nodes and places alone
abbrev pub DifferInRoom : Records → Records → Type 0
DifferInRoom r q = without_room q ≡ without_room r
