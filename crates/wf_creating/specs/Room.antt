-- The room that a birth takes, in its plan and in the records.
use Rattle.std.specs.Prelude.{ℕ, ◌≡◌, ◌≤◌, ◌+◌, length, max}
use Rattle.wf_views.specs.declared.plan.Plan.{Plan}
use Rattle.wf_views.specs.declared.records.Records.{Records}
use Rattle.wf_views.specs.Lists.{roomier}
use Rattle.wf_space.specs.Jobs.{IsEmpty}
use Rattle.wf_mapping.specs.Room.{roomless}
use Rattle.wf_creating.specs.declared.room.BirthRoom.{BirthRoom}
use Rattle.wf_creating.specs.Layout.{IsBirthOf}

-- there is room for pages of text and for nodes, so many, in a plan: each takes a piece and a
-- change, and the view takes one change more
pub record HasBirthRoom (pages nodes : ℕ) (plan : Plan) : Type 0 where
  pub pieces : pages + nodes ≤ plan.pieces.room
  pub changes : pages + nodes + 1 ≤ plan.changes.room

-- Room was made for a birth: it has its layout, an empty plan with room for it, and a blank page
-- for each node.
pub record IsRoomForBirth (r : Records) (parent : ℕ) (made : BirthRoom) : Type 0 where
  pub birth : IsBirthOf r parent made.birth
  pub empty : IsEmpty made.plan
  pub plan : HasBirthRoom (length made.birth.view.text) (length made.birth.nodes) made.plan
  pub blanks : length made.birth.nodes ≤ made.blanks

-- the records with the room that a birth takes in them: for one more view, and its entry
abbrev pub with_birth_room : Records → Records
with_birth_room r =
    record r {
      views = record r.views { room = max r.views.room 1 };
      born = roomier 1 r.born;
    }

-- records have no room for views and their entries
abbrev pub without_birth_room : Records → Records
without_birth_room r =
    record r { views = record r.views { room = 0 }; born = roomless r.born }

-- records differ in the room for views and their entries alone
abbrev pub DifferInBirthRoom : Records → Records → Type 0
DifferInBirthRoom r q = without_birth_room q ≡ without_birth_room r
