-- The plans of moves of harts and of deletes of generations, and the room that they take.
use Rattle.std.specs.Prelude.{ℕ, List, [], ◌∷◌, Option, Some, None, ◌≡◌, ◌≤◌, ◌==◌, if◌then◌else◌}
use Rattle.wf_views.specs.declared.plan.Change.{Change}
use Rattle.wf_views.specs.declared.plan.Change.TheVariants.{Dead, Move}
use Rattle.wf_views.specs.declared.plan.Plan.{Plan}
use Rattle.wf_views.specs.declared.records.Records.{Records}
use Rattle.wf_views.specs.Lists.{MayAdd}
use Rattle.wf_views.specs.Views.{ViewValue, view_of, with_resident_room, with_view}
use Rattle.wf_residents.specs.declared.migration.Migration.{Migration}
use Rattle.wf_residents.specs.Refusals.{residence_of}

-- the changes of a hart's move between two generations: none within one
abbrev pub changes_between : ℕ → ℕ → ℕ → List Change
changes_between hart old new = if old == new then [] else Move hart old new ∷ []

-- the changes of a hart's move to a generation from that in whose view it is, if it is in one
abbrev pub changes_from : ℕ → Option ℕ → ℕ → List Change
changes_from hart None new = []
changes_from hart (Some old) new = changes_between hart old new

-- the changes of the move of a hart
abbrev pub migration_changes : Records → Migration → List Change
migration_changes r m = changes_from m.hart (residence_of r m.hart) m.generation

-- a plan is that of the move of a hart: it has no pieces
pub record IsMigrationPlan (r : Records) (m : Migration) (plan : Plan) : Type 0 where
  pub pieces : plan.pieces.items ≡ []
  pub changes : plan.changes.items ≡ migration_changes r m

-- a plan is that of the delete of a generation: it has no pieces, since nobody reaches the view
pub record IsDeletionPlan (generation : ℕ) (plan : Plan) : Type 0 where
  pub pieces : plan.pieces.items ≡ []
  pub changes : plan.changes.items ≡ Dead generation ∷ []

-- there is room for one change in a plan
abbrev pub HasRoomForOne : Plan → Type 0
HasRoomForOne plan = 1 ≤ plan.changes.room

-- the records with room for one more resident in the view of a generation, if it lives
abbrev pub with_resident_place : Records → ℕ → Records
with_resident_place r generation =
    record r { views = with_view r.views generation (with_resident_room 1) }

-- there is room for a hart in the view of the generation that it moves to, if that lives
abbrev pub HasRoomToMove : Records → Migration → Type 0
HasRoomToMove r m =
    (view : ViewValue) → view_of r.views m.generation ≡ Some view → MayAdd m.hart view.residents
