-- What words and records stand for after a hart has moved, and after a generation was deleted.
use Rattle.std.specs.Prelude.{ℕ, true, false, Some, ◌≡◌, ◌<◌, slice_get}
use Rattle.std.specs.List.{AllByRecursion}
use Rattle.wf_outside.specs.declared.sizes.TheConstants.{ADDRESS_PAGES}
use Rattle.wf_frames.specs.declared.state.Frame.{Frame}
use Rattle.wf_frames.specs.Layout.{WordsValue}
use Rattle.wf_views.specs.declared.plan.Plan.{Plan}
use Rattle.wf_views.specs.declared.records.Records.{Records}
use Rattle.wf_flat.specs.State.{FlatState}
use Rattle.wf_flat.specs.Steps.{OfRunning}
use Rattle.wf_effects.specs.Effects.{generation_dead, hart_moved}
use Rattle.wf_effects.specs.Generations.{is_live}
use Rattle.wf_homes.specs.Homes.{Homes, homes_in, is_worn}
use Rattle.wf_homes.specs.Kept.{HasNoData}
use Rattle.wf_homes.specs.Laws.{IsTidy}
use Rattle.wf_homes.specs.Stands.{StandsFor}
use Rattle.wf_residents.specs.declared.migration.Migration.{Migration}
use Rattle.wf_residents.specs.Plans.{HasRoomToMove, IsDeletionPlan, IsMigrationPlan}

-- a frame in which no page of data lies is below its last incarnation, unless it is worn: so one of
-- text or of a node is free again where it is given back
abbrev pub CanBeUsedAgain : Records → Homes → Type 0
CanBeUsedAgain r homes =
    (frame : ℕ) (f : Frame) → slice_get r.frames.frames frame ≡ Some f
    → is_worn homes frame ≡ false → HasNoData homes frame
    → f.incarnation < r.frames.last_birth

-- a hart that runs may move in a state: its generation lives, and that which it moves to does
pub record MayMigrate (s : FlatState) (m : Migration) : Type 0 where
  pub runs : OfRunning s m.hart (λ hart. is_live s hart.generation ≡ true)
  pub live : is_live s m.generation ≡ true

-- a generation may end in a state: it lives; tables stand in order; and pages, and those that
-- generations have met, are those of addresses
pub record MayDelete (s : FlatState) (generation : ℕ) : Type 0 where
  pub tidy : IsTidy s
  pub live : is_live s generation ≡ true
  pub pages_low : AllByRecursion (λ page. page.number < ADDRESS_PAGES) s.pages
  pub met_low : AllByRecursion (λ pair. pair.1 < ADDRESS_PAGES) s.met

-- a plan is that of the move of a hart that may move, in the state that words and records stand
-- for, and there is room for it
pub record IsMigrationNow (words : WordsValue) (r : Records) (plan : Plan) : Type 0 where
  pub migration : Migration
  pub homes : Homes
  pub state : FlatState
  pub stands : StandsFor words r homes state
  pub may : MayMigrate state migration
  pub is_plan : IsMigrationPlan r migration plan
  pub room : HasRoomToMove r migration

-- where the plan of a hart's move was carried out, words and records stand for the state in which
-- the hart has moved, and all homes stay
abbrev pub IsMigrated : WordsValue → Records → Plan → Records → Type 0
IsMigrated words r plan q =
    (m : Migration) (homes : Homes) (s : FlatState) → StandsFor words r homes s → MayMigrate s m
    → IsMigrationPlan r m plan → StandsFor words q homes (hart_moved s m.hart m.generation)

-- a plan is that of the delete of a generation that may end, in the state that words and records
-- stand for
pub record IsDeletionNow (words : WordsValue) (r : Records) (plan : Plan) : Type 0 where
  pub generation : ℕ
  pub homes : Homes
  pub state : FlatState
  pub stands : StandsFor words r homes state
  pub may : MayDelete state generation
  pub is_plan : IsDeletionPlan generation plan

-- where the plan of a delete was carried out, words and records stand for the state in which the
-- generation lives no more, with the homes in that state
abbrev pub IsDeleted : WordsValue → Records → Plan → Records → Type 0
IsDeleted words r plan q =
    (generation : ℕ) (homes : Homes) (s : FlatState) → StandsFor words r homes s
    → MayDelete s generation → CanBeUsedAgain r homes → IsDeletionPlan generation plan
    → StandsFor words q (homes_in homes (generation_dead s generation))
    (generation_dead s generation)
