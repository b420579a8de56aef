-- What moves of harts and deletes of generations are refused for, and what words and records stand
-- for after them.
use Rattle.std.specs.Prelude.{ℕ, Bool, false, List, ◌∷◌, [], Some, ◌≡◌, ◌≢◌, ◌≤◌, length, map}
use Rattle.std.specs.List.{AllByRecursion}
use Rattle.wf_outside.specs.Images.{DeltaValue}
use Rattle.wf_outside.specs.Lists.{IsRising}
use Rattle.wf_frames.specs.Layout.{WordsValue}
use Rattle.wf_views.specs.declared.plan.Change.TheVariants.{Dead}
use Rattle.wf_views.specs.declared.records.Records.{Records}
use Rattle.wf_views.specs.Records.{left}
use Rattle.wf_views.specs.Views.{generation_number, newest_of, with_view, without_resident}
use Rattle.wf_flat.specs.declared.state.Life.TheVariants.{Running}
use Rattle.wf_flat.specs.Changes.{change_hart}
use Rattle.wf_flat.specs.State.{FlatState, HartState, PageState}
use Rattle.wf_flat.specs.Steps.{OfRunning}
use Rattle.wf_effects.specs.Effects.{generation_dead, hart_moved}
use Rattle.wf_effects.specs.Generations.{newest}
use Rattle.wf_homes.specs.Homes.{AreHomes, Homes, homes_in, without_left, without_page}
use Rattle.wf_homes.specs.Kept.{record_of}
use Rattle.wf_homes.specs.Stands.{StandsFor}
use Rattle.wf_verdict.specs.declared.requests.Request.TheVariants.{Deletes, Migrates, Quiesces}
use Rattle.wf_verdict.specs.Verdict.{refusal_of}
use Rattle.wf_space.specs.Carried.{StandAlike}
use Rattle.wf_space.specs.Changes.{MayNote, with_change, with_changes}
use Rattle.wf_space.specs.Leaving.{IsInLast, MayGo}
use Rattle.wf_residents.specs.declared.migration.Migration.{Migration}
use Rattle.wf_residents.specs.Carried.{CanBeUsedAgain, MayDelete, MayMigrate}
use Rattle.wf_residents.specs.Plans.{HasRoomToMove, migration_changes, with_resident_place}
use Rattle.wf_residents.specs.Refusals.{CanDelete, CanMigrate, deletion_refusal, migration_refusal}

-- The move of a hart is refused by the records for what the table of calls refuses it for in the
-- state that words and records stand for.
abbrev pub MigrationRefusalsAgree : Type 0
MigrationRefusalsAgree =
    (words : WordsValue) (r : Records) (homes : Homes) (s : FlatState) (m : Migration)
    (deltas : List DeltaValue)
    → StandsFor words r homes s
    → migration_refusal r m ≡ refusal_of deltas s m.next (Migrates m.generation)

-- the residents of each view stand by rising number
abbrev pub ResidentsRise : Records → Type 0
ResidentsRise r = AllByRecursion (λ view. IsRising view.residents.items) r.views.views

-- The delete of a generation is refused by the records for what the table of calls refuses it for
-- in the state that words and records stand for.
abbrev pub DeletionRefusalsAgree : Type 0
DeletionRefusalsAgree =
    (words : WordsValue) (r : Records) (homes : Homes) (s : FlatState) (generation : ℕ)
    (deltas : List DeltaValue) (next : ℕ)
    → StandsFor words r homes s → ResidentsRise r
    → deletion_refusal r generation ≡ refusal_of deltas s next (Deletes generation)

-- The newest generation by the records is that of the state.
abbrev pub NewestAgrees : Type 0
NewestAgrees =
    (words : WordsValue) (r : Records) (homes : Homes) (s : FlatState)
    → StandsFor words r homes s → IsRising (map generation_number r.views.views)
    → newest_of r.views ≡ Some (newest s)

-- The move of a hart that is in a view to the newest generation is refused by the records for what
-- the table of calls refuses it for.
abbrev pub QuiesceRefusalsAgree : Type 0
QuiesceRefusalsAgree =
    (words : WordsValue) (r : Records) (homes : Homes) (s : FlatState) (m : Migration)
    (deltas : List DeltaValue)
    → StandsFor words r homes s → IsRising (map generation_number r.views.views)
    → CanMigrate r m.hart → newest_of r.views ≡ Some m.generation
    → migration_refusal r m ≡ refusal_of deltas s m.next Quiesces

-- Whatever words and records stand for, they do so still where there is room for a resident.
abbrev pub ResidentRoomStands : Type 0
ResidentRoomStands =
    (r : Records) (generation : ℕ) → StandAlike r (with_resident_place r generation)

-- The moves of harts that run can be planned and carried out: the hart is in a view, and where
-- there is room for it in that which it moves to, the changes can be made.
abbrev pub MigrationsCanBeMade : Type 0
MigrationsCanBeMade =
    (words : WordsValue) (r : Records) (homes : Homes) (s : FlatState) (m : Migration)
    → StandsFor words r homes s → IsRising (map generation_number r.views.views)
    → MayMigrate s m
    → CanMigrate r m.hart × (HasRoomToMove r m → MayNote r (migration_changes r m))

-- A hart moves by itself: where the changes of its move are made, words and records stand for the
-- state in which it has moved. Within its own generation there are none.
abbrev pub MigrationStands : Type 0
MigrationStands =
    (words : WordsValue) (r : Records) (homes : Homes) (s : FlatState) (m : Migration)
    → StandsFor words r homes s → IsRising (map generation_number r.views.views)
    → MayMigrate s m
    → StandsFor words (with_changes r (migration_changes r m)) homes
    (hart_moved s m.hart m.generation)

-- A hart that stops is in no view: where it is taken out of that of its generation, words and
-- records stand for any state in which the hart has changed and runs no more.
abbrev pub StopStands : Type 0
StopStands =
    (words : WordsValue) (r : Records) (homes : Homes) (s : FlatState) (hart generation : ℕ)
    (stop : HartState → HartState)
    → StandsFor words r homes s → OfRunning s hart (λ h. h.generation ≡ generation)
    → ((h : HartState) → (stop h).life ≢ Running)
    → StandsFor words
    (record r { views = with_view r.views generation (without_resident hart) }) homes
    (change_hart s hart stop)

-- Deletes of generations can be planned, where harts are as many as may be.
abbrev pub DeletionsCanBePlanned : Type 0
DeletionsCanBePlanned =
    (words : WordsValue) (r : Records) (homes : Homes) (s : FlatState) (generation : ℕ)
    → StandsFor words r homes s → length s.harts ≤ 256 → CanDelete r generation

-- Deletes of generations that may end can be carried out: the frames of a view are its own.
abbrev pub DeletionsCanBeMade : Type 0
DeletionsCanBeMade =
    (words : WordsValue) (r : Records) (homes : Homes) (s : FlatState) (generation : ℕ)
    → StandsFor words r homes s → MayDelete s generation → MayNote r (Dead generation ∷ [])

-- Nothing new comes where a generation ends: the homes in the state in which it lives no more are
-- those before, but for its own.
abbrev pub NothingComesByDeletes : Type 0
NothingComesByDeletes =
    (homes : Homes) (s : FlatState) (generation : ℕ) → AreHomes homes s → MayDelete s generation
    → homes_in homes (generation_dead s generation)
    ≡ without_left homes (generation_dead s generation)

-- Where the view of a generation is taken out and its frames are given back, words and records
-- stand for the state in which it lives no more, with the homes in that state; and frames can be
-- used again as before.
abbrev pub DeadStands : Type 0
DeadStands =
    (words : WordsValue) (r : Records) (homes : Homes) (s : FlatState) (generation : ℕ)
    → StandsFor words r homes s → MayDelete s generation → CanBeUsedAgain r homes
    → StandsFor words (with_change r (Dead generation))
    (homes_in homes (generation_dead s generation)) (generation_dead s generation)
    × CanBeUsedAgain (with_change r (Dead generation))
    (homes_in homes (generation_dead s generation))

-- Where a page of data leaves and its frame is given back, worn where it is in its last
-- incarnation, frames can be used again as before.
abbrev pub LeavesCanBeUsedAgain : Type 0
LeavesCanBeUsedAgain =
    (r : Records) (homes : Homes) (s : FlatState) (page frame : ℕ) (leaving : PageState)
    (worn : Bool)
    → MayGo homes s page frame leaving → IsInLast r frame worn → CanBeUsedAgain r homes
    → CanBeUsedAgain (left false r (record_of leaving frame)) (without_page homes page worn)
