-- What each job does: what it asks of the records, what it is refused for, the pieces and changes of
-- its plan, and the room that they take.
use Rattle.std.specs.Prelude.{ℕ, List, [], ◌∷◌, ◌++◌, Bool, false, Option, None, ◌≡◌, ◌≤◌, ◌+◌, ◌-◌, not, is_some, length, option_and_then, unwrap_or, IsSome, IsSomeAnd}
use Rattle.std.specs.List.{find}
use Rattle.std.specs.Option.{option_map}
use Rattle.wf_outside.specs.declared.refusal.Refusal.{Refusal}
use Rattle.wf_outside.specs.declared.refusal.Refusal.TheVariants.{Absent, Leaving}
use Rattle.wf_outside.specs.declared.sizes.TheConstants.{ADDRESS_PAGES}
use Rattle.wf_outside.specs.Lists.{first_of}
use Rattle.wf_outside.specs.Pages.{page_of}
use Rattle.wf_views.specs.declared.pages.PageAt.{PageAt}
use Rattle.wf_views.specs.declared.plan.Change.{Change}
use Rattle.wf_views.specs.declared.plan.Change.TheVariants.{Met}
use Rattle.wf_views.specs.declared.plan.Piece.{Piece}
use Rattle.wf_views.specs.declared.plan.Plan.{Plan}
use Rattle.wf_views.specs.declared.records.Records.{Records}
use Rattle.wf_views.specs.Lists.{MayAdd, RoomyValue, has_number}
use Rattle.wf_views.specs.Pages.{page_at}
use Rattle.wf_views.specs.Views.{ViewValue, view_of, with_met_room, with_view}
use Rattle.wf_verdict.specs.Verdict.{pages_from}
use Rattle.wf_space.specs.declared.job.Job.{Job}
use Rattle.wf_space.specs.declared.job.Job.TheVariants.{Sync, Unmap}
use Rattle.wf_space.specs.Leaves.{leaf_stored, node_for}
use Rattle.wf_space.specs.Unmapping.{unmap_changes, unmap_pieces}

-- the frame of a generation's node for the leaf of a page, if it has one
abbrev pub node_in : Records → ℕ → ℕ → Option ℕ
node_in r generation page =
    option_and_then (λ view. node_for view page) (view_of r.views generation)

-- the pieces of a job: of pages that are unmapped leaves are cleared, and then they leave; and a page
-- that a generation meets gets its leaf there
abbrev pub pieces_of : Records → Job → List Piece
pieces_of r (Unmap va pages) = unmap_pieces r (pages_from va pages)
pieces_of r (Sync generation page) =
    leaf_stored r.limits.frames (page_at r.pages page) (node_in r generation page)

-- the changes of a job: pages that are unmapped are going; and a page that a generation meets is met
-- in its view
abbrev pub changes_of : Job → List Change
changes_of (Unmap va pages) = unmap_changes (pages_from va pages)
changes_of (Sync generation page) = Met generation page ∷ []

-- no page of data has this number
abbrev pub is_absent_at : Records → ℕ → Bool
is_absent_at r page = not (is_some (page_at r.pages page))

-- the page of data of this number is ending
abbrev pub is_ending_at : Records → ℕ → Bool
is_ending_at r page = unwrap_or (option_map (λ page. page.ending) (page_at r.pages page)) false

-- Absent: the lowest of the pages that is no page of data
abbrev pub absent_in : Records → List ℕ → Option Refusal
absent_in r pages = option_map Absent (find (is_absent_at r) pages)

-- Leaving: the lowest of the pages that is ending
abbrev pub leaving_in : Records → List ℕ → Option Refusal
leaving_in r pages = option_map Leaving (find (is_ending_at r) pages)

-- what a job is refused for: the first that applies, if one does
abbrev pub refusal_in : Records → Job → Option Refusal
refusal_in r (Unmap va pages) =
    first_of (absent_in r (pages_from va pages) ∷ leaving_in r (pages_from va pages) ∷ [])
refusal_in r (Sync generation page) = None

-- a page of data is here: no unmap of it has begun
pub record IsHereAt (page : PageAt) : Type 0 where
  pub not_going : page.going ≡ false
  pub not_ending : page.ending ≡ false

-- a view can meet a page: it has the node for its leaf, and hasn't met it yet
pub record CanMeet (page : ℕ) (view : ViewValue) : Type 0 where
  pub node : IsSome (node_for view page)
  pub new : has_number view.met.items page ≡ false

-- a generation can meet a page: the page is here, and the generation lives and its view can meet it
pub record CanSync (r : Records) (generation page : ℕ) : Type 0 where
  pub here : IsSomeAnd (page_at r.pages page) IsHereAt
  pub view : IsSomeAnd (view_of r.views generation) (CanMeet page)

-- what a job asks of its numbers and of the records: pages that are unmapped are those of addresses
abbrev pub CanDo : Records → Job → Type 0
CanDo r (Unmap va pages) = page_of va + pages ≤ ADDRESS_PAGES
CanDo r (Sync generation page) = CanSync r generation page

-- the records with the room that a job takes in them
abbrev pub with_room_for : Records → Job → Records
with_room_for r (Unmap va pages) = r
with_room_for r (Sync generation page) =
    record r { views = with_view r.views generation (with_met_room 1) }

-- the records have the room that a job takes in them
abbrev pub RecordsHaveRoom : Records → Job → Type 0
RecordsHaveRoom r (Unmap va pages) = Unit {0}
RecordsHaveRoom r (Sync generation page) =
    IsSomeAnd (view_of r.views generation) (λ view. MayAdd page view.met)

-- there is room for a job, in its plan and in the records
pub record HasRoomFor (r : Records) (job : Job) (plan : Plan) : Type 0 where
  pub pieces : length (pieces_of r job) ≤ plan.pieces.room
  pub changes : length (changes_of job) ≤ plan.changes.room
  pub records : RecordsHaveRoom r job

-- there is nothing in a plan
pub record IsEmpty (plan : Plan) : Type 0 where
  pub pieces : plan.pieces.items ≡ []
  pub changes : plan.changes.items ≡ []

-- a plan is that of a job
pub record IsPlanOf (r : Records) (job : Job) (plan : Plan) : Type 0 where
  pub pieces : plan.pieces.items ≡ pieces_of r job
  pub changes : plan.changes.items ≡ changes_of job

-- more elements come to the end, and take room
abbrev pub all_pushed : {A : Type 0} → List A → RoomyValue A → RoomyValue A
all_pushed xs l = record { items = l.items ++ xs; room = l.room - length xs }
