-- What a load-reserved of a process leaves.
use Rattle.std.specs.Prelude.{ℕ, Option, Some, ◌≡◌, IsSome}
use Rattle.wf_outside.specs.Pages.{page_of}
use Rattle.wf_frames.specs.Layout.{WordsValue}
use Rattle.wf_views.specs.declared.records.Records.{Records}
use Rattle.wf_views.specs.Views.{view_of}
use Rattle.wf_flat.specs.Changes.{reservation_of}
use Rattle.wf_flat.specs.Memory.{data_in}
use Rattle.wf_flat.specs.State.{FlatState, PageState}
use Rattle.wf_homes.specs.declared.reservation.CoreReservation.{CoreReservation}
use Rattle.wf_homes.specs.Homes.{Homes}
use Rattle.wf_homes.specs.Kept.{KeepsReservation}
use Rattle.wf_homes.specs.Stands.{StandsFor}
use Rattle.wf_translation.specs.Translations.{IsMapped}
use Rattle.wf_access.specs.Laws.{IsOneBirth}
use Rattle.wf_process.specs.Finding.{IsApartFromText}

-- an address can be looked up in the data for a generation that has a view: words and records stand
-- for a state
pub record CanFindAt (words : WordsValue) (r : Records) (generation va : ℕ) : Type 0 where
  pub homes : Homes
  pub state : FlatState
  pub stands : StandsFor words r homes state
  pub mapped : IsMapped state
  pub apart : IsApartFromText state generation (page_of va)
  pub view : IsSome (view_of r.views generation)

-- whatever state words and records stand for, this is kept of what a load-reserved of a generation
-- leaves at an address
abbrev pub LeavesReservation : WordsValue → Records → ℕ → ℕ → ℕ → Option CoreReservation → Type 0
LeavesReservation words r generation va width kept =
    (homes : Homes) (s : FlatState) → StandsFor words r homes s → IsMapped s
    → IsApartFromText s generation (page_of va)
    → ((page : PageState) → data_in s.pages (page_of va) ≡ Some page → IsOneBirth s page)
    → KeepsReservation words homes s (reservation_of s va width (data_in s.pages (page_of va))) kept
