-- Whole stores and atomic operations of a process.
use Rattle.std.specs.Prelude.{ℕ, List, [], ◌∷◌, Some, ◌≡◌, IsSome}
use Rattle.wf_outside.specs.Pages.{page_of}
use Rattle.wf_frames.specs.Layout.{WordsValue}
use Rattle.wf_views.specs.declared.records.Records.{Records}
use Rattle.wf_views.specs.Views.{view_of}
use Rattle.wf_flat.specs.declared.event.Actor.TheVariants.{Hart}
use Rattle.wf_flat.specs.declared.event.Entry.{Entry}
use Rattle.wf_flat.specs.declared.event.Event.TheVariants.{End, Put, Swap, Take}
use Rattle.wf_flat.specs.Memory.{data_in}
use Rattle.wf_flat.specs.State.{FlatState, PageState}
use Rattle.wf_homes.specs.Homes.{Homes}
use Rattle.wf_homes.specs.Kept.{LiesIn}
use Rattle.wf_homes.specs.Stands.{StandsFor}
use Rattle.wf_translation.specs.Translations.{IsMapped}
use Rattle.wf_access.specs.Laws.{bytes_at}
use Rattle.wf_access.specs.Stores.{with_store}
use Rattle.wf_process.specs.declared.write.Write.{Write}
use Rattle.wf_process.specs.Bodies.{BodyValue}
use Rattle.wf_process.specs.Finding.{IsApartFromText}

-- A generation that has a view finds a page of data at an address: words and records stand for a
-- state in which there is one.
pub record HasDataAt (words : WordsValue) (r : Records) (generation va : ℕ) : Type 0 where
  pub homes : Homes
  pub state : FlatState
  pub stands : StandsFor words r homes state
  pub mapped : IsMapped state
  pub apart : IsApartFromText state generation (page_of va)
  pub page : PageState
  pub there : data_in state.pages (page_of va) ≡ Some page
  pub view : IsSome (view_of r.views generation)

-- whatever state words and records stand for, the page of data that a generation finds at an
-- address lies in this frame
abbrev pub DataLiesAt : WordsValue → Records → ℕ → ℕ → ℕ → Type 0
DataLiesAt words r generation va frame =
    (homes : Homes) (s : FlatState) → StandsFor words r homes s → IsMapped s
    → IsApartFromText s generation (page_of va)
    → (page : PageState) → data_in s.pages (page_of va) ≡ Some page → LiesIn words r page frame

-- a body in which bytes of a frame were stored
abbrev pub with_bytes : BodyValue → ℕ → Write → BodyValue
with_bytes body frame write =
    record body {
      words = with_store body.words (bytes_at frame write.va write.width) write.value
          body.records.limits.last_writes;
    }

-- bytes were stored in the frame in which the page of data lies that a generation finds at their
-- address
pub record HasStoredBytes (old new : BodyValue) (generation : ℕ) (write : Write) : Type 0 where
  pub frame : ℕ
  pub lies : DataLiesAt old.words old.records generation write.va frame
  pub is : new ≡ with_bytes old frame write

-- a hart takes the page of an address, puts bytes there, and its instruction ends
abbrev pub store_entries : ℕ → Write → ℕ → List Entry
store_entries h write pc =
    record { actor = Hart h; event = Take (page_of write.va) }
    ∷ record { actor = Hart h; event = Put write.va write.width write.value }
    ∷ record { actor = Hart h; event = End pc } ∷ []

-- a hart takes the page of an address, reads bytes there and writes others, and its instruction
-- ends
abbrev pub swap_entries : ℕ → Write → ℕ → ℕ → List Entry
swap_entries h write got pc =
    record { actor = Hart h; event = Take (page_of write.va) }
    ∷ record { actor = Hart h; event = Swap write.va write.width got write.value }
    ∷ record { actor = Hart h; event = End pc } ∷ []
