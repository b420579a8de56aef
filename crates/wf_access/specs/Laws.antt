-- What whole accesses are in words, as the state says that words and records stand for.
use Rattle.std.specs.Prelude.{ℕ, Option, Some, None, false, ◌≡◌, ◌<◌, ◌≤◌, ◌↔◌, ◌%◌, length, map, IsSomeAnd}
use Rattle.std.specs.List.{AllByRecursion}
use Rattle.wf_outside.specs.declared.sizes.TheConstants.{MOST_WRITES, PAGE_SIZE, PAGE_WORDS}
use Rattle.wf_outside.specs.Pages.{page_of}
use Rattle.wf_frames.specs.Layout.{AreWords, WordsValue}
use Rattle.wf_views.specs.declared.records.Records.{Records}
use Rattle.wf_flat.specs.declared.state.Reservation.{Reservation}
use Rattle.wf_flat.specs.Accesses.{Access, generation_text, has_reserved, stands}
use Rattle.wf_flat.specs.Changes.{looked_with, missed, reservation_of}
use Rattle.wf_flat.specs.Memory.{data_in, number_in, page_in}
use Rattle.wf_flat.specs.Serving.{held_by}
use Rattle.wf_flat.specs.State.{FlatState, HartState, PageState}
use Rattle.wf_flat.specs.Steps.{OfHart, access_in}
use Rattle.wf_homes.specs.declared.reservation.CoreReservation.{CoreReservation}
use Rattle.wf_homes.specs.Homes.{Homes}
use Rattle.wf_homes.specs.Kept.{KeepsReservation, LiesIn, fields_at}
use Rattle.wf_homes.specs.Stands.{StandsFor}
use Rattle.wf_translation.specs.declared.translation.Translation.{Translation}
use Rattle.wf_translation.specs.declared.translation.Translation.TheVariants.{Text, Data, Missing}
use Rattle.wf_translation.specs.Readings.{frame_number}
use Rattle.wf_translation.specs.Translations.{IsTranslation}
use Rattle.wf_access.specs.declared.bytes.FrameBytes.{FrameBytes}
use Rattle.wf_access.specs.Reserved.{core_reservation_of, core_stands, has_core_reserved}
use Rattle.wf_access.specs.Stores.{AreInFrame, with_store, written_once_more}
use Rattle.wf_access.specs.Wholes.{whole_answer, whole_last_look, whole_put, whole_swap}

-- bytes of the frame that was found for an address are those that the state has there: of the page
-- of the generation's text, or of the page of data
abbrev pub AreSameBytes : WordsValue → FlatState → ℕ → ℕ → ℕ → Translation → Type 0
AreSameBytes words s generation va width (Text frame) =
    IsSomeAnd (page_in (generation_text s generation) (page_of va))
    (λ page. frame_number words frame (va % PAGE_SIZE) width
    ≡ number_in page.words (va % PAGE_SIZE) width)
AreSameBytes words s generation va width (Data frame write) =
    IsSomeAnd (data_in s.pages (page_of va))
    (λ page. frame_number words frame (va % PAGE_SIZE) width
    ≡ number_in page.words (va % PAGE_SIZE) width)
AreSameBytes words s generation va width Missing = Unit {0}

-- what is loaded at an address is what a load there reads
abbrev pub LooksAgree : Type 0
LooksAgree =
    (words : WordsValue) (r : Records) (s : FlatState) (generation va width : ℕ)
    (translation : Translation)
    → IsTranslation words r s generation (page_of va) translation
    → AreSameBytes words s generation va width translation

-- pages are whole, and their counts of writes have bits enough
pub record PagesAreWhole (s : FlatState) : Type 0 where
  pub whole : AllByRecursion (λ page. length page.words ≡ PAGE_WORDS) s.pages
  pub counts : s.limits.last_writes ≤ MOST_WRITES

-- A hart may take the page of an address for its access there: it is a page of data that no hart
-- holds, which lies in this frame.
pub record MayTakeFor (words : WordsValue) (r : Records) (s : FlatState) (h va frame : ℕ)
    (page : PageState) : Type 0 where
  pub tries : OfHart s h
      (λ hart. IsSomeAnd (access_in hart) (λ access. access.va ≡ va) × (hart.put ≡ false))
  pub there : data_in s.pages (page_of va) ≡ Some page
  pub lies : LiesIn words r page frame
  pub free : page.holder ≡ None

-- so many bytes in a frame, at the place of an address in its page
abbrev pub bytes_at : ℕ → ℕ → ℕ → FrameBytes
bytes_at frame va width = record { frame = frame; at = va % PAGE_SIZE; width = width }

-- After a store words and records stand for the state after the whole store, with the same homes.
abbrev pub PutsStand : Type 0
PutsStand =
    (words : WordsValue) (r : Records) (homes : Homes) (s : FlatState)
    (h va width value frame : ℕ) (page : PageState)
    → StandsFor words r homes s → PagesAreWhole s → MayTakeFor words r s h va frame page
    → StandsFor (with_store words (bytes_at frame va width) value s.limits.last_writes) r homes
    (whole_put s h va width value)

-- After the store of an atomic memory operation they stand for the state after the whole of it.
abbrev pub SwapsStand : Type 0
SwapsStand =
    (words : WordsValue) (r : Records) (homes : Homes) (s : FlatState)
    (h va width old new frame : ℕ) (page : PageState)
    → StandsFor words r homes s → PagesAreWhole s → MayTakeFor words r s h va frame page
    → StandsFor (with_store words (bytes_at frame va width) new s.limits.last_writes) r homes
    (whole_swap s h va width old new)

-- The words that stand for a state stand for that after a load at the last count of writes, for
-- which the page was taken.
abbrev pub LastLooksStand : Type 0
LastLooksStand =
    (words : WordsValue) (r : Records) (homes : Homes) (s : FlatState)
    (h va width value frame : ℕ) (page : PageState)
    → StandsFor words r homes s → MayTakeFor words r s h va frame page
    → StandsFor words r homes (whole_last_look s h va width value)

-- an answer leaves a hart in its generation, and its access and life as they were
pub record IsAnswer (answer : HartState → HartState) : Type 0 where
  pub generation : (hart : HartState) → (answer hart).generation ≡ hart.generation
  pub life : (hart : HartState) → (answer hart).life ≡ hart.life
  pub access : (hart : HartState) → access_in (answer hart) ≡ access_in hart

-- The words that stand for a state stand for that after an access that takes no page: a load below
-- the last count of writes or of text, or a store-conditional that misses.
abbrev pub AnswersStand : Type 0
AnswersStand =
    (words : WordsValue) (r : Records) (homes : Homes) (s : FlatState) (h : ℕ)
    (answer : HartState → HartState)
    → StandsFor words r homes s → IsAnswer answer
    → OfHart s h (λ hart. held_by s h (access_in hart) ≡ None)
    → StandsFor words r homes (whole_answer s h answer)

-- a load's answer, and that of a store-conditional that misses, are such answers
pub record LooksAndMissesAnswer : Type 0 where
  pub looks : (s : FlatState) (va width value : ℕ) → IsAnswer (looked_with s va width value)
  pub misses : IsAnswer missed

-- A store counts: its frame was written once more, so that at the last count the frame word has
-- the fields that it had.
abbrev pub StoresAreCounted : Type 0
StoresAreCounted =
    (words : WordsValue) (bytes : FrameBytes) (value last : ℕ)
    → AreWords words.frames words.items → AreInFrame words bytes → last ≤ MOST_WRITES
    → fields_at (with_store words bytes value last) bytes.frame
    ≡ written_once_more last (fields_at words bytes.frame)

-- a reservation is kept; and this page of data, of which it may be, lies in this frame
pub record IsKeptAt (words : WordsValue) (r : Records) (homes : Homes) (s : FlatState)
    (reservation : Option Reservation) (kept : Option CoreReservation) (access : Access)
    (frame : ℕ) (page : PageState) : Type 0 where
  pub keeps : KeepsReservation words homes s reservation kept
  pub there : data_in s.pages (page_of access.va) ≡ Some page
  pub lies : LiesIn words r page frame

-- A reservation that a hart keeps has the address and width of an access exactly where the one of
-- the state has, and stands in words exactly where that stands.
pub record ReservationAgrees (words : WordsValue) (reservation : Option Reservation)
    (kept : Option CoreReservation) (access : Access) (frame : ℕ) (page : PageState)
    : Type 0 where
  pub reserved : has_core_reserved kept access.va access.width
      ≡ has_reserved reservation access.va access.width
  pub stands : core_stands (fields_at words frame) kept frame access.va access.width
      ≡ stands reservation access page

-- reservations that harts keep agree with those of the state
abbrev pub ReservationsAgree : Type 0
ReservationsAgree =
    (words : WordsValue) (r : Records) (homes : Homes) (s : FlatState)
    (reservation : Option Reservation) (kept : Option CoreReservation) (access : Access)
    (frame : ℕ) (page : PageState)
    → StandsFor words r homes s
    → IsKeptAt words r homes s reservation kept access frame page
    → ReservationAgrees words reservation kept access frame page

-- the pages of data that have a page's birth are those that have its number
abbrev pub IsOneBirth : FlatState → PageState → Type 0
IsOneBirth s page =
    AllByRecursion (λ other. (page.birth ≡ other.birth) ↔ (page.number ≡ other.number)) s.pages

-- what a load-reserved leaves in words is kept of what it leaves in the state
abbrev pub ReservesAreKept : Type 0
ReservesAreKept =
    (words : WordsValue) (r : Records) (homes : Homes) (s : FlatState) (va width frame : ℕ)
    (page : PageState)
    → StandsFor words r homes s → data_in s.pages (page_of va) ≡ Some page
    → LiesIn words r page frame → IsOneBirth s page
    → KeepsReservation words homes s (reservation_of s va width (data_in s.pages (page_of va)))
    (core_reservation_of (fields_at words frame) frame va width s.limits.last_writes)

-- the number and the birth of a page
abbrev pub mapping_of : PageState → ℕ × ℕ
mapping_of page = (page.number, page.birth)

-- no mapping changes: pages have the numbers and births that they had, and frames the incarnations
pub record HaveSameMappings (old new : WordsValue) (s t : FlatState) : Type 0 where
  pub pages : map mapping_of t.pages ≡ map mapping_of s.pages
  pub frames : t.limits.frames ≡ s.limits.frames
  pub incarnations : (frame : ℕ) → frame < s.limits.frames
      → (fields_at new frame).inc ≡ (fields_at old frame).inc

-- reservations that harts keep stay kept where no mapping changes
abbrev pub ReservationsStay : Type 0
ReservationsStay =
    (old new : WordsValue) (homes : Homes) (s t : FlatState) (reservation : Option Reservation)
    (kept : Option CoreReservation)
    → HaveSameMappings old new s t → KeepsReservation old homes s reservation kept
    → KeepsReservation new homes t reservation kept

-- neither a store nor an atomic memory operation changes a mapping
abbrev pub StoresKeepMappings : Type 0
StoresKeepMappings =
    (words : WordsValue) (r : Records) (homes : Homes) (s : FlatState)
    (h va width value frame : ℕ) (page : PageState)
    → StandsFor words r homes s → PagesAreWhole s → MayTakeFor words r s h va frame page
    → HaveSameMappings words
    (with_store words (bytes_at frame va width) value s.limits.last_writes) s
    (whole_put s h va width value)
    × ((old : ℕ) → HaveSameMappings words
    (with_store words (bytes_at frame va width) value s.limits.last_writes) s
    (whole_swap s h va width old value))

-- nor does a load at the last count of writes
abbrev pub LastLooksKeepMappings : Type 0
LastLooksKeepMappings =
    (words : WordsValue) (r : Records) (s : FlatState) (h va width value frame : ℕ)
    (page : PageState)
    → MayTakeFor words r s h va frame page
    → HaveSameMappings words words s (whole_last_look s h va width value)

-- nor an access that takes no page
abbrev pub AnswersKeepMappings : Type 0
AnswersKeepMappings =
    (words : WordsValue) (s : FlatState) (h : ℕ) (answer : HartState → HartState)
    → IsAnswer answer → OfHart s h (λ hart. held_by s h (access_in hart) ≡ None)
    → HaveSameMappings words words s (whole_answer s h answer)
