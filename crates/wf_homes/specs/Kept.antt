-- How one page, one frame, one view and one reservation of a flat state are kept in words and
-- records.
use Rattle.std.specs.Prelude.{ℕ, List, false, Option, Some, None, ◌≡◌, ◌≢◌, ◌<◌, ◌≤◌, ◌↔◌, ◌/◌, ◌==◌, ◌&&◌, not, if◌then◌else◌, is_some, map, slice_get, slice_index, slice_set, option_and_then, IsSome, IsSomeAnd, IsTrue}
use Rattle.std.specs.Option.{option_map}
use Rattle.std.specs.List.{AllByRecursion, IsDistinct, find}
use Rattle.wf_outside.specs.declared.sizes.TheConstants.{ADDRESS_PAGES, PAGE_WORDS}
use Rattle.wf_outside.specs.Images.{text_numbers}
use Rattle.wf_outside.specs.Pages.{PageValue}
use Rattle.wf_frames.specs.declared.fields.FrameWord.{FrameWord}
use Rattle.wf_frames.specs.declared.state.FrameState.{FrameState}
use Rattle.wf_frames.specs.declared.state.FrameState.TheVariants.{Free, InUse, Worn}
use Rattle.wf_frames.specs.FrameWords.{fields_of}
use Rattle.wf_frames.specs.Frames.{HasState}
use Rattle.wf_frames.specs.Layout.{WordsValue, frame_word_place, word_place}
use Rattle.wf_views.specs.declared.pages.PageAt.{PageAt}
use Rattle.wf_views.specs.declared.records.Records.{Records}
use Rattle.wf_views.specs.declared.view.TextAt.{TextAt}
use Rattle.wf_views.specs.Lists.{found_by, has_number}
use Rattle.wf_views.specs.Pages.{page_at}
use Rattle.wf_views.specs.Views.{ViewValue, view_of}
use Rattle.wf_flat.specs.declared.state.Reservation.{Reservation}
use Rattle.wf_flat.specs.State.{FlatState, GenState, PageState}
use Rattle.wf_flat.specs.Accesses.{is_ending, is_going}
use Rattle.wf_flat.specs.Memory.{has_met}
use Rattle.wf_flat.specs.Steps.{OfRunning}
use Rattle.wf_homes.specs.declared.reservation.CoreReservation.{CoreReservation}
use Rattle.wf_homes.specs.Homes.{DataOf, Homes, NodeOf, Tenant, TextOf, home_frame, is_home, same_tenant, is_worn}
use Rattle.wf_homes.specs.Entries.{SpellsView}

-- word i of a frame
abbrev pub word_of_frame : WordsValue → ℕ → ℕ → ℕ
word_of_frame words frame i = slice_index words.items (word_place words.frames frame i)

-- one word is another
abbrev pub with_word : WordsValue → ℕ → ℕ → WordsValue
with_word words at value = record words { items = slice_set words.items at value }

-- the words of a frame are those of a page
abbrev pub HasWords : WordsValue → ℕ → List ℕ → Type 0
HasWords words frame page =
    (i : ℕ) → i < PAGE_WORDS → word_of_frame words frame i ≡ slice_index page i

-- the fields of a frame's word
abbrev pub fields_at : WordsValue → ℕ → FrameWord
fields_at words frame = fields_of (slice_index words.items (frame_word_place frame))

-- the record of a page of data that lies in a frame
abbrev pub record_of : PageState → ℕ → PageAt
record_of page frame =
    record {
      page = page.number;
      write = page.write;
      frame = frame;
      going = is_going page.stage;
      ending = is_ending page.stage;
    }

-- A page of data lies in a frame: its record says so, with its right and stage; its words are the
-- frame's; and the frame's word has its count of writes, is taken where a hart holds the page, and
-- is live where the page is Here or Going.
pub record LiesIn (words : WordsValue) (r : Records) (page : PageState) (frame : ℕ) : Type 0 where
  pub recorded : page_at r.pages page.number ≡ Some (record_of page frame)
  pub same_words : HasWords words frame page.words
  pub writes : (fields_at words frame).writes ≡ page.writes
  pub taken : (fields_at words frame).taken ≡ is_some page.holder
  pub live : (fields_at words frame).live ≡ not (is_ending page.stage)

-- a page of data is kept: it lies in its home
abbrev pub IsKeptPage : WordsValue → Records → Homes → PageState → Type 0
IsKeptPage words r homes page =
    IsSomeAnd (home_frame homes (DataOf page.number)) (LiesIn words r page)

-- no page of data lies in a frame
abbrev pub HasNoData : Homes → ℕ → Type 0
HasNoData homes frame = (page : ℕ) → home_frame homes (DataOf page) ≢ Some frame

-- a frame is in use where it is a home, and else worn or free
abbrev pub state_of : Homes → ℕ → FrameState
state_of homes frame =
    if is_home homes frame then InUse else (if is_worn homes frame then Worn else Free)

-- A frame is kept: its record says whether it is in use, worn or free, and has the incarnation of
-- its word, which is no more than so many births of pages; and where no page of data lies in it, it
-- is neither live nor taken.
pub record IsKeptFrame (words : WordsValue) (r : Records) (homes : Homes) (births frame : ℕ)
    : Type 0 where
  pub state : HasState r.frames.frames frame (state_of homes frame)
  pub incarnation : IsSomeAnd (slice_get r.frames.frames frame)
      (λ f. f.incarnation ≡ (fields_at words frame).inc)
  pub few : (fields_at words frame).inc ≤ births
  pub not_live : HasNoData homes frame → (fields_at words frame).live ≡ false
  pub not_taken : HasNoData homes frame → (fields_at words frame).taken ≡ false

-- the number of a page of text, as a view has it
abbrev pub text_page : TextAt → ℕ
text_page text = text.page

-- the frame that a view has for a page of its text
abbrev pub text_frame : ViewValue → ℕ → Option ℕ
text_frame view page = option_map (λ text. text.frame) (found_by text_page view.text page)

-- the frame that a view has for the node of a level and prefix
abbrev pub node_frame : ViewValue → ℕ → ℕ → Option ℕ
node_frame view level prefix =
    option_map (λ node. node.frame)
    (find (λ node. (level == node.level) && (prefix == node.prefix)) view.nodes.items)

-- the frame in which the records keep a tenant, if they have it
abbrev pub recorded_frame : Records → Tenant → Option ℕ
recorded_frame r (TextOf generation page) =
    option_and_then (λ view. text_frame view page) (view_of r.views generation)
recorded_frame r (DataOf page) = option_map (λ page. page.frame) (page_at r.pages page)
recorded_frame r (NodeOf generation level prefix) =
    option_and_then (λ view. node_frame view level prefix) (view_of r.views generation)

-- a page of a generation's text is kept: its words are those of its home
abbrev pub IsKeptText : WordsValue → Homes → ℕ → PageValue → Type 0
IsKeptText words homes generation page =
    IsSomeAnd (home_frame homes (TextOf generation page.number))
    (λ frame. HasWords words frame page.words)

-- the nodes of a view, as tenants
abbrev pub node_tenants_in : ViewValue → List Tenant
node_tenants_in view =
    map (λ node. NodeOf view.generation node.level node.prefix) view.nodes.items

-- a view has met the pages that its generation has, and no others
pub record HasMet (view : ViewValue) (s : FlatState) : Type 0 where
  pub same : (page : ℕ) → page < ADDRESS_PAGES
      → has_number view.met.items page ≡ has_met s.met view.generation page
  pub low : AllByRecursion (λ page. page < ADDRESS_PAGES) view.met.items

-- a hart that runs is in a generation
abbrev pub IsResident : FlatState → ℕ → ℕ → Type 0
IsResident s generation h = OfRunning s h (λ hart. hart.generation ≡ generation)

-- a view has the harts that run in its generation, and no others
abbrev pub HasResidents : ViewValue → FlatState → Type 0
HasResidents view s =
    (h : ℕ) → IsTrue (has_number view.residents.items h) ↔ IsResident s view.generation h

-- a generation has a node for the leaf of a page
abbrev pub HasNodeFor : Homes → ℕ → ℕ → Type 0
HasNodeFor homes generation page =
    IsSome (home_frame homes (NodeOf generation 0 (page / PAGE_WORDS)))

-- a generation has nodes for the leaves that it may get: those of its text, and of each page of
-- data that is Here or Going
pub record HasNodes (homes : Homes) (s : FlatState) (gen : GenState) : Type 0 where
  pub text : AllByRecursion (HasNodeFor homes gen.number) (text_numbers gen.text)
  pub pages : AllByRecursion
      (λ page. is_ending page.stage ≡ false → HasNodeFor homes gen.number page.number) s.pages

-- A generation that lives is kept: its view has its number, parent, patches, jumps, places and
-- pages of text, each node once, what it has met and who is in it; the pages of its text are kept;
-- it has nodes for its leaves; and the words spell it.
pub record IsKeptView (words : WordsValue) (homes : Homes) (s : FlatState) (gen : GenState)
    (view : ViewValue) : Type 0 where
  pub generation : view.generation ≡ gen.number
  pub parent : view.parent ≡ gen.parent
  pub patches : view.patches ≡ gen.patches
  pub jumps : view.jumps ≡ gen.jumps
  pub reach : view.reach.items ≡ gen.reach
  pub root : home_frame homes (NodeOf gen.number 2 0) ≡ Some view.root
  pub pages : map text_page view.text ≡ text_numbers gen.text
  pub nodes : IsDistinct same_tenant (node_tenants_in view)
  pub met : HasMet view s
  pub residents : HasResidents view s
  pub text : AllByRecursion (IsKeptText words homes gen.number) gen.text
  pub leaves : HasNodes homes s gen
  pub spelled : SpellsView words homes s gen.number

-- a frame and incarnation are those of a page of data
pub record IsMapping (words : WordsValue) (homes : Homes) (page : PageState) (frame inc : ℕ)
    : Type 0 where
  pub home : home_frame homes (DataOf page.number) ≡ Some frame
  pub incarnation : (fields_at words frame).inc ≡ inc

-- A reservation is kept as the frame and incarnation of its page: they are those of a page of data
-- exactly where the reservation has that page's birth. They are no frame's in time to come.
pub record IsKeptReservation (words : WordsValue) (homes : Homes) (s : FlatState)
    (reservation : Reservation) (kept : CoreReservation) : Type 0 where
  pub va : kept.va ≡ reservation.va
  pub width : kept.width ≡ reservation.width
  pub writes : kept.writes ≡ reservation.writes
  pub pages : AllByRecursion (λ page.
      IsMapping words homes page kept.frame kept.inc ↔ (reservation.birth ≡ page.birth)) s.pages
  pub frame : kept.frame < s.limits.frames
  pub inc : kept.inc ≤ (fields_at words kept.frame).inc

-- a reservation is kept where there is one, and none where there is none
abbrev pub KeepsReservation : WordsValue → Homes → FlatState → Option Reservation
    → Option CoreReservation → Type 0
KeepsReservation words homes s None None = Unit {0}
KeepsReservation words homes s (Some reservation) (Some kept) =
    IsKeptReservation words homes s reservation kept
KeepsReservation words homes s None (Some kept) = ⊥
KeepsReservation words homes s (Some reservation) None = ⊥
