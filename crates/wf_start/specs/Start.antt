-- What stands at the start of a run: a state of one generation, and words and records of it.
use Rattle.std.specs.Prelude.{ℕ, Bool, [], ◌∷◌, Some, None, true, ◌≡◌, ◌≤◌, ◌<◌, ◌+◌, ◌/◌, ◌↔◌, if◌then◌else◌, length, nat_le, nat_lt, ◌&&◌, slice_get, slice_index, nat_eq, IsTrue}
use Rattle.std.specs.List.{AllByRecursion}
use Rattle.std.specs.Set.{is_member}
use Rattle.wf_outside.specs.declared.sizes.TheConstants.{PAGE_WORDS}
use Rattle.wf_outside.specs.Images.{text_numbers}
use Rattle.wf_outside.specs.Pages.{PageValue}
use Rattle.wf_frames.specs.declared.state.Frame.{Frame}
use Rattle.wf_frames.specs.Layout.{WordsValue, frame_word_place, word_count}
use Rattle.wf_views.specs.declared.records.Records.{Records}
use Rattle.wf_views.specs.declared.view.NodeAt.{NodeAt}
use Rattle.wf_views.specs.Lists.{has_number}
use Rattle.wf_views.specs.Views.{ViewValue}
use Rattle.wf_flat.specs.declared.state.Stage.TheVariants.{Here}
use Rattle.wf_flat.specs.Counts.{used_of}
use Rattle.wf_flat.specs.State.{FlatState, GenState, PageState}
use Rattle.wf_homes.specs.Homes.{homes_at_boot, tree_nodes}
use Rattle.wf_homes.specs.Kept.{HasWords, IsResident}
use Rattle.wf_homes.specs.Laws.{IsTidy}
use Rattle.wf_homes.specs.Stands.{StandsFor, born_of}
use Rattle.wf_space.specs.Changes.{marked}
use Rattle.wf_start.specs.Layout.{nodes_from, pages_from, text_from}
use Rattle.wf_start.specs.Laying.{first_live, node_words}
use Rattle.wf_start.specs.Marking.{fresh_frame}

-- a page of data that is Here, that no hart holds, and that was not written yet
pub record IsFreshPage (page : PageState) : Type 0 where
  pub here : page.stage ≡ Here
  pub free : page.holder ≡ None
  pub unwritten : page.writes ≡ 0

-- a generation reaches the place of 512 pages in which a page lies
abbrev pub IsReached : GenState → ℕ → Type 0
IsReached gen page = is_member nat_eq gen.reach (page / PAGE_WORDS) ≡ true

-- A state at the start of a run: one generation, number 0, lives, and so many harts run in it; it
-- reaches all pages, which are fresh; nothing was met, no frame is worn, and frames suffice.
pub record IsFirst (s : FlatState) (gen : GenState) (harts : ℕ) : Type 0 where
  pub only : s.gens ≡ gen ∷ []
  pub number : gen.number ≡ 0
  pub live : gen.live ≡ true
  pub unmet : s.met ≡ []
  pub unworn : s.worn ≡ 0
  pub births : s.births ≡ length s.pages
  pub fresh : AllByRecursion IsFreshPage s.pages
  pub text_reached : AllByRecursion (IsReached gen) (text_numbers gen.text)
  pub data_reached : AllByRecursion (λ page. IsReached gen page.number) s.pages
  pub residents : (h : ℕ) → (h < harts) ↔ IsResident s 0 h
  pub tidy : IsTidy s
  pub fits : used_of s ≤ s.limits.frames

-- the first frame of data, which stands behind those of text
abbrev pub data_first : GenState → ℕ
data_first gen = length gen.text

-- the first frame of nodes, which stands behind those of text and data
abbrev pub nodes_first : FlatState → GenState → ℕ
nodes_first s gen = length gen.text + length s.pages

-- one of the frames of data
abbrev pub is_data_frame : FlatState → GenState → ℕ → Bool
is_data_frame s gen frame = nat_le (data_first gen) frame && nat_lt frame (nodes_first s gen)

-- the record of a frame at the start: it is taken where something lies in it, and is in its first
-- incarnation where that is data
abbrev pub frame_at_start : FlatState → GenState → ℕ → Frame
frame_at_start s gen frame =
    if nat_lt frame (used_of s)
    then marked s.limits.last_birth (is_data_frame s gen frame) fresh_frame else fresh_frame

-- the view of the first generation, in which so many harts are
pub record IsFirstView (s : FlatState) (gen : GenState) (harts : ℕ) (view : ViewValue)
    : Type 0 where
  pub generation : view.generation ≡ 0
  pub parent : view.parent ≡ gen.parent
  pub patches : view.patches ≡ gen.patches
  pub jumps : view.jumps ≡ gen.jumps
  pub root : view.root ≡ nodes_first s gen
  pub text : view.text ≡ text_from 0 gen.text
  pub nodes : view.nodes.items ≡ nodes_from (nodes_first s gen) (tree_nodes gen.reach)
  pub reach : view.reach.items ≡ gen.reach
  pub met : view.met.items ≡ []
  pub residents : (h : ℕ) → IsTrue (has_number view.residents.items h) ↔ (h < harts)

-- the records of a state at the start
pub record AreFirstRecords (s : FlatState) (gen : GenState) (view : ViewValue) (r : Records)
    : Type 0 where
  pub limits : r.limits ≡ s.limits
  pub last_birth : r.frames.last_birth ≡ s.limits.last_birth
  pub count : length r.frames.frames ≡ s.limits.frames
  pub frames : (f : ℕ) → f < s.limits.frames
      → slice_get r.frames.frames f ≡ Some (frame_at_start s gen f)
  pub views : r.views.views ≡ view ∷ []
  pub last : r.views.last ≡ Some 0
  pub pages : r.pages.items ≡ pages_from (data_first gen) s.pages
  pub born : r.born.items ≡ born_of gen ∷ []
  pub births : r.births ≡ s.births

-- the words of a state at the start: each page and node lies in its frame, and the frame words of
-- frames of data are live
pub record AreFirstWords (s : FlatState) (gen : GenState) (view : ViewValue) (words : WordsValue)
    : Type 0 where
  pub frames : words.frames ≡ s.limits.frames
  pub whole : length words.items ≡ word_count s.limits.frames
  pub zero_word : slice_index words.items 0 ≡ 0
  pub frame_words : (f : ℕ) → f < s.limits.frames
      → slice_index words.items (frame_word_place f)
      ≡ (if is_data_frame s gen f then first_live else 0)
  pub text : (j : ℕ) (page : PageValue) → slice_get gen.text j ≡ Some page
      → HasWords words j page.words
  pub data_pages : (j : ℕ) (page : PageState) → slice_get s.pages j ≡ Some page
      → HasWords words (data_first gen + j) page.words
  pub nodes : (j : ℕ) (node : NodeAt) → slice_get view.nodes.items j ≡ Some node
      → HasWords words (nodes_first s gen + j) (node_words view node)

-- Such words and records stand for the state, with the homes that all of it gets in order.
abbrev pub FirstStand : Type 0
FirstStand =
    (s : FlatState) (gen : GenState) (harts : ℕ) (view : ViewValue) (r : Records)
    (words : WordsValue)
    → IsFirst s gen harts → IsFirstView s gen harts view → AreFirstRecords s gen view r
    → AreFirstWords s gen view words → 1 ≤ s.limits.last_birth
    → StandsFor words r (homes_at_boot s) s
