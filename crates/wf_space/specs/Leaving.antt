-- What words and records stand for when a page leaves: it is Going, its leaves are cleared, and it
-- is gone.
use Rattle.std.specs.Prelude.{ℕ, Bool, true, false, Some, None, ◌≡◌, ◌≢◌, ◌<◌, length, not, nat_lt, slice_get, slice_index, IsSomeAnd}
use Rattle.std.specs.List.{AllByRecursion}
use Rattle.wf_outside.specs.declared.sizes.TheConstants.{ADDRESS_PAGES}
use Rattle.wf_frames.specs.Layout.{WordsValue}
use Rattle.wf_views.specs.declared.plan.Change.TheVariants as change
use Rattle.wf_views.specs.declared.records.Records.{Records}
use Rattle.wf_views.specs.Lists.{has_number}
use Rattle.wf_views.specs.Records.{left}
use Rattle.wf_views.specs.Views.{ViewValue, forgotten, view_of}
use Rattle.wf_flat.specs.declared.state.Stage.TheVariants.{Going}
use Rattle.wf_flat.specs.Accesses.{is_ending}
use Rattle.wf_flat.specs.Changes.{change_page}
use Rattle.wf_flat.specs.Memory.{data_in, has_met}
use Rattle.wf_flat.specs.State.{FlatState, PageState}
use Rattle.wf_effects.specs.Effects.{met_but_page, page_gone}
use Rattle.wf_homes.specs.Homes.{DataOf, Homes, TextOf, home_frame, without_page}
use Rattle.wf_homes.specs.Kept.{fields_at, record_of}
use Rattle.wf_homes.specs.Stands.{StandsFor}
use Rattle.wf_space.specs.Changes.{with_change}
use Rattle.wf_space.specs.Leaves.{leaf_place, node_for}
use Rattle.wf_space.specs.Pieces.{without_live}

-- a frame is worn where it is given back: it is in its last incarnation
abbrev pub IsInLast : Records → ℕ → Bool → Type 0
IsInLast r frame worn =
    IsSomeAnd (slice_get r.frames.frames frame)
    (λ f. worn ≡ not (nat_lt f.incarnation r.frames.last_birth))

-- A page of data may go at once: it lies in this frame, no hart holds it, and no generation has met
-- it; and pages are those of addresses.
pub record MayGo (homes : Homes) (s : FlatState) (page frame : ℕ) (leaving : PageState)
    : Type 0 where
  pub there : data_in s.pages page ≡ Some leaving
  pub home : home_frame homes (DataOf page) ≡ Some frame
  pub free : leaving.holder ≡ None
  pub unmet : (generation : ℕ) → has_met s.met generation page ≡ false
  pub low : AllByRecursion (λ other. other.number < ADDRESS_PAGES) s.pages

-- A page that may go leaves: where the live bit of its frame's word is cleared, and its record
-- leaves, words and records stand for the state in which it is gone, and its home is given up.
abbrev pub LeaveStands : Type 0
LeaveStands =
    (words : WordsValue) (r : Records) (homes : Homes) (s : FlatState) (page frame : ℕ)
    (leaving : PageState) (worn : Bool)
    → StandsFor words r homes s → MayGo homes s page frame leaving → IsInLast r frame worn
    → StandsFor (without_live words frame)
    (left (fields_at words frame).taken r (record_of leaving frame))
    (without_page homes page worn) (page_gone s page worn)

-- a view has a leaf for a page, in the node in a frame
pub record HasLeaf (r : Records) (page node : ℕ) : Type 0 where
  pub generation : ℕ
  pub view : ViewValue
  pub there : view_of r.views generation ≡ Some view
  pub met : has_number view.met.items page ≡ true
  pub node_at : node_for view page ≡ Some node

-- the leaves of a page are cleared in all views that have met it, and all other words are as they
-- were
pub record AreCleared (old new : WordsValue) (r : Records) (page : ℕ) : Type 0 where
  pub frames : new.frames ≡ old.frames
  pub size : length new.items ≡ length old.items
  pub cleared : (node : ℕ) → HasLeaf r page node
      → slice_index new.items (leaf_place old.frames node page) ≡ 0
  pub others : (at : ℕ)
      → ((node : ℕ) → HasLeaf r page node → at ≢ leaf_place old.frames node page)
      → slice_index new.items at ≡ slice_index old.items at

-- generations may forget a page: it is text of none that has a frame for it; and pages, and those
-- that generations have met, are those of addresses
pub record MayForget (homes : Homes) (s : FlatState) (page : ℕ) : Type 0 where
  pub low : page < ADDRESS_PAGES
  pub no_text : (generation : ℕ) → home_frame homes (TextOf generation page) ≡ None
  pub pages_low : AllByRecursion (λ other. other.number < ADDRESS_PAGES) s.pages
  pub met_low : AllByRecursion (λ pair. pair.1 < ADDRESS_PAGES) s.met

-- the state in which no generation has met a page
abbrev pub page_forgotten : FlatState → ℕ → FlatState
page_forgotten s page = record s { met = met_but_page s.met page }

-- Where the leaves of a page are cleared, and no view has met it, words and records stand for the
-- state in which no generation has met it.
abbrev pub ClearedStand : Type 0
ClearedStand =
    (old new : WordsValue) (r : Records) (homes : Homes) (s : FlatState) (page : ℕ)
    → StandsFor old r homes s → MayForget homes s page → AreCleared old new r page
    → StandsFor new (record r { views = forgotten page r.views }) homes (page_forgotten s page)

-- a page is Going
abbrev pub going : PageState → PageState
going page = record page { stage = Going }

-- Where a page of data that is not Ending is going in its record, words and records stand for the
-- state in which it is Going.
abbrev pub GoingStands : Type 0
GoingStands =
    (words : WordsValue) (r : Records) (homes : Homes) (s : FlatState) (page : ℕ)
    (leaving : PageState)
    → StandsFor words r homes s → data_in s.pages page ≡ Some leaving
    → is_ending leaving.stage ≡ false
    → StandsFor words (with_change r (change.Going page)) homes (change_page s page going)
