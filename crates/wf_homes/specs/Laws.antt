-- What holds of homes, and that words and records stand for something.
use Rattle.std.specs.Prelude.{ℕ, List, [], ◌∷◌, Some, None, ◌≡◌, ◌<◌, ◌≤◌, ◌+◌, ◌/◌, ◌%◌, Bool, if◌then◌else◌, length, slice_get, IsSome}
use Rattle.std.specs.List.{AllByRecursion, IsDistinct}
use Rattle.wf_outside.specs.declared.sizes.TheConstants.{ADDRESS_PAGES, LEAST_FRAMES, PAGE_WORDS}
use Rattle.wf_outside.specs.Images.{ImageValue, IsImage}
use Rattle.wf_outside.specs.Pages.{LimitsValue}
use Rattle.wf_frames.specs.Layout.{WordsValue, word_place}
use Rattle.wf_views.specs.declared.records.Records.{Records}
use Rattle.wf_views.specs.Views.{with_page_met, with_view}
use Rattle.wf_flat.specs.State.{FlatState, GenState, PageState}
use Rattle.wf_flat.specs.Changes.{page_met}
use Rattle.wf_flat.specs.Memory.{data_in}
use Rattle.wf_flat.specs.Ordered.{IsGen, IsOrdered}
use Rattle.wf_flat.specs.Counts.{used_of}
use Rattle.wf_flat.specs.Boot.{boot_of}
use Rattle.wf_homes.specs.Homes.{AreHomes, AreSeparate, DataOf, Homes, NodeOf, TextOf, free_frames, home_frame, homes_at_boot, homes_in, same_tenant, tenants_of, without_page}
use Rattle.wf_homes.specs.Entries.{data_leaf}
use Rattle.wf_homes.specs.Kept.{with_word}
use Rattle.wf_homes.specs.Stands.{StandsFor}

-- the tables of a state stand in order, and each generation at the place of its number
pub record IsTidy (s : FlatState) : Type 0 where
  pub ordered : IsOrdered s
  pub placed : (g : ℕ) (gen : GenState) → slice_get s.gens g ≡ Some gen → gen.number ≡ g
  pub gens : AllByRecursion (λ gen. IsGen gen.text gen.reach) s.gens

-- the state takes as many frames as there are tenants, and none is there twice
pub record AreCounted (s : FlatState) : Type 0 where
  pub count : length (tenants_of s) ≡ used_of s
  pub once : IsDistinct same_tenant (tenants_of s)

-- tenants are counted, wherever tables stand in order
abbrev pub TenantsAreCounted : Type 0
TenantsAreCounted = (s : FlatState) → IsTidy s → AreCounted s

-- where frames suffice, homes are made for a state from any that are separate
abbrev pub HomesAreMade : Type 0
HomesAreMade =
    (homes : Homes) (s : FlatState) → AreSeparate homes s → AreCounted s
    → used_of s + s.worn ≤ s.limits.frames → AreHomes (homes_in homes s) s

-- Homes stay separate where a page of data gives its home up, and one more is worn or not.
abbrev pub HomesAreGivenUp : Type 0
HomesAreGivenUp =
    (homes : Homes) (s after : FlatState) (page : ℕ) (worn : Bool)
    → AreSeparate homes s → IsSome (home_frame homes (DataOf page)) → after.limits ≡ s.limits
    → after.worn ≡ (if worn then s.worn + 1 else s.worn)
    → AreSeparate (without_page homes page worn) after

-- where frames suffice for the start of a run, it has homes
abbrev pub StartsHaveHomes : Type 0
StartsHaveHomes =
    (image : ImageValue) (harts : ℕ) (limits : LimitsValue)
    → IsImage image.text image.pages image.entry
    → used_of (boot_of image harts limits) ≤ limits.frames
    → AreHomes (homes_at_boot (boot_of image harts limits)) (boot_of image harts limits)

-- the frames that are no home and not worn are as many as are neither used nor worn
abbrev pub FreeFramesAreCounted : Type 0
FreeFramesAreCounted =
    (homes : Homes) (s : FlatState) → AreHomes homes s → AreCounted s
    → length (free_frames s.limits.frames homes) + used_of s + s.worn ≡ s.limits.frames

-- there are words and records that stand for a state with these homes
pub record IsStoodFor (homes : Homes) (s : FlatState) : Type 0 where
  pub words : WordsValue
  pub records : Records
  pub stands : StandsFor words records homes s

-- an image of one page of text, which has these words, and no data
abbrev pub smallest_image : List ℕ → ImageValue
smallest_image words =
    record {
      text = record { number = 0x10; words = words } ∷ [];
      pages = [];
      entry = 0x10000;
      names = [];
      end = 0x11;
    }

-- the start of a program of one page of text, with one hart
abbrev pub smallest_start : List ℕ → LimitsValue → FlatState
smallest_start words limits = boot_of (smallest_image words) 1 limits

-- words and records stand for such a start
abbrev pub SmallestStands : Type 0
SmallestStands =
    (words : List ℕ) (limits : LimitsValue) → LEAST_FRAMES ≤ limits.frames
    → IsStoodFor (homes_at_boot (smallest_start words limits)) (smallest_start words limits)

-- a generation may meet a page of data: it has a node for the page's leaf, which lies in this
-- frame, the page is none of its text, and pages are those of addresses
pub record MayMeet (homes : Homes) (s : FlatState) (generation page node : ℕ) (met : PageState)
    : Type 0 where
  pub there : data_in s.pages page ≡ Some met
  pub node_at : home_frame homes (NodeOf generation 0 (page / PAGE_WORDS)) ≡ Some node
  pub no_text : home_frame homes (TextOf generation page) ≡ None
  pub low : AllByRecursion (λ other. other.number < ADDRESS_PAGES) s.pages

-- A generation meets a page of data by a hart's call: where the leaf is stored in the node and the
-- view has met the page, words and records stand for the state in which the generation has.
abbrev pub SyncStands : Type 0
SyncStands =
    (words : WordsValue) (r : Records) (homes : Homes) (s : FlatState) (h generation page node : ℕ)
    (met : PageState)
    → StandsFor words r homes s → MayMeet homes s generation page node met
    → StandsFor
    (with_word words (word_place words.frames node (page % PAGE_WORDS))
    (data_leaf homes (Some met)))
    (record r { views = with_view r.views generation (with_page_met page) })
    homes (page_met s h generation page)
