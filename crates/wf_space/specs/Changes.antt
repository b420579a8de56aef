-- What one change makes of the records, and what it asks for.
use Rattle.std.specs.Prelude.{ℕ, List, [], ◌∷◌, Bool, Option, Some, None, ◌≡◌, ◌<◌, ◌+◌, ◌++◌, ◌^◌, if◌then◌else◌, map, nat_eq, IsSome, IsSomeAnd}
use Rattle.std.specs.List.{AllByRecursion, IsDistinct, fold}
use Rattle.wf_frames.specs.declared.state.Frame.{Frame}
use Rattle.wf_frames.specs.declared.state.FrameState.TheVariants.{Free, InUse}
use Rattle.wf_frames.specs.Frames.{FramesValue, HasState, given, raised, taken, with_frame}
use Rattle.wf_views.specs.declared.plan.Change.{Change}
use Rattle.wf_views.specs.declared.plan.Change.TheVariants.{Mark, Page, Going, Node, Reach, Met, Birth, Born, Move, Dead}
use Rattle.wf_views.specs.declared.records.BornAt.{BornAt}
use Rattle.wf_views.specs.declared.records.Records.{Records}
use Rattle.wf_views.specs.declared.view.NodeAt.{NodeAt}
use Rattle.wf_views.specs.declared.view.TextAt.{TextAt}
use Rattle.wf_views.specs.Lists.{MayAdd, pushed}
use Rattle.wf_views.specs.Pages.{made_going, page_added, page_at, page_changed}
use Rattle.wf_views.specs.Views.{IsAbove, ViewValue, view_of, with_added, with_node, with_page_met, with_reach, with_removed, with_resident, with_view, without_resident}

-- a frame is taken, and is in its next incarnation where it is to be data
abbrev pub marked : ℕ → Bool → Frame → Frame
marked last_birth raise f = if raise then raised last_birth (taken f) else taken f

-- the frames of pages of text
abbrev pub text_frames : List TextAt → List ℕ
text_frames text = map (λ page. page.frame) text

-- the frames of nodes
abbrev pub node_frames : List NodeAt → List ℕ
node_frames nodes = map (λ node. node.frame) nodes

-- the frames of a view: those of its text, and those of its nodes
abbrev pub view_frames : ViewValue → List ℕ
view_frames view = text_frames view.text ++ node_frames view.nodes.items

-- a frame is given back
abbrev pub frame_given : FramesValue → ℕ → FramesValue
frame_given frames frame = with_frame frames frame (given frames.last_birth)

-- frames are given back, one after another
abbrev pub all_given : FramesValue → List ℕ → FramesValue
all_given frames numbers = fold frame_given frames numbers

-- the frames of a view, if there is one, are given back
abbrev pub view_given : FramesValue → Option ViewValue → FramesValue
view_given frames None = frames
view_given frames (Some view) = all_given frames (view_frames view)

-- the entry of a view that is born
abbrev pub born_with : ViewValue → BornAt
born_with view = record { parent = view.parent; patches = view.patches }

-- the records after a change
abbrev pub with_change : Records → Change → Records
with_change r (Mark frame raise) =
    record r { frames = with_frame r.frames frame (marked r.frames.last_birth raise) }
with_change r (Page page) = record r { pages = page_added page r.pages }
with_change r (Going page) = record r { pages = page_changed page made_going r.pages }
with_change r (Node generation node) =
    record r { views = with_view r.views generation (with_node node) }
with_change r (Reach generation place) =
    record r { views = with_view r.views generation (with_reach place) }
with_change r (Met generation page) =
    record r { views = with_view r.views generation (with_page_met page) }
with_change r (Birth n) = record r { births = r.births + n }
with_change r (Born view) =
    record r { views = with_added r.views view; born = pushed (born_with view) r.born }
with_change r (Move hart old new) =
    record r {
      views = with_view (with_view r.views new (with_resident hart)) old (without_resident hart);
    }
with_change r (Dead generation) =
    record r {
      frames = view_given r.frames (view_of r.views generation);
      views = with_removed r.views generation;
    }

-- frames can be given back: they are in use, and none is there twice
pub record CanBeGiven (frames : FramesValue) (numbers : List ℕ) : Type 0 where
  pub used : AllByRecursion (λ frame. HasState frames.frames frame InUse) numbers
  pub apart : IsDistinct nat_eq numbers

-- the frames of a view can be given back
abbrev pub HasOwnFrames : FramesValue → ViewValue → Type 0
HasOwnFrames frames view = CanBeGiven frames (view_frames view)

-- a change can be made: what it names is there, or not there yet, and there is room for what is new
abbrev pub MayChange : Records → Change → Type 0
MayChange r (Mark frame raise) = HasState r.frames.frames frame Free
MayChange r (Page page) = (page_at r.pages page.page ≡ None) × (0 < r.pages.room)
MayChange r (Going page) = IsSome (page_at r.pages page)
MayChange r (Node generation node) =
    IsSomeAnd (view_of r.views generation) (λ v. 0 < v.nodes.room)
MayChange r (Reach generation place) =
    IsSomeAnd (view_of r.views generation) (λ v. MayAdd place v.reach)
MayChange r (Met generation page) =
    IsSomeAnd (view_of r.views generation) (λ v. MayAdd page v.met)
MayChange r (Birth n) = r.births + n < 2 ^ 64
MayChange r (Born view) =
    IsAbove r.views.last view.generation × (0 < r.views.room) × (0 < r.born.room)
MayChange r (Move hart old new) =
    IsSome (view_of r.views old)
    × IsSomeAnd (view_of r.views new) (λ v. MayAdd hart v.residents)
MayChange r (Dead generation) =
    IsSomeAnd (view_of r.views generation) (HasOwnFrames r.frames)

-- changes can be made one after another
abbrev pub MayNote : Records → List Change → Type 0
MayNote r [] = Unit {0}
MayNote r (change ∷ changes) = MayChange r change × MayNote (with_change r change) changes

-- the records after changes, in their order
abbrev pub with_changes : Records → List Change → Records
with_changes r changes = fold with_change r changes
