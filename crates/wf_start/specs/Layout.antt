-- Where everything lies at the start of a run: the first frames have pages of text, pages of data
-- and nodes, one behind another.
use Rattle.std.specs.Prelude.{ℕ, zero, suc, List, [], ◌∷◌, ◌+◌, ◌*◌, ◌≡◌, ◌<◌, ◌≤◌, length}
use Rattle.wf_outside.specs.declared.sizes.TheConstants.{PAGE_WORDS}
use Rattle.wf_outside.specs.Pages.{PageValue}
use Rattle.wf_frames.specs.Layout.{WordsValue}
use Rattle.wf_sv39.specs.declared.entry.Leaf.TheVariants.{Private}
use Rattle.wf_views.specs.declared.pages.PageAt.{PageAt}
use Rattle.wf_views.specs.declared.view.NodeAt.{NodeAt}
use Rattle.wf_views.specs.declared.view.TextAt.{TextAt}
use Rattle.wf_views.specs.Views.{ViewValue}
use Rattle.wf_flat.specs.State.{FlatState, PageState}
use Rattle.wf_homes.specs.Entries.{leaf_to, pointer_to}
use Rattle.wf_homes.specs.Homes.{homes_at_boot, tenants_of}
use Rattle.wf_homes.specs.Kept.{HasWords, node_frame, record_of, text_frame, word_of_frame}

-- what is made of each of these and a number, which rises from one on
abbrev pub each_from : {A B : Type 0} → (ℕ → A → B) → ℕ → List A → List B
each_from f n [] = []
each_from f n (x ∷ xs) = f n x ∷ each_from f (n + 1) xs

-- each of these with a number, from one on
abbrev pub numbered : {A : Type 0} → ℕ → List A → List (A × ℕ)
numbered n xs = each_from (λ n x. (x, n)) n xs

-- pages of text that lie in the frames from one on
abbrev pub text_from : ℕ → List PageValue → List TextAt
text_from frame pages =
    each_from (λ frame page. record { page = page.number; frame = frame }) frame pages

-- the records of pages of data that lie in the frames from one on
abbrev pub pages_from : ℕ → List PageState → List PageAt
pages_from frame pages = each_from (λ frame page. record_of page frame) frame pages

-- nodes, each by its level and prefix, that lie in the frames from one on
abbrev pub nodes_from : ℕ → List (ℕ × ℕ) → List NodeAt
nodes_from frame nodes =
    each_from (λ frame node. record { level = node.0; prefix = node.1; frame = frame }) frame nodes

-- The entry of a view that has met nothing, for what has this prefix, in a node of a level: at level
-- 0 the leaf of the page of text of that number; above it a pointer to the node of the level below.
abbrev pub first_entry : ViewValue → ℕ → ℕ → ℕ
first_entry view zero page = leaf_to (text_frame view page) Private
first_entry view (suc level) prefix = pointer_to (node_frame view level prefix)

-- a node has the entries of a view that has met nothing
abbrev pub HasEntries : WordsValue → ViewValue → NodeAt → Type 0
HasEntries words view node =
    (i : ℕ) → i < PAGE_WORDS
    → word_of_frame words node.frame i
    ≡ first_entry view node.level (node.prefix * PAGE_WORDS + i)

-- pages with these words lie in the frames from one on
abbrev pub LieFrom : WordsValue → ℕ → List (List ℕ) → Type 0
LieFrom words frame [] = Unit {0}
LieFrom words frame (page ∷ pages) = HasWords words frame page × LieFrom words (frame + 1) pages

-- At the start of a run the first frames are the homes of whatever is there, in its order, and none
-- is worn.
abbrev pub HomesComeFirst : Type 0
HomesComeFirst = (s : FlatState) → length (tenants_of s) ≤ s.limits.frames
    → homes_at_boot s ≡ record { homes = numbered 0 (tenants_of s); worn = [] }
