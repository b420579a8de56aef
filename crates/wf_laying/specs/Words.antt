-- The words at the start of a run.
use Rattle.std.specs.Prelude.{ℕ, List, Some, ◌≡◌, ◌≢◌, ◌<◌, ◌+◌, length, slice_get, slice_index}
use Rattle.wf_outside.specs.Pages.{PageValue}
use Rattle.wf_frames.specs.Layout.{WordsValue, frame_word_place, word_count}
use Rattle.wf_views.specs.declared.view.NodeAt.{NodeAt}
use Rattle.wf_views.specs.Views.{ViewValue}
use Rattle.wf_flat.specs.State.{PageState}
use Rattle.wf_homes.specs.Kept.{HasWords}
use Rattle.wf_start.specs.Laying.{first_live, node_words}

-- Words of so many frames, in which pages of text, pages of data and the nodes of a view that has
-- met nothing lie one behind another, from frame 0 on; the frame words of frames of data are live,
-- and all others are 0.
pub record WordsLaidOut (words : WordsValue) (frames : ℕ) (text : List PageValue)
    (pages : List PageState) (view : ViewValue) : Type 0 where
  pub count : words.frames ≡ frames
  pub whole : length words.items ≡ word_count frames
  pub zero_word : slice_index words.items 0 ≡ 0
  pub live : (j : ℕ) → j < length pages
      → slice_index words.items (frame_word_place (length text + j)) ≡ first_live
  pub dead : (f : ℕ) → f < frames → ((j : ℕ) → j < length pages → f ≢ length text + j)
      → slice_index words.items (frame_word_place f) ≡ 0
  pub with_text : (j : ℕ) (page : PageValue) → slice_get text j ≡ Some page
      → HasWords words j page.words
  pub with_data : (j : ℕ) (page : PageState) → slice_get pages j ≡ Some page
      → HasWords words (length text + j) page.words
  pub with_nodes : (j : ℕ) (node : NodeAt) → slice_get view.nodes.items j ≡ Some node
      → HasWords words (length text + length pages + j) (node_words view node)
