-- Words that are stored at the start of a run: pages and nodes in frames one behind another.
use Rattle.std.specs.Prelude.{ℕ, List, Some, true, false, ◌≡◌, ◌≢◌, ◌<◌, ◌+◌, ◌*◌, map, slice_get, slice_index}
use Rattle.std.specs.List.{range_with_len}
use Rattle.wf_outside.specs.declared.sizes.TheConstants.{PAGE_WORDS}
use Rattle.wf_frames.specs.FrameWords.{word_of}
use Rattle.wf_frames.specs.Layout.{WordsValue, frame_word_place, word_count}
use Rattle.wf_views.specs.declared.view.NodeAt.{NodeAt}
use Rattle.wf_views.specs.Views.{ViewValue}
use Rattle.wf_homes.specs.Kept.{HasWords}
use Rattle.wf_space.specs.Pieces.{IsOutside}
use Rattle.wf_start.specs.Layout.{first_entry}

-- the entries of a node of a view that has met nothing
abbrev pub node_words : ViewValue → NodeAt → List ℕ
node_words view node =
    map (λ i. first_entry view node.level (node.prefix * PAGE_WORDS + i))
    (range_with_len 0 PAGE_WORDS)

-- a word is in none of so many frames from one on
abbrev pub IsBeside : ℕ → ℕ → ℕ → ℕ → Type 0
IsBeside frames first n at = (j : ℕ) → j < n → IsOutside frames (first + j) at

-- The first of these, so many, lie in the frames from one on, each with the words that it has; and
-- all other words are as they were.
pub record AreLaid {X : Type 0} (content : X → List ℕ) (old new : WordsValue) (first : ℕ)
    (xs : List X) (n : ℕ) : Type 0 where
  pub frames : new.frames ≡ old.frames
  pub laid : (j : ℕ) (x : X) → j < n → slice_get xs j ≡ Some x
      → HasWords new (first + j) (content x)
  pub others : (at : ℕ) → at < word_count old.frames → IsBeside old.frames first n at
      → slice_index new.items at ≡ slice_index old.items at

-- the frame word of a frame that is live in its first incarnation, not written and not taken
abbrev pub first_live : ℕ
first_live = word_of (record { taken = false; writes = 0; inc = 1; live = true })

-- the frame words of so many frames from one on are live in their first incarnation, and all other
-- words are as they were
pub record AreLive (old new : WordsValue) (first n : ℕ) : Type 0 where
  pub frames : new.frames ≡ old.frames
  pub live : (j : ℕ) → j < n → slice_index new.items (frame_word_place (first + j)) ≡ first_live
  pub others : (at : ℕ) → at < word_count old.frames
      → ((j : ℕ) → j < n → at ≢ frame_word_place (first + j))
      → slice_index new.items at ≡ slice_index old.items at
