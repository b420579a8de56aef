-- Where the words of a machine stand: word 0, then one word for each frame, then the words of each
-- frame.
use Rattle.std.specs.Prelude.{◌≡◌, ◌+◌, ◌*◌, ◌≤◌, ℕ, List, length, replicate}
use Rattle.wf_outside.specs.declared.sizes.TheConstants.{PAGE_WORDS, MOST_FRAMES}

-- how many words a machine of so many frames has
abbrev pub word_count : ℕ → ℕ
word_count frames = 1 + frames + PAGE_WORDS * frames

-- the number of the frame word of a frame
abbrev pub frame_word_place : ℕ → ℕ
frame_word_place frame = 1 + frame

-- the number of word i of a frame, in a machine of so many frames
abbrev pub word_place : ℕ → ℕ → ℕ → ℕ
word_place frames frame i = 1 + frames + PAGE_WORDS * frame + i

-- the words of a machine as clauses see them: how many frames they are for, and all words in order
pub record WordsValue : Type 0 where
  pub frames : ℕ
  pub items : List ℕ

-- the words of a new machine of so many frames, all 0
unfoldable pub new_words : ℕ → List ℕ
new_words frames = replicate (word_count frames) 0

-- what the words of a machine keep: all are there, and there are not too many
pub record AreWords (frames : ℕ) (items : List ℕ) : Type 0 where
  pub whole : length items ≡ word_count frames
  pub few : frames ≤ MOST_FRAMES
