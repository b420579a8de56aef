-- What a store makes of words: of the word that has its bytes, and of the frame word.
use Rattle.std.specs.Prelude.{ℕ, ◌<◌, ◌+◌, ◌/◌, ◌%◌, if◌then◌else◌, nat_lt}
use Rattle.wf_outside.specs.declared.sizes.TheConstants.{PAGE_SIZE}
use Rattle.wf_frames.specs.declared.fields.FrameWord.{FrameWord}
use Rattle.wf_frames.specs.FrameWords.{word_of}
use Rattle.wf_frames.specs.Layout.{WordsValue, frame_word_place, word_place}
use Rattle.wf_flat.specs.Memory.{word_with}
use Rattle.wf_flat.specs.Serving.{IsPlace}
use Rattle.wf_homes.specs.Kept.{fields_at, with_word, word_of_frame}
use Rattle.wf_access.specs.declared.bytes.FrameBytes.{FrameBytes}

-- bytes lie in a frame that there is: they are at a place of its page
pub record AreInFrame (words : WordsValue) (bytes : FrameBytes) : Type 0 where
  pub low : bytes.frame < words.frames
  pub within : bytes.at < PAGE_SIZE
  pub place : IsPlace bytes.at bytes.width

-- the words in which bytes of a frame are those of a number
abbrev pub with_number_at : WordsValue → FrameBytes → ℕ → WordsValue
with_number_at words bytes value =
    with_word words (word_place words.frames bytes.frame (bytes.at / 8))
    (word_with (word_of_frame words bytes.frame (bytes.at / 8)) (bytes.at % 8) bytes.width value)

-- a count of writes after one more, which stays at the last
abbrev pub one_more_write : ℕ → ℕ → ℕ
one_more_write last writes = if nat_lt writes last then writes + 1 else writes

-- the fields of a frame that was written once more: its count of writes alone changes
abbrev pub written_once_more : ℕ → FrameWord → FrameWord
written_once_more last fields = record fields { writes = one_more_write last fields.writes }

-- the words in which a frame was written once more
abbrev pub with_one_more_write : WordsValue → ℕ → ℕ → WordsValue
with_one_more_write words frame last =
    with_word words (frame_word_place frame)
    (word_of (written_once_more last (fields_at words frame)))

-- the words after a store: its bytes are those of a number, and its frame was written once more
abbrev pub with_store : WordsValue → FrameBytes → ℕ → ℕ → WordsValue
with_store words bytes value last =
    with_one_more_write (with_number_at words bytes value) bytes.frame last
