-- Bytes of frames, and words that are fetched.
use Rattle.std.specs.Prelude.{ℕ, Option, ◌≡◌, ◌*◌, ◌/◌, ◌%◌, ◌^◌}
use Rattle.wf_frames.specs.Layout.{WordsValue}
use Rattle.wf_views.specs.declared.records.Records.{Records}
use Rattle.wf_flat.specs.Accesses.{generation_text}
use Rattle.wf_flat.specs.Memory.{word_at}
use Rattle.wf_flat.specs.State.{FlatState}
use Rattle.wf_homes.specs.Homes.{Homes}
use Rattle.wf_homes.specs.Kept.{word_of_frame}
use Rattle.wf_homes.specs.Stands.{StandsFor}
use Rattle.wf_translation.specs.Translations.{IsMapped}

-- the number of so many bytes at a place of a frame, lowest first; the place is a multiple of their
-- count, which is 1, 2, 4 or 8
abbrev pub frame_number : WordsValue → ℕ → ℕ → ℕ → ℕ
frame_number words frame at width =
    word_of_frame words frame (at / 8) / 2 ^ (8 * (at % 8)) % 2 ^ (8 * width)

-- whatever state words and records stand for, these are the four bytes at an address of a
-- generation's text, where its page is there
abbrev pub FetchIsRight : WordsValue → Records → ℕ → ℕ → Option ℕ → Type 0
FetchIsRight words r generation pc word =
    (homes : Homes) (s : FlatState) → StandsFor words r homes s → IsMapped s
    → word ≡ word_at (generation_text s generation) pc
