-- What the pieces of a plan make of words and records.
use Rattle.std.specs.Prelude.{ℕ, List, [], ◌∷◌, true, false, ◌≡◌, ◌≢◌, ◌<◌, ◌+◌, ◌/◌, ◌%◌, ◌==◌, ◌^◌, if◌then◌else◌, drop, length, slice_get, slice_index, take, IsSomeAnd}
use Rattle.std.specs.Int.{from_le_bytes, w32}
use Rattle.std.specs.List.{AllByRecursion, fold}
use Rattle.wf_outside.specs.declared.image.Jump.{Jump}
use Rattle.wf_outside.specs.declared.sizes.TheConstants.{PAGE_SIZE, PAGE_WORDS}
use Rattle.wf_frames.specs.declared.state.FrameState.TheVariants.{Worn}
use Rattle.wf_frames.specs.FrameWords.{word_of}
use Rattle.wf_frames.specs.Frames.{HasState}
use Rattle.wf_frames.specs.Layout.{WordsValue, frame_word_place, word_count, word_place}
use Rattle.wf_views.specs.declared.pages.PageAt.{PageAt}
use Rattle.wf_views.specs.declared.plan.Piece.{Piece}
use Rattle.wf_views.specs.declared.plan.Piece.TheVariants.{Fill, Copy, Live, Pte, Leave}
use Rattle.wf_views.specs.declared.records.Records.{Records}
use Rattle.wf_views.specs.Pages.{page_at}
use Rattle.wf_views.specs.Records.{IsGoing, left}
use Rattle.wf_flat.specs.Memory.{words_with}
use Rattle.wf_effects.specs.Texts.{IsPlaced}
use Rattle.wf_homes.specs.Kept.{HasWords, fields_at, with_word}

-- a word is none of a frame's 512
abbrev pub IsOutside : ℕ → ℕ → ℕ → Type 0
IsOutside frames frame at = (i : ℕ) → i < PAGE_WORDS → at ≢ word_place frames frame i

-- the words of a frame are those of a page now, and all others are as they were
pub record IsFilled (old new : WordsValue) (frame : ℕ) (page : List ℕ) : Type 0 where
  pub frames : new.frames ≡ old.frames
  pub filled : HasWords new frame page
  pub others : (at : ℕ) → at < word_count old.frames → IsOutside old.frames frame at
      → slice_index new.items at ≡ slice_index old.items at

-- the words of a frame are made now from those of the page that lies in the source, and all others
-- are as they were
abbrev pub Rewrites : WordsValue → WordsValue → ℕ → ℕ → (List ℕ → List ℕ) → Type 0
Rewrites old new source frame made =
    (page : List ℕ) → length page ≡ PAGE_WORDS → HasWords old source page
    → IsFilled old new frame (made page)

-- the words of the page of a number, where four bytes at an address, if it is in the page, are
-- those of a number
abbrev pub half_put : ℕ → ℕ → ℕ → List ℕ → List ℕ
half_put page at value words =
    if at / PAGE_SIZE == page then words_with words (at % PAGE_SIZE) 4 value else words

-- the words of the page of a number, with those bytes of a jump that lie in it
abbrev pub jump_put : ℕ → List ℕ → Jump → List ℕ
jump_put page words jump =
    half_put page (jump.at + 4) (from_le_bytes w32 (drop 4 jump.bytes))
    (half_put page jump.at (from_le_bytes w32 (take 4 jump.bytes)) words)

-- the words of the page of a number, with the bytes of jumps put over them, one after another
abbrev pub jumps_put : ℕ → List Jump → List ℕ → List ℕ
jumps_put page jumps words = fold (jump_put page) words jumps

-- the words where the frame word of a frame is live in this incarnation, not written and not taken
abbrev pub with_live : WordsValue → ℕ → ℕ → WordsValue
with_live words frame inc =
    with_word words (frame_word_place frame)
    (word_of (record { taken = false; writes = 0; inc = inc; live = true }))

-- the words where the live bit of a frame's word is cleared
abbrev pub without_live : WordsValue → ℕ → WordsValue
without_live words frame =
    with_word words (frame_word_place frame)
    (word_of (record (fields_at words frame) { live = false }))

-- a page leaves: the live bit of its frame's word is cleared, and its record is Ending where a hart
-- had taken the frame, and else gone
pub record Leaves (old new : WordsValue) (r q : Records) (page : PageAt) : Type 0 where
  pub words : new ≡ without_live old page.frame
  pub records : q ≡ left (fields_at old page.frame).taken r page

-- a frame is live in the incarnation that the records have for it
abbrev pub IsMadeLive : WordsValue → WordsValue → Records → ℕ → Type 0
IsMadeLive old new r frame =
    IsSomeAnd (slice_get r.frames.frames frame) (λ f. new ≡ with_live old frame f.incarnation)

-- what a piece makes of words and records
abbrev pub Performs : WordsValue → Records → Piece → WordsValue → Records → Type 0
Performs old r (Fill frame page) new q = IsFilled old new frame page × (q ≡ r)
Performs old r (Copy source frame page jumps) new q =
    Rewrites old new source frame (jumps_put page jumps) × (q ≡ r)
Performs old r (Live frame) new q = IsMadeLive old new r frame × (q ≡ r)
Performs old r (Pte at value) new q = (new ≡ with_word old at value) × (q ≡ r)
Performs old r (Leave page) new q = IsSomeAnd (page_at r.pages page) (Leaves old new r q)

-- a piece wears a frame out: a page leaves, and the frame that it lay in is worn then
abbrev pub WearsOut : Records → Piece → Records → Type 0
WearsOut r (Leave page) q =
    IsSomeAnd (page_at r.pages page) (λ p. HasState q.frames.frames p.frame Worn)
WearsOut r (Fill frame page) q = ⊥
WearsOut r (Copy source frame page jumps) q = ⊥
WearsOut r (Live frame) q = ⊥
WearsOut r (Pte at value) q = ⊥

-- the incarnation of a frame, if it is there, fits a frame word
abbrev pub HasIncarnation : Records → ℕ → Type 0
HasIncarnation r frame =
    IsSomeAnd (slice_get r.frames.frames frame) (λ f. f.incarnation < 2 ^ 23)

-- a piece can be performed: its frames and words are there, a page is whole, a frame is not copied
-- into itself, an incarnation fits, and a page that leaves is Going
abbrev pub MayPerform : WordsValue → Records → Piece → Type 0
MayPerform words r (Fill frame page) = (frame < words.frames) × (length page ≡ PAGE_WORDS)
MayPerform words r (Copy source frame page jumps) =
    (source < words.frames) × (frame < words.frames) × (source ≢ frame)
    × AllByRecursion IsPlaced jumps
MayPerform words r (Live frame) = (frame < words.frames) × HasIncarnation r frame
MayPerform words r (Pte at value) = at < word_count words.frames
MayPerform words r (Leave page) =
    IsGoing r page × IsSomeAnd (page_at r.pages page) (λ p. p.frame < words.frames)

-- a piece is performed, and P holds of words and records after it
pub record HasPerformed (old : WordsValue) (r : Records) (piece : Piece)
    (P : WordsValue → Records → Type 0) : Type 0 where
  pub words : WordsValue
  pub records : Records
  pub done : Performs old r piece words records
  pub rest : P words records

-- pieces are performed one after another
abbrev pub ArePerformed : WordsValue → Records → List Piece → WordsValue → Records → Type 0
ArePerformed old r [] new q = (new ≡ old) × (q ≡ r)
ArePerformed old r (piece ∷ pieces) new q =
    HasPerformed old r piece (λ words mid. ArePerformed words mid pieces new q)

-- pieces can be performed one after another
abbrev pub MayPerformAll : WordsValue → Records → List Piece → Type 0
MayPerformAll words r [] = Unit {0}
MayPerformAll words r (piece ∷ pieces) =
    MayPerform words r piece
    × ((next : WordsValue) (q : Records) → Performs words r piece next q
    → MayPerformAll next q pieces)
