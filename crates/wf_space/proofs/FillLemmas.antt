-- The words of a frame that are stored one after another.
use Rattle.std.proofs.Common.{◌≡◌, ◌<◌, ◌+◌, ℕ, List, length, ◌∙◌, inl, inr, arith}
use Rattle.std.specs.Prelude.{slice_index}
use Rattle.wf_frames.specs.Layout.{WordsValue, word_count, word_place}
use Rattle.wf_homes.specs.Kept.{with_word, word_of_frame}
use Rattle.wf_homes.proofs.ListLemmas.{one_or_two}
use Rattle.wf_homes.proofs.PlaceLemmas.{place_tells, stored_other, stored_same}
use Rattle.wf_space.specs.Pieces.{IsOutside}

-- the first words of a frame are those of a page, and all others are as they were
pub record IsFilledTo (old now : WordsValue) (frame : ℕ) (page : List ℕ) (n : ℕ) : Type 0 where
  pub frames : now.frames ≡ old.frames
  pub filled : (i : ℕ) → i < n → word_of_frame now frame i ≡ slice_index page i
  pub others : (at : ℕ) → at < word_count old.frames → IsOutside old.frames frame at → slice_index now.items at ≡ slice_index old.items at

pub fill_more : (old now next : WordsValue) (frame : ℕ) (page : List ℕ) (n m word : ℕ) → m ≡ n + 1 → IsFilledTo old now frame page n → n < 512 → word ≡ slice_index page n
    → word_place now.frames frame n < length now.items → next ≡ with_word now (word_place now.frames frame n) word → IsFilledTo old next frame page m
fill_more old now next frame page n m word same to lt is there e = rw (same, e) (record {
  frames = to.frames;
  filled = λ i low. (elim (one_or_two i n) [
    | inl here ↦ (rw here (stored_same now.items (word_place now.frames frame n) word there ∙ is))
    | inr apart ↦ (
        stored_other now.items (word_place now.frames frame n) (word_place now.frames frame i) word (λ at. apart (place_tells now.frames frame frame i n (omega arith) lt at).1)
        ∙ to.filled i (omega arith)
        )
  ]);
  others = λ at low outside.
      (stored_other now.items (word_place now.frames frame n) at word (λ one. (let f : now.frames ≡ old.frames = to.frames in outside n lt (rw (← f) one)))
      ∙ to.others at low outside);
})
