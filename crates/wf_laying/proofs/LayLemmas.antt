-- Pages that are laid in frames one behind another.
use Rattle.std.proofs.Common.{◌≡◌, ◌<◌, ◌≤◌, ◌+◌, ℕ, List, Some, length, refl, sym, ap, subst, ◌∙◌, inl, inr, arith}
use Rattle.std.specs.Prelude.{slice_get, slice_index}
use Rattle.wf_frames.specs.Layout.{WordsValue, frame_word_place, word_place}
use Rattle.wf_homes.specs.Kept.{HasWords, word_of_frame}
use Rattle.wf_homes.proofs.ListLemmas.{one_or_two}
use Rattle.wf_homes.proofs.PlaceLemmas.{place_low, place_tells, stored_other, stored_same}
use Rattle.wf_space.specs.Pieces.{IsFilled, IsOutside, with_live}
use Rattle.wf_start.specs.Laying.{AreLaid, AreLive, first_live}

-- none is laid
pub none_laid : {X : Type 0} (content : X → List ℕ) (words : WordsValue) (first : ℕ) (xs : List X) → AreLaid content words words first xs 0
none_laid content words first xs = record { frames = refl; laid = λ j x lt e. absurd (omega arith); others = λ at low beside. refl }

-- one more is laid
pub laid_next : {X : Type 0} (content : X → List ℕ) (old now next : WordsValue) (first frame n m : ℕ) (xs : List X) (x : X) (page : List ℕ) → AreLaid content old now first xs n → frame ≡ first + n → m ≡ n + 1 → frame < old.frames
    → slice_get xs n ≡ Some x → page ≡ content x → IsFilled now next frame page → AreLaid content old next first xs m
laid_next {X = X} content old now next first frame n m xs x page are f e lt there same filled = record {
  frames = filled.frames ∙ are.frames;
  laid = laid;
  others = λ at low beside. (let sizes : now.frames ≡ old.frames = are.frames in
      filled.others at (rw sizes low) (rw (sizes, f) (beside n (omega arith))) ∙ are.others at low (λ j lj. beside j (omega arith)));
}
  where
    -- a word of another frame is outside
    outside : (j i : ℕ) → j < n → i < 512 → IsOutside now.frames frame (word_place now.frames (first + j) i)
    outside j i lj li k lk same_place = absurd (let two : first + j ≡ frame = (place_tells now.frames (first + j) frame i k li lk same_place).0 in omega arith)

    laid : (j : ℕ) (y : X) → j < m → slice_get xs j ≡ Some y → HasWords next (first + j) (content y)
    laid j y lj g i li = elim (one_or_two j n) [
      | inl here ↦ (
          let k : Some x ≡ Some y = sym there ∙ ap (slice_get xs) (sym here) ∙ g in
          let one : x ≡ y = cc in
          let at : first + j ≡ frame = omega arith in
          ap (λ (g : ℕ). word_of_frame next g i) at ∙ filled.filled i li ∙ ap (λ (ws : List ℕ). slice_index ws i) (same ∙ ap content one)
          )
      | inr apart ↦ (
          let before : j < n = omega arith in
          let sizes : next.frames ≡ now.frames = filled.frames in
          let o : now.frames ≡ old.frames = are.frames in
          ap (λ (c : ℕ). slice_index next.items (word_place c (first + j) i)) sizes
          ∙ filled.others (word_place now.frames (first + j) i) (place_low now.frames (first + j) i (omega arith) li) (outside j i before li)
          ∙ are.laid j y before g i li
          )
    ]

-- the first so many of these are laid
pub record AreSoFar {X : Type 0} (content : X → List ℕ) (old new : WordsValue) (first : ℕ) (xs : List X) (n : ℕ) : Type 0 where
  pub frames : new.frames ≡ old.frames
  pub are : AreLaid content old new first xs n
  pub within : n ≤ length xs

pub none_so_far : {X : Type 0} (content : X → List ℕ) (words : WordsValue) (first : ℕ) (xs : List X) → AreSoFar content words words first xs 0
none_so_far content words first xs = record { frames = refl; are = none_laid content words first xs; within = omega arith }

pub next_so_far : {X : Type 0} (content : X → List ℕ) (old now next : WordsValue) (first frame n m : ℕ) (xs : List X) (x : X) (page : List ℕ) → AreSoFar content old now first xs n → frame ≡ first + n → m ≡ n + 1 → n < length xs → first + length xs ≤ old.frames
    → slice_get xs n ≡ Some x → page ≡ content x → IsFilled now next frame page → AreSoFar content old next first xs m
next_so_far content old now next first frame n m xs x page are f e lt few there same filled =
    let low : frame < old.frames = omega arith in
    record {
      frames = filled.frames ∙ are.frames;
      are = laid_next content old now next first frame n m xs x page are.are f e low there same filled;
      within = omega arith;
    }

-- all of them are
pub all_laid : {X : Type 0} (content : X → List ℕ) (old new : WordsValue) (first : ℕ) (xs : List X) (n : ℕ) → AreSoFar content old new first xs n → length xs ≤ n → AreLaid content old new first xs (length xs)
all_laid content old new first xs n are ge =
    let e : n ≡ length xs = (let le : n ≤ length xs = are.within in omega arith) in
    subst (λ (k : ℕ). AreLaid content old new first xs k) e are.are

-- none is live, and one more is
pub none_live : (words : WordsValue) (first : ℕ) → AreLive words words first 0
none_live words first = record { frames = refl; live = λ j lt. absurd (omega arith); others = λ at low apart. refl }

pub live_next : (old now next : WordsValue) (first frame n m : ℕ) → AreLive old now first n → frame ≡ first + n → m ≡ n + 1 → frame_word_place frame < length now.items → next ≡ with_live now frame 1 → AreLive old next first m
live_next old now next first frame n m are f e there is = rw (is, f, e) (record {
  frames = are.frames;
  live = λ j lt. (elim (one_or_two j n) [
    | inl here ↦ (rw here (stored_same now.items (frame_word_place (first + n)) first_live (rw (← f) there)))
    | inr apart ↦ (stored_other now.items (frame_word_place (first + n)) (frame_word_place (first + j)) first_live (λ same. apart (omega arith)) ∙ are.live j (omega arith))
  ]);
  others = λ at low apart. (stored_other now.items (frame_word_place (first + n)) at first_live (apart n (omega arith)) ∙ are.others at low (λ j lj. apart j (omega arith)));
})
