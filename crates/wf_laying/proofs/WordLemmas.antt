-- Words that are laid out at the start: text, data, nodes, and the frame words of data.
use Rattle.std.proofs.Common.{◌≡◌, ◌≢◌, ◌<◌, ◌≤◌, ◌+◌, ℕ, zero, suc, List, [], ◌∷◌, Some, length, sym, ap, subst, ◌∙◌, arith}
use Rattle.std.specs.Prelude.{slice_get, slice_index}
use Rattle.std.proofs.lemmas.List.{get_or-replicate}
use Rattle.wf_outside.specs.Pages.{PageValue}
use Rattle.wf_frames.specs.Layout.{WordsValue, frame_word_place, new_words, word_count, word_place}
use Rattle.wf_views.specs.Views.{ViewValue}
use Rattle.wf_flat.specs.State.{PageState}
use Rattle.wf_homes.specs.Kept.{HasWords}
use Rattle.wf_homes.proofs.PlaceLemmas.{place_low, place_past, place_tells}
use Rattle.wf_start.specs.Laying.{AreLaid, AreLive, node_words}
use Rattle.wf_laying.specs.Words.{WordsLaidOut}

new_zero : (frames at : ℕ) → at < word_count frames → slice_index (new_words frames) at ≡ 0
unfolding new_words
new_zero frames at lt = get_or-replicate (word_count frames) at 0 0 lt

there_low : {X : Type 0} (xs : List X) (k : ℕ) (x : X) → slice_get xs k ≡ Some x → k < length xs
there_low [] k x e = absurd cc
there_low (y ∷ xs) zero x e = omega arith
there_low (y ∷ xs) (suc k) x e = (let lt : k < length xs = there_low xs k x e in omega arith)

module _ {X : Type 0} (content : X → List ℕ) (old new : WordsValue) (first : ℕ) (xs : List X) (n : ℕ) (are : AreLaid content old new first xs n) where
  -- what lies in another frame stays
  pub frame_stays : (f : ℕ) (page : List ℕ) → f < old.frames → ((j : ℕ) → j < n → f ≢ first + j) → HasWords old f page → HasWords new f page
  frame_stays f page low apart has i li =
      ap (λ (c : ℕ). slice_index new.items (word_place c f i)) are.frames
      ∙ are.others (word_place old.frames f i) (place_low old.frames f i low li) (λ j lj k lk same. apart j lj (place_tells old.frames f (first + j) i k li lk same).0)
      ∙ has i li

  -- and so do frame words and word 0
  pub word_stays : (f : ℕ) → f < old.frames → slice_index new.items (frame_word_place f) ≡ slice_index old.items (frame_word_place f)
  word_stays f low = are.others (frame_word_place f) (omega arith) (λ j lj k lk same. place_past old.frames f (first + j) k low same)

  pub zero_stays : slice_index new.items 0 ≡ slice_index old.items 0
  zero_stays = are.others 0 (omega arith) (λ j lj k lk same. absurd (omega arith))

pub live_keeps : (old new : WordsValue) (first n : ℕ) → AreLive old new first n → first + n ≤ old.frames → (f : ℕ) (page : List ℕ) → f < old.frames → HasWords old f page → HasWords new f page
live_keeps old new first n are le f page low has i li =
    ap (λ (c : ℕ). slice_index new.items (word_place c f i)) are.frames
    ∙ are.others (word_place old.frames f i) (place_low old.frames f i low li) (λ j lj same. place_past old.frames (first + j) f i (omega arith) (sym same))
    ∙ has i li

pub words_out : (w0 w1 w2 w3 w4 : WordsValue) (frames : ℕ) (text : List PageValue) (pages : List PageState) (view : ViewValue) → w0.frames ≡ frames → w0.items ≡ new_words frames
    → length text + length pages + length view.nodes.items ≤ frames
    → AreLaid (λ (p : PageValue). p.words) w0 w1 0 text (length text)
    → AreLaid (λ (p : PageState). p.words) w1 w2 (length text) pages (length pages)
    → AreLaid (node_words view) w2 w3 (length text + length pages) view.nodes.items (length view.nodes.items)
    → AreLive w3 w4 (length text) (length pages) → length w4.items ≡ word_count w4.frames → WordsLaidOut w4 frames text pages view
words_out w0 w1 w2 w3 w4 frames text pages view is0 zeros le one two three live size =
    let t : ℕ = length text in
    let p : ℕ = length pages in
    let is1 : w1.frames ≡ frames = one.frames ∙ is0 in
    let is2 : w2.frames ≡ frames = two.frames ∙ is1 in
    let is3 : w3.frames ≡ frames = three.frames ∙ is2 in
    let is4 : w4.frames ≡ frames = live.frames ∙ is3 in
    record {
      count = is4;
      whole = size ∙ ap word_count is4;
      zero_word = live.others 0 (omega arith) (λ j lj same. absurd (omega arith))
          ∙ zero_stays (node_words view) w2 w3 (t + p) view.nodes.items (length view.nodes.items) three
          ∙ zero_stays (λ (q : PageState). q.words) w1 w2 t pages p two
          ∙ zero_stays (λ (q : PageValue). q.words) w0 w1 0 text t one
          ∙ ap (λ (ws : List ℕ). slice_index ws 0) zeros
          ∙ new_zero frames 0 (omega arith);
      live = live.live;
      dead = λ f lt apart. (
          live.others (frame_word_place f) (omega arith) (λ j lj same. apart j lj (omega arith))
          ∙ word_stays (node_words view) w2 w3 (t + p) view.nodes.items (length view.nodes.items) three f (omega arith)
          ∙ word_stays (λ (q : PageState). q.words) w1 w2 t pages p two f (omega arith)
          ∙ word_stays (λ (q : PageValue). q.words) w0 w1 0 text t one f (omega arith)
          ∙ ap (λ (ws : List ℕ). slice_index ws (frame_word_place f)) zeros
          ∙ new_zero frames (frame_word_place f) (omega arith)
          );
      with_text = λ j page e. (
          let lt : j < t = there_low text j page e in
          let z : 0 + j ≡ j = omega arith in
          let in1 : HasWords w1 j page.words = subst (λ (f : ℕ). HasWords w1 f page.words) z (one.laid j page lt e) in
          let in2 : HasWords w2 j page.words = frame_stays (λ (q : PageState). q.words) w1 w2 t pages p two j page.words (omega arith) (λ k lk same. absurd (omega arith)) in1 in
          let in3 : HasWords w3 j page.words = frame_stays (node_words view) w2 w3 (t + p) view.nodes.items (length view.nodes.items) three j page.words (omega arith) (λ k lk same. absurd (omega arith)) in2 in
          live_keeps w3 w4 t p live (omega arith) j page.words (omega arith) in3
          );
      with_data = λ j page e. (
          let lt : j < p = there_low pages j page e in
          let in2 : HasWords w2 (t + j) page.words = two.laid j page lt e in
          let in3 : HasWords w3 (t + j) page.words = frame_stays (node_words view) w2 w3 (t + p) view.nodes.items (length view.nodes.items) three (t + j) page.words (omega arith) (λ k lk same. absurd (omega arith)) in2 in
          live_keeps w3 w4 t p live (omega arith) (t + j) page.words (omega arith) in3
          );
      with_nodes = λ j node e. (
          let lt : j < length view.nodes.items = there_low view.nodes.items j node e in
          live_keeps w3 w4 t p live (omega arith) (t + p + j) (node_words view node) (omega arith) (three.laid j node lt e)
          );
    }
