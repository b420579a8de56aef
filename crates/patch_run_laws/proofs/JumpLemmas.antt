-- Jumps that are put into a text have their words there, and leave those of others.
use Rattle.std.proofs.Common.{◌≡◌, ◌≢◌, ◌<◌, ◌≤◌, ◌+◌, ◌%◌, ◌^◌, ◌&&◌, ℕ, List, [], ◌∷◌, take, drop, Some, Bool, true, false, refl, ap, ◌∙◌, arith}
use Rattle.std.specs.Prelude.{nat_lt}
use Rattle.std.specs.Int.{from_le_bytes, w32}
use Rattle.std.specs.List.{AllByRecursion, fold}
use Rattle.std.proofs.lemmas.Bool.Decides.{nat_tests}
use Rattle.std.proofs.lemmas.Nat.{from_le_bytes-to_le_bytes_4}
use Rattle.rv_inst.proofs.SpellingLemmas.{word_is_row}
use Rattle.rv_encode.specs.Jumps.{distance, first_inst, jump_words, second_inst}
use Rattle.rv_encode.proofs.JumpLemmas.{first_spelled, second_spelled}
use Rattle.wf_outside.specs.declared.image.Jump.{Jump}
use Rattle.wf_outside.specs.Pages.{PageValue, page_of}
use Rattle.wf_flat.specs.Memory.{word_at}
use Rattle.wf_effects.specs.Texts.{text_with, with_jump}
use Rattle.patch_build.specs.Fits.{AreApart}
use Rattle.patch_build.specs.Jumps.{overlap}
use Rattle.patch_move_laws.specs.Moves.{HasItsWords}
use Rattle.patch_run_laws.specs.Built.{IsBuiltJump}
use Rattle.patch_run_laws.proofs.TextLemmas.{IsThere, IsWhole, there_with, whole_with, word_kept, word_put}

-- what the bytes of a jump are, four and four
abbrev first_word : Jump → ℕ
first_word jump = from_le_bytes w32 (take 4 jump.bytes)

abbrev second_word : Jump → ℕ
second_word jump = from_le_bytes w32 (drop 4 jump.bytes)

first_low : (jump : Jump) (is : IsBuiltJump jump) → (jump_words (distance jump.at is.to)).0 < 2 ^ 32
first_low jump is = (word_is_row (first_inst (distance jump.at is.to)) (first_spelled (distance jump.at is.to) is.reach.1)).0

second_low : (jump : Jump) (is : IsBuiltJump jump) → (jump_words (distance jump.at is.to)).1 < 2 ^ 32
second_low jump is = (word_is_row (second_inst (distance jump.at is.to)) (second_spelled (distance jump.at is.to))).0

first_is : (jump : Jump) (is : IsBuiltJump jump) → first_word jump ≡ (jump_words (distance jump.at is.to)).0
first_is jump is = ap (λ (bytes : List ℕ). from_le_bytes w32 (take 4 bytes)) is.bytes ∙ from_le_bytes-to_le_bytes_4 (jump_words (distance jump.at is.to)).0 (first_low jump is)

second_is : (jump : Jump) (is : IsBuiltJump jump) → second_word jump ≡ (jump_words (distance jump.at is.to)).1
second_is jump is = ap (λ (bytes : List ℕ). from_le_bytes w32 (drop 4 bytes)) is.bytes ∙ from_le_bytes-to_le_bytes_4 (jump_words (distance jump.at is.to)).1 (second_low jump is)

-- the pages of a jump's two words are in a text
pub record HasPlace (text : List PageValue) (jump : Jump) : Type 0 where
  pub first : IsThere text (page_of jump.at)
  pub second : IsThere text (page_of (jump.at + 4))

place_kept : (text : List PageValue) (jump other : Jump) → HasPlace text other → HasPlace (with_jump text jump) other
place_kept text jump other has =
    let half : List PageValue = text_with text jump.at (first_word jump) in
    record {
      first = there_with half (jump.at + 4) (second_word jump) (page_of other.at) (there_with text jump.at (first_word jump) (page_of other.at) has.first);
      second = there_with half (jump.at + 4) (second_word jump) (page_of (other.at + 4)) (there_with text jump.at (first_word jump) (page_of (other.at + 4)) has.second);
    }

-- its own words
words_put : (text : List PageValue) (jump : Jump) → IsBuiltJump jump → HasPlace text jump → HasItsWords (with_jump text jump) jump
words_put text jump is has =
    let half : List PageValue = text_with text jump.at (first_word jump) in
    let even : jump.at % 4 ≡ 0 = is.even in
    let later : (jump.at + 4) % 4 ≡ 0 = omega arith in
    let low : first_word jump < 2 ^ 32 = (let e = first_is jump is in let l = first_low jump is in omega (arith, e, l)) in
    let other : second_word jump < 2 ^ 32 = (let e = second_is jump is in let l = second_low jump is in omega (arith, e, l)) in
    let second : IsThere half (page_of (jump.at + 4)) = there_with text jump.at (first_word jump) (page_of (jump.at + 4)) has.second in
    record {
      even = even;
      to = is.to;
      reach = is.reach;
      first = word_kept half (jump.at + 4) (second_word jump) jump.at second later even (λ e. omega arith)
          ∙ word_put text jump.at (first_word jump) has.first even low ∙ ap Some (first_is jump is);
      second = word_put half (jump.at + 4) (second_word jump) second later other ∙ ap Some (second_is jump is);
    }

-- those of another that does not meet it
far_apart : (a b : ℕ) → overlap a b ≡ false → (a ≢ b) × (a ≢ b + 4) × (a + 4 ≢ b) × (a + 4 ≢ b + 4)
far_apart a b e = by_tests (nat_lt a (b + 8)) (nat_lt b (a + 8)) refl refl e
  where
    by_tests : (x y : Bool) → nat_lt a (b + 8) ≡ x → nat_lt b (a + 8) ≡ y → (x && y) ≡ false → (a ≢ b) × (a ≢ b + 4) × (a + 4 ≢ b) × (a + 4 ≢ b + 4)
    by_tests true true p q e = absurd (cc)
    by_tests true false p q e = (let far : a + 8 ≤ b = grind (arith, nat_tests) in ((λ e. omega arith), (λ e. omega arith), (λ e. omega arith), (λ e. omega arith)))
    by_tests false y p q e = (let far : b + 8 ≤ a = grind (arith, nat_tests) in ((λ e. omega arith), (λ e. omega arith), (λ e. omega arith), (λ e. omega arith)))

word_stays : (text : List PageValue) (jump : Jump) (k : ℕ) → IsBuiltJump jump → HasPlace text jump → k % 4 ≡ 0 → jump.at ≢ k → jump.at + 4 ≢ k → word_at (with_jump text jump) k ≡ word_at text k
word_stays text jump k is has even one two =
    let half : List PageValue = text_with text jump.at (first_word jump) in
    let first : jump.at % 4 ≡ 0 = is.even in
    let second : IsThere half (page_of (jump.at + 4)) = there_with text jump.at (first_word jump) (page_of (jump.at + 4)) has.second in
    word_kept half (jump.at + 4) (second_word jump) k second (omega arith) even two
    ∙ word_kept text jump.at (first_word jump) k has.first first even one

words_stay : (text : List PageValue) (jump other : Jump) → IsBuiltJump jump → HasPlace text jump → overlap jump.at other.at ≡ false → HasItsWords text other → HasItsWords (with_jump text jump) other
words_stay text jump other is has apart words =
    let far = far_apart jump.at other.at apart in
    let even : other.at % 4 ≡ 0 = words.even in
    record {
      even = even;
      to = words.to;
      reach = words.reach;
      first = word_stays text jump other.at is has even far.0 far.2 ∙ words.first;
      second = word_stays text jump (other.at + 4) is has (omega arith) far.1 far.3 ∙ words.second;
    }

-- and so of all jumps of a patch
pub whole_jumps : (text : List PageValue) (jumps : List Jump) → AllByRecursion IsWhole text → AllByRecursion IsWhole (fold with_jump text jumps)
whole_jumps text [] all = all
whole_jumps text (jump ∷ jumps) all =
    whole_jumps (with_jump text jump) jumps (whole_with (text_with text jump.at (first_word jump)) (jump.at + 4) (second_word jump) (whole_with text jump.at (first_word jump) all))

pub there_jumps : (text : List PageValue) (jumps : List Jump) (n : ℕ) → IsThere text n → IsThere (fold with_jump text jumps) n
there_jumps text [] n there = there
there_jumps text (jump ∷ jumps) n there =
    there_jumps (with_jump text jump) jumps n (there_with (text_with text jump.at (first_word jump)) (jump.at + 4) (second_word jump) n (there_with text jump.at (first_word jump) n there))

places_kept : (text : List PageValue) (jump : Jump) (jumps : List Jump) → AllByRecursion (HasPlace text) jumps → AllByRecursion (HasPlace (with_jump text jump)) jumps
places_kept text jump [] all = tt
places_kept text jump (other ∷ jumps) all = (place_kept text jump other all.0, places_kept text jump jumps all.1)

pub other_words : (text : List PageValue) (jumps : List Jump) (other : Jump) → AllByRecursion IsBuiltJump jumps → AllByRecursion (HasPlace text) jumps → AllByRecursion (λ jump. overlap jump.at other.at ≡ false) jumps
    → HasItsWords text other → HasItsWords (fold with_jump text jumps) other
other_words text [] other built has apart words = words
other_words text (jump ∷ jumps) other built has apart words =
    other_words (with_jump text jump) jumps other built.1 (places_kept text jump jumps has.1) apart.1 (words_stay text jump other built.0 has.0 apart.0 words)

pub overlap_flips : (a b : ℕ) → overlap a b ≡ false → overlap b a ≡ false
overlap_flips a b e = by_tests (nat_lt a (b + 8)) (nat_lt b (a + 8)) e
  where
    by_tests : (x y : Bool) → (x && y) ≡ false → (y && x) ≡ false
    by_tests true true e = absurd (cc)
    by_tests true false e = refl
    by_tests false true e = refl
    by_tests false false e = refl

all_flip : (jump : Jump) (jumps : List Jump) → AllByRecursion (λ other. overlap jump.at other.at ≡ false) jumps → AllByRecursion (λ other. overlap other.at jump.at ≡ false) jumps
all_flip jump [] all = tt
all_flip jump (other ∷ jumps) all = (overlap_flips jump.at other.at all.0, all_flip jump jumps all.1)

pub own_words : (text : List PageValue) (jumps : List Jump) → AllByRecursion IsBuiltJump jumps → AllByRecursion (HasPlace text) jumps → AreApart jumps → AllByRecursion (HasItsWords (fold with_jump text jumps)) jumps
own_words text [] built has apart = tt
own_words text (jump ∷ jumps) built has apart =
    let kept = places_kept text jump jumps has.1 in (
      other_words (with_jump text jump) jumps jump built.1 kept (all_flip jump jumps apart.0) (words_put text jump built.0 has.0),
      own_words (with_jump text jump) jumps built.1 kept apart.1,
    )
