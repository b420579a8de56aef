-- Frames that are made from the words of a page.
use Rattle.std.proofs.Common.{◌≡◌, ◌≢◌, ◌<◌, ◌+◌, ◌/◌, ◌%◌, ◌==◌, ℕ, List, [], ◌∷◌, length, take, drop, get_or, refl, sym, ap, subst, ◌∙◌, inl, inr, arith, length-set, get_or-set_same, get_or-set_other}
use Rattle.std.specs.Prelude.{slice_index}
use Rattle.std.specs.Int.{from_le_bytes, w32}
use Rattle.std.proofs.lemmas.List.Sums.{fold_more}
use Rattle.wf_outside.specs.declared.image.Jump.{Jump}
use Rattle.wf_frames.specs.Layout.{WordsValue, word_place}
use Rattle.wf_flat.specs.Memory.{words_with, word_with}
use Rattle.wf_homes.specs.Kept.{HasWords, with_word, word_of_frame}
use Rattle.wf_homes.proofs.ListLemmas.{one_or_two, true_or_false}
use Rattle.wf_homes.proofs.PlaceLemmas.{place_tells, stored_other, stored_same}
use Rattle.wf_space.specs.Pieces.{IsFilled, Rewrites, half_put, jump_put, jumps_put}
use Rattle.wf_space.proofs.FillLemmas.{IsFilledTo}

-- the words of another frame are not touched
pub source_same : (old now : WordsValue) (source frame n i : ℕ) (page : List ℕ) → source ≢ frame → IsFilledTo old now frame page n → source < old.frames → i < 512 → word_of_frame now source i ≡ word_of_frame old source i
source_same old now source frame n i page apart to low lt =
    let f : now.frames ≡ old.frames = to.frames in
    rw f (to.others (word_place old.frames source i) (omega arith) (λ j lj e. apart (place_tells old.frames source frame i j lt lj e).0))

-- a page that stays
pub filled_same : (words : WordsValue) (frame : ℕ) (page : List ℕ) → HasWords words frame page → IsFilled words words frame page
filled_same words frame page has = record { frames = refl; filled = has; others = λ at low outside. refl }

-- one after another
pub filled_both : (a b c : WordsValue) (frame : ℕ) (p q : List ℕ) → IsFilled a b frame p → IsFilled b c frame q → IsFilled a c frame q
filled_both a b c frame p q first second =
    let f : b.frames ≡ a.frames = first.frames in
    record {
      frames = second.frames ∙ first.frames;
      filled = second.filled;
      others = λ at low outside. second.others at (rw f low) (rw f outside) ∙ first.others at low outside;
    }

pub rewrites_both : (a b c : WordsValue) (source frame : ℕ) (f g : List ℕ → List ℕ) → ((p : List ℕ) → length (f p) ≡ length p) → Rewrites a b source frame f → Rewrites b c frame frame g → Rewrites a c source frame (λ p. g (f p))
rewrites_both a b c source frame f g keeps first second p len has =
    let made : IsFilled a b frame (f p) = first p len has in
    filled_both a b c frame (f p) (g (f p)) made (second (f p) (keeps p ∙ len) made.filled)

-- four bytes
pub half_stored : (old new : WordsValue) (frame at value word place : ℕ) → at < 4096 → place ≡ word_place old.frames frame (at / 8) → place < length old.items
    → word ≡ word_with (slice_index old.items place) (at % 8) 4 value → new ≡ with_word old place word → Rewrites old new frame frame (λ page. words_with page at 4 value)
half_stored old new frame at value word place within is there made e page len has = rw e (record {
  frames = refl;
  filled = λ i lt. (elim (one_or_two i (at / 8)) [
    | inl here ↦ (
        let w : slice_index old.items place ≡ slice_index page (at / 8) = rw is (has (at / 8) (omega arith)) in
        rw (here, ← is) (
        stored_same old.items place word there
        ∙ made
        ∙ ap (λ (n : ℕ). word_with n (at % 8) 4 value) w
        ∙ sym (get_or-set_same page (at / 8) (word_with (slice_index page (at / 8)) (at % 8) 4 value) 0 (omega arith))
        )
        )
    | inr apart ↦ (
        stored_other old.items place (word_place old.frames frame i) word (λ same. apart (place_tells old.frames frame frame i (at / 8) lt (omega arith) (same ∙ is)).1)
        ∙ has i lt
        ∙ sym (get_or-set_other page (at / 8) i (word_with (slice_index page (at / 8)) (at % 8) 4 value) 0 apart)
        )
  ]);
  others = λ k low outside. stored_other old.items place k word (λ same. outside (at / 8) (omega arith) (same ∙ is));
})

half_length : (page at value : ℕ) (words : List ℕ) → length (half_put page at value words) ≡ length words
half_length page at value words = elim (true_or_false (at / 4096 == page)) [
  | inl t ↦ (rw t (length-set words (at % 4096 / 8) (word_with (slice_index words (at % 4096 / 8)) (at % 4096 % 8) 4 value)))
  | inr t ↦ (rw t refl)
]

pub first_length : (page at value : ℕ) (words : List ℕ) → length (half_put page at value words) ≡ length words
first_length page at value words = half_length page at value words

jump_length : (page : ℕ) (words : List ℕ) (jump : Jump) → length (jump_put page words jump) ≡ length words
jump_length page words jump =
    half_length page (jump.at + 4) (from_le_bytes w32 (drop 4 jump.bytes)) (half_put page jump.at (from_le_bytes w32 (take 4 jump.bytes)) words)
    ∙ half_length page jump.at (from_le_bytes w32 (take 4 jump.bytes)) words

pub jumps_length : (page : ℕ) (jumps : List Jump) (words : List ℕ) → length (jumps_put page jumps words) ≡ length words
jumps_length page [] words = refl
jumps_length page (jump ∷ jumps) words = jumps_length page jumps (jump_put page words jump) ∙ jump_length page words jump

-- one jump more
pub jump_more : (old now next : WordsValue) (frame page i : ℕ) (jumps : List Jump) (d : Jump) → i < length jumps
    → Rewrites old now frame frame (jumps_put page (take i jumps)) → Rewrites now next frame frame (λ words. jump_put page words (get_or jumps i d))
    → Rewrites old next frame frame (jumps_put page (take (i + 1) jumps))
jump_more old now next frame page i jumps d lt first second words len has =
    subst (IsFilled old next frame) (sym (fold_more (jump_put page) words jumps i d lt))
    (rewrites_both old now next frame frame (jumps_put page (take i jumps)) (λ ws. jump_put page ws (get_or jumps i d)) (jumps_length page (take i jumps)) first second words len has)
