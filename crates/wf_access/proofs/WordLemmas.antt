-- The words after a store: its bytes, its frame word, and all others.
use Rattle.std.proofs.Common.{◌≡◌, ◌≢◌, ◌<◌, ◌≤◌, ◌/◌, ◌%◌, ◌^◌, ◌==◌, ℕ, List, Bool, true, false, length, refl, sym, ap, ◌∙◌, inl, inr, arith, length-set}
use Rattle.std.specs.Prelude.{nat_lt, slice_index}
use Rattle.std.proofs.lemmas.Bool.Decides.{nat_tests}
use Rattle.wf_frames.specs.declared.fields.FrameWord.{FrameWord}
use Rattle.wf_frames.specs.FrameWords.{bit, fields_of, word_of}
use Rattle.wf_frames.specs.Layout.{WordsValue, frame_word_place, word_count, word_place}
use Rattle.wf_flat.specs.Memory.{word_with, words_with}
use Rattle.wf_homes.specs.Kept.{HasWords, fields_at, word_of_frame}
use Rattle.wf_homes.proofs.ListLemmas.{one_or_two, true_or_false}
use Rattle.wf_homes.proofs.PlaceLemmas.{place_low, place_past, place_tells, stored_other, stored_same}
use Rattle.wf_access.specs.declared.bytes.FrameBytes.{FrameBytes}
use Rattle.wf_access.specs.Stores.{one_more_write, with_number_at, with_store}

-- the fields of a frame word are those that it was made of
bit_low : (b : Bool) → bit b ≤ 1
bit_low true = omega arith
bit_low false = omega arith

bit_back : (b : Bool) → (bit b == 1) ≡ b
bit_back true = refl
bit_back false = refl

pub fields_back : (f : FrameWord) → f.writes < 2 ^ 39 → f.inc < 2 ^ 23 → fields_of (word_of f) ≡ f
fields_back f w i =
    let t : word_of f % 2 ≡ bit f.taken = omega (arith, bit_low f.taken, bit_low f.live) in
    let c : word_of f / 2 ^ 1 % 2 ^ 39 ≡ f.writes = omega (arith, bit_low f.taken, bit_low f.live) in
    let n : word_of f / 2 ^ 40 % 2 ^ 23 ≡ f.inc = omega (arith, bit_low f.taken, bit_low f.live) in
    let l : word_of f / 2 ^ 63 ≡ bit f.live = omega (arith, bit_low f.taken, bit_low f.live) in
    rw (t, c, n, l, bit_back f.taken, bit_back f.live) refl

pub fields_fit : (w : ℕ) → ((fields_of w).writes < 2 ^ 39) × ((fields_of w).inc < 2 ^ 23)
fields_fit w = (omega arith, omega arith)

pub more_fits : (last writes : ℕ) → last ≤ 0x7F_FFFF_FFFF → writes < 2 ^ 39 → one_more_write last writes < 2 ^ 39
more_fits last writes le lt = elim (true_or_false (nat_lt writes last)) [
  | inl t ↦ (let k : writes < last = grind (arith, nat_tests) in rw t (omega arith))
  | inr t ↦ (rw t lt)
]

module _ (words : WordsValue) (frame at width value last : ℕ) (whole : length words.items ≡ word_count words.frames) (low : frame < words.frames) (within : at < 4096) (counts : last ≤ 0x7F_FFFF_FFFF) where
  abbrev bytes : FrameBytes
  bytes = record { frame = frame; at = at; width = width }

  abbrev half : WordsValue
  half = with_number_at words bytes value

  abbrev stored : WordsValue
  stored = with_store words bytes value last

  abbrev place : ℕ
  place = word_place words.frames frame (at / 8)

  abbrev number : ℕ
  number = word_with (word_of_frame words frame (at / 8)) (at % 8) width value

  frame_low : frame_word_place frame < length words.items
  frame_low = omega arith

  half_length : length half.items ≡ length words.items
  half_length = length-set words.items place number

  pub length_same : length stored.items ≡ length words.items
  length_same = length-set half.items (frame_word_place frame) _ ∙ half_length

  half_frame : (f : ℕ) → f < words.frames → slice_index half.items (frame_word_place f) ≡ slice_index words.items (frame_word_place f)
  half_frame f lt = stored_other words.items place (frame_word_place f) number (place_past words.frames f frame (at / 8) lt)

  -- the frame word
  pub counted : fields_at stored frame ≡ record (fields_at words frame) { writes = one_more_write last (fields_at words frame).writes }
  counted =
      let a : fields_at half frame ≡ fields_at words frame = ap fields_of (half_frame frame low) in
      let made : FrameWord = record (fields_at half frame) { writes = one_more_write last (fields_at half frame).writes } in
      let lt : frame_word_place frame < length half.items = rw half_length frame_low in
      let fit = fields_fit (slice_index half.items (frame_word_place frame)) in
      ap fields_of (stored_same half.items (frame_word_place frame) (word_of made) lt)
      ∙ fields_back made (more_fits last (fields_at half frame).writes counts fit.0) fit.1
      ∙ ap (λ (x : FrameWord). record x { writes = one_more_write last x.writes }) a

  -- the frame words of others
  pub other_frame : (f : ℕ) → f < words.frames → f ≢ frame → slice_index stored.items (frame_word_place f) ≡ slice_index words.items (frame_word_place f)
  other_frame f lt apart = stored_other half.items (frame_word_place frame) (frame_word_place f) _ (λ e. apart (omega arith)) ∙ half_frame f lt

  pub zero_same : slice_index stored.items 0 ≡ slice_index words.items 0
  zero_same = stored_other half.items (frame_word_place frame) 0 _ (λ e. absurd (omega arith)) ∙ stored_other words.items place 0 number (λ e. absurd (omega arith))

  -- the words of frames
  half_words : (f i : ℕ) → f < words.frames → i < 512 → word_of_frame stored f i ≡ word_of_frame half f i
  half_words f i lf lt = stored_other half.items (frame_word_place frame) (word_place words.frames f i) _ (λ e. absurd (omega arith))

  pub other_words : (f i : ℕ) → f < words.frames → f ≢ frame → i < 512 → word_of_frame stored f i ≡ word_of_frame words f i
  other_words f i lf apart lt = half_words f i lf lt ∙ stored_other words.items place (word_place words.frames f i) number (λ e. apart (place_tells words.frames f frame i (at / 8) lt (omega arith) e).0)

  pub same_page : (page : List ℕ) → length page ≡ 512 → HasWords words frame page → HasWords stored frame (words_with page at width value)
  same_page page size has i lt = half_words frame i low lt ∙ elim (one_or_two i (at / 8)) [
    | inl same ↦ (
        let there : place < length words.items = (let p : word_place words.frames frame (at / 8) < word_count words.frames = place_low words.frames frame (at / 8) low (omega arith) in rw whole p) in
        let in_page : at / 8 < length page = omega arith in
        rw same (
        stored_same words.items place number there
        ∙ ap (λ (w : ℕ). word_with w (at % 8) width value) (has (at / 8) (omega arith))
        ∙ sym (stored_same page (at / 8) (word_with (slice_index page (at / 8)) (at % 8) width value) in_page)
        )
        )
    | inr apart ↦ (
        stored_other words.items place (word_place words.frames frame i) number (λ e. apart (place_tells words.frames frame frame i (at / 8) lt (omega arith) e).1)
        ∙ has i lt
        ∙ sym (stored_other page (at / 8) i (word_with (slice_index page (at / 8)) (at % 8) width value) apart)
        )
  ]
