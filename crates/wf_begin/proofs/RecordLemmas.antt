-- Frames and words that are laid out are those of the start.
use Rattle.std.proofs.Common.{◌≡◌, ◌<◌, ◌≤◌, ◌+◌, ◌-◌, ℕ, true, false, Some, length, refl, ap, subst, ◌∙◌, inl, inr, arith, if◌then◌else◌}
use Rattle.std.specs.Prelude.{nat_le, nat_lt, slice_get, slice_index}
use Rattle.std.proofs.lemmas.Bool.{cases_lt}
use Rattle.std.proofs.lemmas.Bool.Decides.{nat_tests}
use Rattle.wf_frames.specs.Frames.{FramesValue}
use Rattle.wf_frames.specs.Layout.{WordsValue, frame_word_place}
use Rattle.wf_views.specs.Views.{ViewValue}
use Rattle.wf_flat.specs.Counts.{used_of}
use Rattle.wf_flat.specs.State.{FlatState, GenState}
use Rattle.wf_start.specs.Laying.{first_live}
use Rattle.wf_start.specs.Start.{AreFirstWords, data_first, frame_at_start, is_data_frame, nodes_first}
use Rattle.wf_boot.specs.Frames.{AreLaidOut}
use Rattle.wf_laying.specs.Words.{WordsLaidOut}

module _ (s : FlatState) (gen : GenState) where
  before_data : (f : ℕ) → f < data_first gen → is_data_frame s gen f ≡ false
  before_data f lt = (let a : nat_le (data_first gen) f ≡ false = grind (arith, nat_tests) in rw a refl)

  in_data : (f : ℕ) → data_first gen ≤ f → f < nodes_first s gen → is_data_frame s gen f ≡ true
  in_data f ge lt =
      let a : nat_le (data_first gen) f ≡ true = grind (arith, nat_tests) in
      let b : nat_lt f (nodes_first s gen) ≡ true = grind (arith, nat_tests) in
      rw (a, b) refl

  behind_data : (f : ℕ) → nodes_first s gen ≤ f → is_data_frame s gen f ≡ false
  behind_data f ge =
      let past : data_first gen ≤ f = omega arith in
      let a : nat_le (data_first gen) f ≡ true = grind (arith, nat_tests) in
      let b : nat_lt f (nodes_first s gen) ≡ false = grind (arith, nat_tests) in
      rw (a, b) refl

  pub frames_first : (frames : FramesValue) (nodes : ℕ) → AreLaidOut frames s.limits (length gen.text) (length s.pages) nodes → used_of s ≡ nodes_first s gen + nodes → (f : ℕ) → f < s.limits.frames
      → slice_get frames.frames f ≡ Some (frame_at_start s gen f)
  frames_first frames nodes are used f low = elim (cases_lt f (data_first gen)) [
    | inl lt ↦ (
        let small : f < used_of s = omega arith in
        let a : nat_lt f (used_of s) ≡ true = grind (arith, nat_tests) in
        are.with_text f lt ∙ rw (a, before_data f lt) refl
        )
    | inr ge ↦ (elim (cases_lt f (nodes_first s gen)) [
      | inl lt ↦ (
          let small : f < used_of s = omega arith in
          let a : nat_lt f (used_of s) ≡ true = grind (arith, nat_tests) in
          let z : f ≡ length gen.text + (f - length gen.text) = omega arith in
          ap (slice_get frames.frames) z ∙ are.with_data (f - length gen.text) (omega arith) ∙ rw (a, in_data f ge lt) refl
          )
      | inr past ↦ (elim (cases_lt f (used_of s)) [
        | inl lt ↦ (
            let a : nat_lt f (used_of s) ≡ true = grind (arith, nat_tests) in
            let z : f ≡ length gen.text + length s.pages + (f - (length gen.text + length s.pages)) = omega arith in
            ap (slice_get frames.frames) z ∙ are.with_nodes (f - (length gen.text + length s.pages)) (omega arith) ∙ rw (a, behind_data f past) refl
            )
        | inr all ↦ (
            let a : nat_lt f (used_of s) ≡ false = grind (arith, nat_tests) in
            are.free f (omega arith) low ∙ rw a refl
            )
      ])
    ])
  ]

  -- where the counts are those of the state
  pub frames_at_start : (frames : FramesValue) (text pages nodes : ℕ) → AreLaidOut frames s.limits text pages nodes → text ≡ length gen.text → pages ≡ length s.pages → used_of s ≡ nodes_first s gen + nodes → (f : ℕ) → f < s.limits.frames
      → slice_get frames.frames f ≡ Some (frame_at_start s gen f)
  frames_at_start frames text pages nodes are t p used =
      frames_first frames nodes (subst (λ (n : ℕ). AreLaidOut frames s.limits (length gen.text) n nodes) p (subst (λ (n : ℕ). AreLaidOut frames s.limits n pages nodes) t are)) used

  pub words_first : (view : ViewValue) (words : WordsValue) → WordsLaidOut words s.limits.frames gen.text s.pages view → AreFirstWords s gen view words
  words_first view words are = record {
    frames = are.count;
    whole = are.whole;
    zero_word = are.zero_word;
    frame_words = frame_words;
    text = are.with_text;
    data_pages = are.with_data;
    nodes = are.with_nodes;
  }
    where
      frame_words : (f : ℕ) → f < s.limits.frames → slice_index words.items (frame_word_place f) ≡ (if is_data_frame s gen f then first_live else 0)
      frame_words f low = elim (cases_lt f (data_first gen)) [
        | inl lt ↦ are.dead f low (λ j lj same. absurd (omega arith)) ∙ rw (before_data f lt) refl
        | inr ge ↦ (elim (cases_lt f (nodes_first s gen)) [
          | inl lt ↦ (
              let z : f ≡ length gen.text + (f - length gen.text) = omega arith in
              ap (λ (k : ℕ). slice_index words.items (frame_word_place k)) z ∙ are.live (f - length gen.text) (omega arith) ∙ rw (in_data f ge lt) refl
              )
          | inr past ↦ are.dead f low (λ j lj same. absurd (omega arith)) ∙ rw (behind_data f past) refl
        ])
      ]
