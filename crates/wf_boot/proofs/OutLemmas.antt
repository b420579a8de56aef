-- Frames that are laid out at the start: text, data, nodes.
use Rattle.std.proofs.Common.{◌≡◌, ◌<◌, ◌≤◌, ◌+◌, ℕ, List, true, false, Some, length, replicate, ap, ◌∙◌, arith}
use Rattle.std.specs.Prelude.{slice_get}
use Rattle.std.proofs.lemmas.List.{get_or-replicate, length-replicate}
use Rattle.std.proofs.lemmas.Option.{slice_get-get_or}
use Rattle.wf_outside.specs.Pages.{LimitsValue}
use Rattle.wf_frames.specs.declared.state.Frame.{Frame}
use Rattle.wf_frames.specs.Frames.{FramesValue, new_frames}
use Rattle.wf_space.specs.Changes.{marked}
use Rattle.wf_start.specs.Marking.{AreFresh, AreUsed, fresh_frame}
use Rattle.wf_boot.specs.Frames.{AreLaidOut}

new_length : (count : ℕ) → length (new_frames count) ≡ count
unfolding new_frames
new_length count = length-replicate count fresh_frame

new_fresh : (count f : ℕ) → f < count → slice_get (new_frames count) f ≡ Some fresh_frame
unfolding new_frames
new_fresh count f lt = slice_get-get_or (replicate count fresh_frame) f fresh_frame (omega (arith, length-replicate count fresh_frame)) ∙ ap Some (get_or-replicate count f fresh_frame fresh_frame lt)

module _ (limits : LimitsValue) (t p n : ℕ) (le : t + p + n ≤ limits.frames) (f0 : FramesValue) (is : f0.frames ≡ new_frames limits.frames) where
  fresh_0 : (f : ℕ) → f < limits.frames → slice_get f0.frames f ≡ Some fresh_frame
  fresh_0 f lt = ap (λ (fs : List Frame). slice_get fs f) is ∙ new_fresh limits.frames f lt

  pub first_fresh : AreFresh f0 0 t
  first_fresh j lt = fresh_0 (0 + j) (omega arith)

  module _ (f1 : FramesValue) (one : AreUsed f0 f1 0 t false) where
    past_1 : (f : ℕ) → t ≤ f → f < limits.frames → slice_get f1.frames f ≡ Some fresh_frame
    past_1 f ge lt = one.others f (λ j lj same. absurd (omega arith)) ∙ fresh_0 f lt

    pub second_fresh : AreFresh f1 t p
    second_fresh j lt = past_1 (t + j) (omega arith) (omega arith)

    module _ (f2 : FramesValue) (two : AreUsed f1 f2 t p true) where
      past_2 : (f : ℕ) → t + p ≤ f → f < limits.frames → slice_get f2.frames f ≡ Some fresh_frame
      past_2 f ge lt = two.others f (λ j lj same. absurd (omega arith)) ∙ past_1 f (omega arith) lt

      pub third_fresh : AreFresh f2 (t + p) n
      third_fresh j lt = past_2 (t + p + j) (omega arith) (omega arith)

      pub laid_out : (f3 : FramesValue) → f0.last_birth ≡ limits.last_birth → AreUsed f2 f3 (t + p) n false → AreLaidOut f3 limits t p n
      laid_out f3 last three =
          let last_1 : f1.last_birth ≡ limits.last_birth = one.last_birth ∙ last in
          let last_2 : f2.last_birth ≡ limits.last_birth = two.last_birth ∙ last_1 in
          record {
            last_birth = three.last_birth ∙ last_2;
            count = three.count ∙ two.count ∙ one.count ∙ ap length is ∙ new_length limits.frames;
            with_text = λ j lt.
                (let z : j ≡ 0 + j = omega arith in
                three.others j (λ k lk same. absurd (omega arith))
                ∙ two.others j (λ k lk same. absurd (omega arith))
                ∙ ap (slice_get f1.frames) z
                ∙ one.used j lt
                ∙ ap (λ (m : ℕ). Some (marked m false fresh_frame)) last);
            with_data = λ j lt. (three.others (t + j) (λ k lk same. absurd (omega arith)) ∙ two.used j lt ∙ ap (λ (m : ℕ). Some (marked m true fresh_frame)) last_1);
            with_nodes = λ j lt. (three.used j lt ∙ ap (λ (m : ℕ). Some (marked m false fresh_frame)) last_2);
            free = λ f ge lt. (three.others f (λ k lk same. absurd (omega arith)) ∙ past_2 f (omega arith) lt);
          }
