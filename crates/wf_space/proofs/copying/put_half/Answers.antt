use Rattle.std.proofs.Common.{◌/◌, ◌%◌, ◌∙◌, ℕ, ap}
use Rattle.wf_frames.specs.Layout.{word_place}
use Rattle.wf_flat.specs.Memory.{word_with}
use Rattle.wf_space.proofs.CopyLemmas.{half_stored}
use Rattle.wf_space.proofs.copying.put_half.Goals as goal

pub returns-clause-made : goal.returns-clause-made
returns-clause-made c =
    half_stored c.args.words.now c.set.new.self c.args.frame c.args.at c.args.value c.word_with.result c.word_place-place.result c.requires.within
    (c.word_place-place.ensures.value ∙ ap (λ (n : ℕ). word_place n c.args.frame (c.args.at / 8)) c.frames.ensures.value) c.set.ensures.there
    (c.word_with.ensures ∙ ap (λ (w : ℕ). word_with w (c.args.at % 8) 4 c.args.value) c.get-word.ensures.value) c.set.ensures.value
