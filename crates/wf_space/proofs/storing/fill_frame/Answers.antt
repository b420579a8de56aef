use Rattle.std.proofs.Common.{◌≡◌, ◌<◌, ◌+◌, ◌∙◌, ℕ, length, refl, sym, ap, arith}
use Rattle.std.specs.Prelude.{slice_index}
use Rattle.wf_frames.specs.Layout.{word_place}
use Rattle.wf_homes.specs.Kept.{with_word}
use Rattle.wf_space.proofs.FillLemmas.{fill_more}
use Rattle.wf_space.proofs.storing.fill_frame.Goals as goal

pub loop-i-preserved : goal.loop-i-preserved
loop-i-preserved c =
    let now = c.loop-i.words in
    let word : ℕ = slice_index c.args.page.now c.loop-i.i in
    let frames : c.frames-frames.result ≡ c.loop-i.words.frames = c.frames-frames.ensures.value ∙ sym c.loop-i.invariant.frames in
    let place : c.word_place.result ≡ word_place c.loop-i.words.frames c.args.frame c.loop-i.i = c.word_place.ensures.value ∙ ap (λ (n : ℕ). word_place n c.args.frame c.loop-i.i) frames in
    let there : word_place c.loop-i.words.frames c.args.frame c.loop-i.i < length c.loop-i.words.items = rw (← place) c.set.ensures.there in
    fill_more c.args.words.now now c.set.new.self c.args.frame c.args.page.now c.loop-i.i (c.loop-i.i + 1) word refl c.loop-i.invariant (omega arith) refl there (c.set.ensures.value ∙ ap (λ (at : ℕ). with_word now at word) place)
