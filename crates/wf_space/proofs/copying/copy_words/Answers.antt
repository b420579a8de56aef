use Rattle.std.proofs.Common.{◌≡◌, ◌<◌, ◌+◌, ◌∙◌, ℕ, length, refl, sym, ap, arith}
use Rattle.std.specs.Prelude.{slice_index}
use Rattle.wf_frames.specs.Layout.{WordsValue, word_place}
use Rattle.wf_homes.specs.Kept.{with_word}
use Rattle.wf_space.proofs.CopyLemmas.{source_same}
use Rattle.wf_space.proofs.FillLemmas.{fill_more}
use Rattle.wf_space.proofs.copying.copy_words.Goals as goal

pub loop-i-preserved : goal.loop-i-preserved
loop-i-preserved c =
    let now = c.loop-i.words in
    let frames : c.frames-frames.result ≡ c.loop-i.words.frames = c.frames-frames.ensures.value ∙ sym c.loop-i.invariant.same in
    let source : c.word_place.result ≡ word_place c.loop-i.words.frames c.args.source c.loop-i.i = c.word_place.ensures.value ∙ ap (λ (n : ℕ). word_place n c.args.source c.loop-i.i) frames in
    let place : c.word_place-in-loop-i.result ≡ word_place c.loop-i.words.frames c.args.frame c.loop-i.i = c.word_place-in-loop-i.ensures.value ∙ ap (λ (n : ℕ). word_place n c.args.frame c.loop-i.i) frames in
    let lt : c.loop-i.i < 512 = omega arith in
    let there : word_place c.loop-i.words.frames c.args.frame c.loop-i.i < length c.loop-i.words.items = rw (← place) c.set.ensures.there in
    record {
      same = ap (λ (w : WordsValue). w.frames) c.set.ensures.value ∙ c.loop-i.invariant.same;
      copied = λ page has. (
          let to = c.loop-i.invariant.copied page has in
          let is : c.get-word.result ≡ slice_index page c.loop-i.i =
          c.get-word.ensures.value ∙ ap (λ (at : ℕ). slice_index c.loop-i.words.items at) source
          ∙ source_same c.args.words.now now c.args.source c.args.frame c.loop-i.i c.loop-i.i page c.requires.apart to c.requires.source lt ∙ has c.loop-i.i lt in
          fill_more c.args.words.now now c.set.new.self c.args.frame page c.loop-i.i (c.loop-i.i + 1) c.get-word.result refl to lt is there (c.set.ensures.value ∙ ap (λ (at : ℕ). with_word now at c.get-word.result) place)
          );
    }
