use Rattle.std.proofs.Common.{◌∙◌, sym, ap, subst, rules, map, IsUtf8, Bor}
use Rattle.wf_usage.specs.Usages.{Word}
use Rattle.wf_usage.proofs.TextLemmas.{more_texts, raw_word, text_word}
use Rattle.wf_usage.proofs.texts.texts_of.Goals as goal

pub returns-in-Err : goal.returns-in-Err
returns-in-Err c = raw_word c.args.words.now c.loop-word.word-index c.word-item.result (search rules) c.word-item.is
    (λ text. c.in-Err.ensures.cases.0 (subst IsUtf8 (sym c.bytes.ensures) text)) c.loop-word.invariant.rest

pub loop-word-preserved : goal.loop-word-preserved
loop-word-preserved c = record {
  texts = ap (map (λ (t : Bor Word). t.now)) c.in_ok-push-in-Ok.ensures.items
      ∙ more_texts c.loop-word.texts.items c.in-Ok.text c.args.words.now c.loop-word.word-index c.word-item.result (search rules) c.word-item.is
      (c.in-Ok.ensures.cases.0 ∙ c.bytes.ensures) c.loop-word.invariant.texts;
  rest = text_word c.args.words.now c.loop-word.word-index c.word-item.result (search rules) c.word-item.is
      (subst IsUtf8 c.bytes.ensures c.in-Ok.ensures.cases.1) c.loop-word.invariant.rest;
}
