use Rattle.wf_translation.proofs.ReadLemmas.{data_fetched, none_fetched, text_fetched}
use Rattle.wf_translation.proofs.reading.fetch.Goals as goal

pub returns-in-Text : goal.returns-in-Text
returns-in-Text c = text_fetched c.args.words.now c.args.records.now c.args.generation c.args.pc c.in-Text.frame c.word_at.result c.in-Text.ensures.told c.word_at.ensures

pub returns-in-Data : goal.returns-in-Data
returns-in-Data c = data_fetched c.args.words.now c.args.records.now c.args.generation c.args.pc c.in-Data.frame c.in-Data.write c.in-Data.ensures.told

pub returns-in-Missing : goal.returns-in-Missing
returns-in-Missing c = none_fetched c.args.words.now c.args.records.now c.args.generation c.args.pc c.in-Missing.ensures.told
