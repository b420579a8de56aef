use Rattle.wf_process.proofs.FindLemmas.{no_text_at_data, no_text_missing, text_bytes_found}
use Rattle.wf_process.proofs.finding.text_number.Goals as goal

pub returns-in-Text : goal.returns-in-Text
returns-in-Text c = text_bytes_found c.args.words.now c.args.records.now c.args.generation c.args.va c.args.width c.in-Text.frame c.number_at.result c.in-Text.ensures.told c.number_at.ensures

pub returns-in-Data : goal.returns-in-Data
returns-in-Data c = no_text_at_data c.args.words.now c.args.records.now c.args.generation c.args.va c.args.width c.in-Data.frame c.in-Data.write c.in-Data.ensures.told

pub returns-in-Missing : goal.returns-in-Missing
returns-in-Missing c = no_text_missing c.args.words.now c.args.records.now c.args.generation c.args.va c.args.width c.in-Missing.ensures.told
