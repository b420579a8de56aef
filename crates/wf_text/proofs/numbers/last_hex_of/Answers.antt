use Rattle.std.proofs.Common.{◌∙◌, ap}
use Rattle.wf_text.proofs.NumberLemmas.{last_if, last_complete}
use Rattle.wf_text.specs.Numbers.{number_from, glyph_value}
use Rattle.wf_text.proofs.numbers.last_hex_of.Goals as goal

pub returns-clause-read : goal.returns-clause-read
returns-clause-read c = last_if c.args.most c.args.bytes.now c.number_in.result c.number_in.ensures

pub returns-clause-only : goal.returns-clause-only
returns-clause-only c = λ n width few small e. c.number_in.ensures ∙ ap (number_from glyph_value 16 c.args.most 0) e ∙ last_complete width n c.args.most small few
