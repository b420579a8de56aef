use Rattle.std.proofs.Common.{◌∙◌, ap, arith}
use Rattle.wf_text.proofs.NumberLemmas.{sixteen, read_if, number_complete}
use Rattle.wf_text.specs.Numbers.{number_of}
use Rattle.wf_text.proofs.numbers.hex_of.Goals as goal

pub returns-clause-read : goal.returns-clause-read
returns-clause-read c = read_if 16 sixteen c.args.most c.args.bytes.now c.number_of.result (omega arith) c.number_of.ensures

pub returns-clause-only : goal.returns-clause-only
returns-clause-only c = λ n few e. c.number_of.ensures ∙ ap (number_of 16 c.args.most) e ∙ number_complete 16 sixteen c.args.most n (omega arith) few
