use Rattle.std.proofs.Common.{arith}
use Rattle.wf_flat.proofs.WordLemmas.{word_fits, mid_is}
use Rattle.wf_access.proofs.choosing.word_with.Goals as goal

pub overflow_mul-result-2 : goal.overflow_mul-result-2
overflow_mul-result-2 c =
    let k = word_fits c.args.word c.args.at c.args.width c.args.value c.span_of-low.result c.span_of-span.result (omega arith) c.requires.within c.requires.place c.span_of-low.ensures c.span_of-span.ensures in
    omega arith

pub overflow_add-result-2 : goal.overflow_add-result-2
overflow_add-result-2 c =
    let k = word_fits c.args.word c.args.at c.args.width c.args.value c.span_of-low.result c.span_of-span.result (omega arith) c.requires.within c.requires.place c.span_of-low.ensures c.span_of-span.ensures in
    omega arith

pub returns : goal.returns
returns c = rw (← c.span_of-low.ensures, ← c.span_of-span.ensures) (mid_is c.args.word c.args.value c.span_of-low.result c.span_of-span.result)
