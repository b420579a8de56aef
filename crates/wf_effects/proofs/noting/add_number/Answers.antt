use Rattle.std.proofs.Common.{◌∙◌, ◌≤◌, get_or, arith}
use Rattle.wf_effects.proofs.NotingLemmas.{number_there, number_new}
use Rattle.wf_effects.proofs.noting.add_number.Goals.{else-at-len-via-then-at-len+else-index-n, else-at-len-via-else-at-len}
use Rattle.wf_effects.proofs.noting.add_number.Goals as goal

pub returns-then-index-n : goal.returns-then-index-n
returns-then-index-n c =
    number_there c.args.n c.args.numbers.now.items c.place_of-at.result c.index.result.now (omega arith) (rw c.deref.ensures.value at c.place_of-at.ensures.below) (omega arith)

pub returns : goal.returns
returns c = c.in_ok-insert.ensures.items ∙ elim c.else-at-len.branch [
  | else-at-len-via-then-at-len+else-index-n w ↦ number_new c.args.n c.args.numbers.now.items c.place_of-at.result w.index.result.now (omega arith) (rw c.deref.ensures.value at c.place_of-at.ensures.below) (λ lt. (let low : c.args.n ≤ get_or c.args.numbers.now.items c.place_of-at.result w.index.result.now = (rw c.deref.ensures.value at c.place_of-at.ensures.at) w.index.result.now lt in omega arith))
  | else-at-len-via-else-at-len w ↦ number_new c.args.n c.args.numbers.now.items c.place_of-at.result 0 (omega arith) (rw c.deref.ensures.value at c.place_of-at.ensures.below) (λ lt. absurd (omega arith))
]
