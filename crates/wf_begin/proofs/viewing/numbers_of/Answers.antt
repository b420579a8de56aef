use Rattle.std.proofs.Common.{◌++◌, ◌+◌, ◌∙◌, ℕ, List, drop, sym, ap}
use Rattle.std.proofs.lemmas.Option.{slice_get-get_or}
use Rattle.wf_begin.proofs.NumberLemmas.{next_added}
use Rattle.wf_boot.proofs.PageLemmas.{drop_next}
use Rattle.wf_begin.proofs.viewing.numbers_of.Goals as goal

pub loop-number-preserved : goal.loop-number-preserved
loop-number-preserved c =
    next_added c.args.numbers.now (drop (c.loop-number.number-index + 1) c.args.numbers.now) _ c.loop-number.made c.put.new.self c.requires
    (sym (ap (λ (ns : List ℕ). c.loop-number.made.items ++ ns) (drop_next c.args.numbers.now c.loop-number.number-index _ (slice_get-get_or c.args.numbers.now c.loop-number.number-index 0 c.loop-number-test.true))) ∙ c.loop-number.invariant) c.in_ok-put.ensures.ok
