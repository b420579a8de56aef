use Rattle.std.proofs.Common.{◌++◌, ◌∷◌, [], ◌+◌, ◌∙◌, ℕ, List, ap}
use Rattle.wf_effects.proofs.MappedLemmas.{range_more}
use Rattle.wf_effects.proofs.ranges.numbers_from.Goals as goal

pub loop-i-preserved : goal.loop-i-preserved
loop-i-preserved c =
    c.in_ok-push.ensures.items ∙ ap (λ (ns : List ℕ). ns ++ (c.args.first + c.loop-i.i) ∷ []) c.loop-i.invariant ∙ range_more c.args.first c.loop-i.i
