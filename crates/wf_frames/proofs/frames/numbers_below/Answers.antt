use Rattle.std.proofs.Common.{◌∙◌, ◌++◌, ◌∷◌, [], ap, sym, arith}
use Rattle.wf_frames.proofs.FrameLemmas.{range_push_0}
use Rattle.wf_frames.proofs.frames.numbers_below.Goals as goal

pub loop-number-preserved : goal.loop-number-preserved
loop-number-preserved c = (
  c.push_back_reserved.ensures.items ∙ ap (λ ns. ns ++ c.loop-number.number ∷ []) c.loop-number.invariant.0 ∙ sym (range_push_0 c.loop-number.number),
  omega arith,
  omega (arith, c.push_back_reserved.ensures.capacity),
)
