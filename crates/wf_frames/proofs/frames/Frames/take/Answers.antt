use Rattle.std.proofs.Common.{arith}
use Rattle.wf_frames.proofs.FrameLemmas.{taken_more, free_more}
use Rattle.wf_frames.proofs.frames.Frames.take.Goals as goal

pub loop-preserved : goal.loop-preserved
loop-preserved c = (
  omega (arith, c.push_reserved.ensures.len),
  omega (arith, c.push_reserved.ensures.capacity),
  free_more _ _ _ _ _ _ c.loop.invariant.2 c.take_lowest-frame.ensures.lowest c.push_reserved.ensures.items,
  taken_more _ _ _ _ _ _ c.take_lowest-frame.ensures.changed c.loop.invariant.3 c.push_reserved.ensures.items,
)
