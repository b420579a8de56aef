use Rattle.std.proofs.Common.{arith}
use Rattle.wf_put.proofs.PutLemmas.{sends_more, prefix_more, sends_all, sends_front}
use Rattle.wf_put.proofs.putting.put_all.Goals as goal

pub loop-piece-preserved : goal.loop-piece-preserved
loop-piece-preserved g c = record {
  sent = sends_more _ _ _ _ _ _ _ c.loop-piece.invariant.sent c.in-Some.ensures.steps.1.0 c.in-Ok.ensures.ok;
  count = omega (arith, c.loop-piece.invariant.count, c.in-Ok.ensures.count);
}

pub returns-in-Err-Failed-clause-prefix : goal.returns-in-Err-Failed-clause-prefix
returns-in-Err-Failed-clause-prefix g c =
    prefix_more _ _ _ _ _ _ _ c.loop-piece.invariant.sent c.in-Some.ensures.steps.1.0 c.in-Err-Failed.ensures.prefix

pub returns-in-Err-Memory-clause-prefix : goal.returns-in-Err-Memory-clause-prefix
returns-in-Err-Memory-clause-prefix g c =
    prefix_more _ _ _ _ _ _ _ c.loop-piece.invariant.sent c.in-Some.ensures.steps.1.0 c.in-Err-Memory.ensures.prefix

pub returns-clause-ok : goal.returns-clause-ok
returns-clause-ok g c = sends_all _ _ _ _ c.loop-piece.invariant.sent c.in-None.ensures.steps.1.0

pub returns-clause-prefix : goal.returns-clause-prefix
returns-clause-prefix g c = sends_front _ _ _ _ c.loop-piece.invariant.sent c.in-None.ensures.steps.1.0
