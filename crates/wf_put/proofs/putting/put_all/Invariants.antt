use Rattle.std.proofs.Common.{◌≤◌}
use Rattle.wf_put.proofs.PutLemmas.{Sends}
use Rattle.wf_put.proofs.putting.put_all.Given as goal

abbrev pub invariant-loop-piece : goal.invariant-loop-piece
invariant-loop-piece g l = record {
  sent : Sends (g.K.Sink.got l.fn.sink) (g.K.Sink.got l.sink) l.bytes l.piece-iterator.rest.now;
  count : g.K.Sink.faults l.fn.sink ≤ g.K.Sink.faults l.sink;
}
