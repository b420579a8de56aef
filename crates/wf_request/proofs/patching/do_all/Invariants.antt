use Rattle.std.proofs.Common.{drop}
use Rattle.wf_request.proofs.UndoLemmas.{IsUnderWay}
use Rattle.wf_request.proofs.patching.do_all.Given as goal

abbrev pub invariant-loop-next : goal.invariant-loop-next
invariant-loop-next l = IsUnderWay l.deltas l.fn.flat l.todo l.flat (drop l.next-index l.todo)
