use Rattle.wf_request.proofs.UndoLemmas.{way_first, way_more}
use Rattle.wf_request.proofs.patching.do_all.Goals as goal

pub loop-next-init : goal.loop-next-init
loop-next-init c = way_first c.args.deltas.now c.args.flat.now c.args.todo.now c.requires

pub loop-next-preserved : goal.loop-next-preserved
loop-next-preserved c =
    way_more c.args.deltas.now c.args.flat.now c.loop-next.flat c.change.new.flat c.args.todo.now c.loop-next.next-index _ c.event_of.result c.requires.no_try c.loop-next-test.true c.loop-next.invariant c.event_of.ensures c.in_ok-change.ensures.state
