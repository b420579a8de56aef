use Rattle.std.proofs.Common.{arith}
use Rattle.wf_outside.proofs.TakingLemmas.{more_takes}
use Rattle.wf_outside.proofs.shelf.read_up_to.Goals as goal

pub returns-in_err-take_some-clause-at_most : goal.returns-in_err-take_some-clause-at_most
returns-in_err-take_some-clause-at_most g c =
    more_takes _ _ _ c.loop-buffer.bytes.items _ _ c.loop-buffer.invariant.taken c.take_some.ensures.at_most (omega (arith, c.loop-buffer.bytes.ok.0))
