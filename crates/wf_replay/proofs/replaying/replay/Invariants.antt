use Rattle.std.proofs.Common.{◌≡◌, take}
use Rattle.wf_legal.specs.Legal.{IsLegal, at_rest, end_of}
use Rattle.wf_replay.specs.Replayed.{moment_at}
use Rattle.wf_replay.proofs.replaying.replay.Given as goal

abbrev pub invariant-loop-i : goal.invariant-loop-i
invariant-loop-i l =
    IsLegal (at_rest l.deltas l.fn.start) (take l.i l.journal)
    × (moment_at l.deltas l.replayed ≡ end_of (at_rest l.deltas l.fn.start) (take l.i l.journal))
