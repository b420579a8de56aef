use Rattle.wf_replay.specs.Replayed.{moment_at}
use Rattle.wf_replay.proofs.stepping.pass.Goals as goal

pub call_after-requires-clause-patches : goal.call_after-requires-clause-patches
call_after-requires-clause-patches c = (c.sound_is_within_limits.ensures (moment_at c.args.deltas.now c.args.replayed.now) c.requires.sound).1
