use Rattle.std.proofs.Common.{◌+◌, refl}
use Rattle.wf_boot.proofs.MarkLemmas.{none_used, still_free, used_next}
use Rattle.wf_boot.proofs.marking.use_frames.Goals as goal

pub loop-i-init : goal.loop-i-init
loop-i-init c = none_used c.args.frames.now c.args.first c.args.is_data

pub use_frame-requires : goal.use_frame-requires
use_frame-requires c = still_free c.args.frames.now c.loop-i.frames c.args.first (c.args.first + c.loop-i.i) c.loop-i.i c.args.count c.args.is_data c.requires.fresh c.loop-i.invariant refl c.loop-i-test.true

pub loop-i-preserved : goal.loop-i-preserved
loop-i-preserved c =
    used_next c.args.frames.now c.loop-i.frames c.use_frame.new.frames c.args.first (c.args.first + c.loop-i.i) c.loop-i.i (c.loop-i.i + 1) c.args.count c.args.is_data c.requires.fresh c.loop-i.invariant refl refl c.loop-i-test.true c.use_frame.ensures
