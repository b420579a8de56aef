use Rattle.std.proofs.Common.{◌+◌, refl}
use Rattle.wf_laying.proofs.LayLemmas.{live_next, none_live}
use Rattle.wf_laying.proofs.laying.make_all_live.Goals as goal

pub loop-i-init : goal.loop-i-init
loop-i-init c = none_live c.args.words.now c.args.first

pub loop-i-preserved : goal.loop-i-preserved
loop-i-preserved c =
    live_next c.args.words.now c.loop-i.words c.make_first_live.new.words c.args.first (c.args.first + c.loop-i.i) c.loop-i.i (c.loop-i.i + 1) c.loop-i.invariant refl refl c.make_first_live.ensures.there c.make_first_live.ensures.live
