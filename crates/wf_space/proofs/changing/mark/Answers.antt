use Rattle.std.proofs.Common.{ap}
use Rattle.wf_frames.specs.Frames.{FramesValue}
use Rattle.wf_space.proofs.GiveLemmas.{marked_low, marked_raised}
use Rattle.wf_space.proofs.changing.mark.Goals as goal

pub raise-requires : goal.raise-requires
raise-requires c = marked_low c.args.records.now.frames c.mark.new.self c.args.frame c.requires c.mark.ensures

pub returns-then-raise : goal.returns-then-raise
returns-then-raise c =
    ap (λ (frames : FramesValue). record c.args.records.now { frames = frames })
    (marked_raised c.args.records.now.frames c.mark.new.self c.raise.new.self c.args.frame c.args.raise c.if-raise.true c.mark.ensures c.raise.ensures)
