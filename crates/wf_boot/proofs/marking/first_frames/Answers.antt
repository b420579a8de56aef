use Rattle.wf_boot.proofs.OutLemmas.{first_fresh, laid_out, second_fresh, third_fresh}
use Rattle.wf_boot.proofs.marking.first_frames.Goals as goal

pub use_frames-requires-clause-fresh : goal.use_frames-requires-clause-fresh
use_frames-requires-clause-fresh c = first_fresh c.args.limits c.args.text c.args.pages c.args.nodes c.requires c.in_ok-frames.frames c.in_ok-frames.ensures.frames

pub use_frames-requires-2-clause-fresh : goal.use_frames-requires-2-clause-fresh
use_frames-requires-2-clause-fresh c = second_fresh c.args.limits c.args.text c.args.pages c.args.nodes c.requires c.in_ok-frames.frames c.in_ok-frames.ensures.frames c.use_frames.new.frames c.use_frames.ensures

pub use_frames-requires-3-clause-fresh : goal.use_frames-requires-3-clause-fresh
use_frames-requires-3-clause-fresh c =
    third_fresh c.args.limits c.args.text c.args.pages c.args.nodes c.requires c.in_ok-frames.frames c.in_ok-frames.ensures.frames c.use_frames.new.frames c.use_frames.ensures c.use_frames-2.new.frames c.use_frames-2.ensures

pub returns : goal.returns
returns c =
    laid_out c.args.limits c.args.text c.args.pages c.args.nodes c.requires c.in_ok-frames.frames c.in_ok-frames.ensures.frames c.use_frames.new.frames c.use_frames.ensures c.use_frames-2.new.frames c.use_frames-2.ensures c.use_frames-3.new.frames
    c.in_ok-frames.ensures.last_birth c.use_frames-3.ensures
